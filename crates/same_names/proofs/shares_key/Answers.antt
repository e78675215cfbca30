use native.Mathlib.Omega.{arith}
use Rattle.same_names.specs.Keys.{shares_start, shares_hit, shares_miss, shares_end}
use Rattle.same_names.proofs.shares_key.Goals as goal
use Rattle.same_names.proofs.shares_key.Goals.{then-keys-x, else-keys-x}

pub loop-x-init : goal.loop-x-init
loop-x-init c = shares_start _ _ _ _ (omega arith)

pub loop-x-preserved : goal.loop-x-preserved
loop-x-preserved c =
    elim c.if-keys-x.branch [
      | then-keys-x w ↦ rw w.some-is (shares_hit _ _ _ _ _ _ c.loop-x.invariant (omega arith) w.if-keys-x.true)
      | else-keys-x w ↦ rw w.some-is (shares_miss _ _ _ _ _ _ c.loop-x.invariant (omega arith) w.if-keys-x.false)
    ]

pub returns : goal.returns
returns c = shares_end _ _ _ _ _ _ c.loop-x.invariant (omega arith)
