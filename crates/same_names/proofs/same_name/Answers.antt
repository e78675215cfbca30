use mathlib.Core.Path.{sym, ◌∙◌}
use native.Mathlib.Omega.{arith}
use Rattle.same_names.specs.Keys.{unlike_name, unlike_key}
use Rattle.same_names.proofs.same_name.Goals as goal
use Rattle.same_names.proofs.same_name.Goals.{else-keys-i-via-then-keys-i+else-same_place, else-keys-i-via-else-keys-i}

pub loop-i-init : goal.loop-i-init
loop-i-init c = (omega arith, omega arith, record { other = λ x a b. absurd (omega arith) })

pub returns-then-same_place : goal.returns-then-same_place
returns-then-same_place c =
    let inv = c.loop-i.invariant in
    (inv.0, omega arith, inv.2.other, sym (c.same_place.ensures _ (omega arith) (omega arith)) ∙ c.if-same_place.true)

pub loop-i-preserved : goal.loop-i-preserved
loop-i-preserved c =
    let inv = c.loop-i.invariant in (
      omega arith,
      omega arith,
      elim c.else-keys-i.branch [
        | else-keys-i-via-then-keys-i+else-same_place w ↦ unlike_name _ _ _ _ _ _ inv.2 _ (w.same_place.ensures _ (omega arith) (omega arith)) w.if-same_place.false
        | else-keys-i-via-else-keys-i w ↦ unlike_key _ _ _ _ _ _ inv.2 c.args.keys.now c.requires.by_index (omega arith) (omega arith) (omega arith) (omega arith) w.if-keys-i.false
      ],
    )

pub returns : goal.returns
returns c x a b = c.loop-i.invariant.2.other x a (omega arith)
