use mathlib.Core.Path.{◌≡◌}
use native.Mathlib.Omega.{arith}
use Rattle.member_table.specs.Counting.{needed_null, needed_one}
use Rattle.member_table.proofs.needed_in.Goals as goal
use Rattle.member_table.proofs.needed_in.Goals.{then-not-stack-first, else-not-stack-first}

pub loop-j-preserved : goal.loop-j-preserved
loop-j-preserved c = let x = c.args in
    let i = c.loop-j in
    elim c.if-not-stack-first.branch [
      | then-not-stack-first w ↦ rw w.n-is (omega arith, needed_one x.stack.now x.first i.j i.n i.invariant.1 w.if-not-stack-first.true)
      | else-not-stack-first w ↦ rw w.n-is (omega arith, needed_null x.stack.now x.first i.j i.n i.invariant.1 w.if-not-stack-first.false)
    ]

pub returns : goal.returns
returns c = let full : c.loop-j.j ≡ c.args.k = omega arith in
    (rw full at c.loop-j.invariant.1, omega (arith, c.loop-j.invariant.0))
