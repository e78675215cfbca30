use Rattle.std.proofs.Common.{subst, arith}
use Rattle.stretches.specs.Fit.{ApartFrom}
use Rattle.stretches.specs.Tests.{all_turn}
use Rattle.stretches.proofs.all_apart.Goals as goal

pub returns-then-not-is_apart : goal.returns-then-not-is_apart
returns-then-not-is_apart c = let a = c.args in
    let i = c.loop-i.i in
    let (j, k, h, e) =
    subst (ApartFrom a.froms.now a.sizes.now i i) c.if-not-is_apart.true c.is_apart.ensures in
    (i, j, k, omega arith, h, e)

pub loop-i-preserved : goal.loop-i-preserved
loop-i-preserved c = let a = c.args in
    let i = c.loop-i.i in
    all_turn a.froms.now a.sizes.now i c.loop-i.invariant
    (subst (ApartFrom a.froms.now a.sizes.now i i) c.if-not-is_apart.false c.is_apart.ensures)

pub returns : goal.returns
returns c = λ i j k h. c.loop-i.invariant i j k (omega arith)
