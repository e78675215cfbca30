use Rattle.std.proofs.Common.{subst, get_or, arith}
use Rattle.stretches.specs.Fit.{Apart}
use Rattle.stretches.specs.Tests.{apart_turn}
use Rattle.stretches.proofs.is_apart.Goals as goal

pub returns-then-not-are_apart : goal.returns-then-not-are_apart
returns-then-not-are_apart c = let a = c.args in
    let j = c.loop-j.j in
    let apart =
    Apart (get_or a.froms.now j 0) (get_or a.sizes.now j 0) (get_or a.froms.now a.i 0)
    (get_or a.sizes.now a.i 0) in
    let (k, x, y) = subst apart c.if-not-are_apart.true c.are_apart.ensures in
    (j, k, omega arith, (x, y))

pub loop-j-preserved : goal.loop-j-preserved
loop-j-preserved c = let a = c.args in
    let j = c.loop-j.j in
    let apart =
    Apart (get_or a.froms.now j 0) (get_or a.sizes.now j 0) (get_or a.froms.now a.i 0)
    (get_or a.sizes.now a.i 0) in
    apart_turn a.froms.now a.sizes.now a.i j c.loop-j.invariant
    (subst apart c.if-not-are_apart.false c.are_apart.ensures)

pub returns : goal.returns
returns c = λ j k h. c.loop-j.invariant j k (omega arith)
