-- `end_until` meets its contract: between two turns the rules go on from the present state as they would from the first.
use mathlib.Core.Path.{ap}
use native.Mathlib.Omega.{arith}
use Rattle.open_elements.specs.declared.OpenElements.{OpenElements}
use Rattle.open_elements.specs.Becomes.{passed_on}
use Rattle.left_out_ends.specs.Loop.{goes_start, goes_turn, until_here, until_none, until_refused}
use Rattle.left_out_ends.proofs.end_until.Goals as goal

pub loop-o-init : goal.loop-o-init
loop-o-init c = goes_start c.requires.0

pub returns-then-e-x : goal.returns-then-e-x
returns-then-e-x c = until_here c.loop-o.invariant c.if-e-x.true

pub end_fault-requires : goal.end_fault-requires
end_fault-requires c = c.loop-o.invariant.ranged

pub returns-in_err-end_fault : goal.returns-in_err-end_fault
returns-in_err-end_fault c = rw (passed_on _ c.from_residual.ensures.1) (until_refused c.loop-o.invariant (omega (arith, c.loop-o-test.true)) c.if-e-x.false c.in_err-end_fault.ensures)

pub put_event-k-requires : goal.put_event-k-requires
put_event-k-requires c =
    let g = c.loop-o.invariant in
    let p = c.requires in
    (omega (arith, g.counted, g.few, p.0.few, p.2), omega (arith, g.ranged.element), p.1, omega arith, omega arith)

pub infer_end-o-requires : goal.infer_end-o-requires
infer_end-o-requires c = (c.loop-o.invariant.ranged, omega (arith, c.loop-o-test.true), c.in_ok-end_fault.ensures.0)

pub loop-o-smaller : goal.loop-o-smaller
loop-o-smaller c =
    let e = ap (λ (o : OpenElements). o.count) c.infer_end-o.ensures in
    omega (arith, e, c.loop-o-test.true)

pub loop-o-preserved : goal.loop-o-preserved
loop-o-preserved c = goes_turn c.loop-o.invariant (omega (arith, c.loop-o-test.true)) c.if-e-x.false c.in_ok-end_fault.ensures c.infer_end-o.ensures
    c.put_event-k.ensures.0 c.put_event-k.ensures.1

pub returns : goal.returns
returns c = until_none c.loop-o.invariant (omega (arith, c.loop-o-test.false))
