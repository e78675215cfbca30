-- `put_written` meets its contract: no event for a run of which no byte is shown, one for a run of data or an element that opens, two for an EMPTY element.
use Prim.Native.Nat.{◌<◌}
use mathlib.Core.Path.{◌≡◌}
use native.Mathlib.Omega.{arith}
use Rattle.placing.specs.Places.{writes_run, writes_nothing, writes_opened, writes_empty}
use Rattle.placing.proofs.put_written.Goals as goal

pub returns-then-at-shown : goal.returns-then-at-shown
returns-then-at-shown c = let a = c.args in
    let run : a.x.0 ≡ 0 = omega (arith, c.if-x-eq0.true) in
    let nothing : a.at ≡ a.shown = omega (arith, c.if-at-shown.true) in
    writes_nothing a.shown a.taken.0 run nothing

pub returns-then-x-eq0 : goal.returns-then-x-eq0
returns-then-x-eq0 c = let run : c.args.x.0 ≡ 0 = omega (arith, c.if-x-eq0.true) in
    let less : c.args.at < c.args.shown = omega (arith, c.if-at-shown.false, c.requires.2) in
    writes_run c.args.shown c.args.taken.0 run less c.put_event.ensures.0 c.put_event.ensures.1

pub returns-then-opens : goal.returns-then-opens
returns-then-opens c = let a = c.args in
    let element : a.x.0 ≡ 0 → ⊥ = (λ z. omega (arith, c.if-x-eq0.false)) in
    writes_opened a.shown a.taken.0 element c.opens.ensures c.put_event-m.ensures.0 c.put_event-m.ensures.1 c.if-opens.true

pub returns : goal.returns
returns c = let a = c.args in
    let element : a.x.0 ≡ 0 → ⊥ = (λ z. omega (arith, c.if-x-eq0.false)) in
    writes_empty a.shown a.taken.0 element c.opens.ensures c.put_event-m.ensures.0 c.put_event-m.ensures.1 c.if-opens.false c.put_event-2.ensures.0 c.put_event-2.ensures.1
