-- `put_held` meets its contract: the run goes over the last event where that is the run without its last byte.
use Prim.Native.Nat.{suc, ◌-◌, ◌≤◌, ◌<◌}
use mathlib.Core.Path.{◌≡◌}
use native.Mathlib.Omega.{arith}
use Rattle.record_ends.specs.Whole.{puts_whole}
use Rattle.record_ends.proofs.put_held.Goals as goal
use Rattle.record_ends.proofs.put_held.Goals.{then-size-gt1, else-size-gt1}

pub returns : goal.returns
returns c = let a = c.args in
    let few : c.if-size-gt1.k ≤ a.n = elim c.if-size-gt1.branch [ then-size-gt1 w ↦ omega arith | else-size-gt1 w ↦ omega arith ] in
    let behind : a.since - a.from ≤ 1 → c.if-size-gt1.k ≡ a.n = λ h.
    elim c.if-size-gt1.branch [ then-size-gt1 w ↦ omega arith | else-size-gt1 w ↦ omega arith ] in
    let over : 1 < a.since - a.from → 1 ≤ a.n → suc c.if-size-gt1.k ≡ a.n = λ h some.
    elim c.if-size-gt1.branch [ then-size-gt1 w ↦ omega arith | else-size-gt1 w ↦ omega arith ] in
    puts_whole a.from a.since few behind over c.put_event.ensures.0 c.put_event.ensures.1 c.put_event.ensures.2
