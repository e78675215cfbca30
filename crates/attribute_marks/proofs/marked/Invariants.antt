-- `marked` meets its contract. The invariant: the first k attributes are listed and marked, and the first
-- misfit among them is remembered, where it stands in the document.
use Prim.Native.Nat.{◌*◌, ◌-◌, ◌≤◌, ◌+◌}
use Rattle.std.specs.Prelude.{IfSome, length}
use Rattle.rules.specs.Bytes.{ATTCNT}
use Rattle.layout.specs.Sizes.{LIST}
use Rattle.attribute_marks.specs.Turns.{Going}
use Rattle.attribute_marks.proofs.marked.Given as goal

abbrev pub invariant-loop-k : goal.invariant-loop-k
invariant-loop-k l = (l.n ≤ ATTCNT + 1) × Going l.long l.s l.lists (LIST * (l.e.0 - 1)) l.d l.given l.initial.marks l.k l.marks l.misfit × IfSome l.misfit (λ q. q ≤ length l.d)
