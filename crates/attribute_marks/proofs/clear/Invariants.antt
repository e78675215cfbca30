-- `clear` meets its contract. The invariant: none of the first k attributes is marked.
use Prim.Native.Nat.{◌≤◌}
use Rattle.rules.specs.Bytes.{ATTCNT}
use Rattle.attribute_marks.specs.Marking.{Cleared}
use Rattle.attribute_marks.proofs.clear.Given as goal

abbrev pub invariant-loop-k : goal.invariant-loop-k
invariant-loop-k l = (l.n ≤ ATTCNT) × Cleared l.marks l.k
