-- `is_missing` meets its contract. The invariant: none of the first k attributes is required and not marked.
use Prim.Native.Nat.{◌*◌, ◌-◌, ◌≤◌}
use Rattle.rules.specs.Bytes.{ATTCNT}
use Rattle.layout.specs.Sizes.{LIST}
use Rattle.attribute_marks.specs.Missing.{NoneMissing}
use Rattle.attribute_marks.proofs.is_missing.Given as goal

abbrev pub invariant-loop-k : goal.invariant-loop-k
invariant-loop-k l = (l.n ≤ ATTCNT) × NoneMissing l.lists (LIST * (l.e.0 - 1)) l.marks l.k
