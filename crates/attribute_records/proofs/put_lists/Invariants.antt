-- `put_lists` puts the records of all lists. The invariant: those of the first elements stand in the buffers.
use Prim.Native.Nat.{◌*◌, ◌≤◌}
use Rattle.rules.specs.Bytes.{ATTCNT}
use Rattle.attribute_records.specs.ListByList.{ListsSoFar}
use Rattle.attribute_records.proofs.put_lists.Given as goal

abbrev pub invariant-loop-k : goal.invariant-loop-k
invariant-loop-k l = ListsSoFar l.lists l.initial.numbers l.initial.bytes l.numbers l.bytes l.k l.m × (l.m ≤ ATTCNT * l.k)
