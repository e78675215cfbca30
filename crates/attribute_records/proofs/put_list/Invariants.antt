-- `put_list` puts the records of one list. The invariant: the first of them stand in the buffers.
use Rattle.attribute_records.specs.ListByList.{ListSoFar}
use Rattle.attribute_records.proofs.put_list.Given as goal

abbrev pub invariant-loop-a : goal.invariant-loop-a
invariant-loop-a l = ListSoFar l.lists l.e.0 l.initial.numbers l.initial.bytes l.n l.numbers l.bytes l.a
