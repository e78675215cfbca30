-- `fill` meets its contract. The invariant: the first k lists are in the table, and the others are empty.
use Rattle.attribute_lists.specs.Heads.{Fills}
use Rattle.attribute_lists.proofs.fill.Given as goal

abbrev pub invariant-loop-k : goal.invariant-loop-k
invariant-loop-k l = Fills l.long l.s l.heads l.lists l.k
