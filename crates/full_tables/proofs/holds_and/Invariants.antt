-- `holds_and` meets its contract: after each turn it tells of the bytes that were passed.
use Rattle.full_tables.specs.And.{Tells}
use Rattle.full_tables.proofs.holds_and.Given as goal

abbrev pub invariant-loop-b : goal.invariant-loop-b
invariant-loop-b l = Tells l.s l.b-index l.some
