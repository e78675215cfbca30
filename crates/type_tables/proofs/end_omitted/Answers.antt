-- `end_omitted` meets its contract: the number that is kept is the element's.
use Rattle.type_tables.proofs.end_omitted.Goals as goal

pub returns : goal.returns
returns c s es raised said declared = rw (said.end _ declared.0 declared.1)
