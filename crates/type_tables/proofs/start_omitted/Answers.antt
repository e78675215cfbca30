-- `start_omitted` meets its contract: the number that is kept is the element's.
use Rattle.type_tables.proofs.start_omitted.Goals as goal

pub returns : goal.returns
returns c s es raised said declared = said.start _ declared.0 declared.1
