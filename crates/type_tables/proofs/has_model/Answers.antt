-- `has_model` meets its contract: the number that is kept is 1 for a model.
use Rattle.basic_laws.specs.Truth.{eqb_bit}
use Rattle.type_tables.proofs.has_model.Goals as goal

pub returns : goal.returns
returns c s es raised said declared = rw (said.has _ declared.0 declared.1) (eqb_bit _)
