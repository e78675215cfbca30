-- `complete` meets its contract.
use Rattle.type_tables.proofs.complete.Goals as goal

pub returns : goal.returns
returns c = rw c.row.ensures
