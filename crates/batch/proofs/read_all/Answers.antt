-- `read_all` meets its contract: the documents are read under what was judged of the type.
use Rattle.batch.proofs.read_all.Goals as goal

pub read_parts-requires : goal.read_parts-requires
read_parts-requires c = record { ready = rw c.under-under.ensures c.prepared-g.ensures; fact = c.requires }

pub returns : goal.returns
returns c = rw c.under-under.ensures at c.read_parts.ensures
