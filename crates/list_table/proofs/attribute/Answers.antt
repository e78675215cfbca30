-- `attribute` meets its contract: its row stands behind the number of attributes and the rows before.
use Rattle.list_table.proofs.attribute.Goals as goal

pub returns : goal.returns
returns c = c.row_at.ensures
