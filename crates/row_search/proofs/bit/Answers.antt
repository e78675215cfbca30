-- `bit` meets its contract: a shift by k is a division by the k-th power of two.
use Rattle.row_search.proofs.bit.Goals as goal

pub returns : goal.returns
returns c = rw (c.wide-b.ensures.0, c.row.ensures)
