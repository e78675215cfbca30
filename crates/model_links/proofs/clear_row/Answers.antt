-- `clear_row` meets its contract: the row is filled with 0.
use Rattle.std.proofs.Common.{arith}
use Rattle.model_links.specs.Zeros.{row_zeros}
use Rattle.model_links.proofs.clear_row.Goals as goal

pub returns : goal.returns
returns c = row_zeros _ _ _ _ (omega arith) (omega arith) (c.fill.ensures.after (λ y e. e))
