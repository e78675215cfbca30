-- `clear` meets its contract: no place is left in row 0 that can begin.
use Rattle.std.proofs.Common.{arith}
use Rattle.model_table.specs.Shows.{fresh_cleared}
use Rattle.model_table.proofs.clear.Goals as goal

pub returns : goal.returns
returns c = fresh_cleared _ _ (omega arith) c.unbegin.ensures
