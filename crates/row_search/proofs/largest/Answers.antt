-- `largest` meets its contract: what the row says is what it is asked.
use Rattle.row_search.specs.Search.{largest_said}
use Rattle.std.proofs.Common.{rules}
use Rattle.row_search.proofs.largest.Goals as goal

pub returns : goal.returns
returns c = largest_said (λ q b m t. search rules) c.search.ensures
