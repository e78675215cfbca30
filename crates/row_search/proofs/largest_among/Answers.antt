-- `largest_among` meets its contract: what the row and what has begun say is what it is asked.
use Rattle.row_search.specs.Search.{raised_low, raised_high, raised_from, largest_said}
use Rattle.std.proofs.Common.{rules}
use Rattle.row_search.proofs.largest_among.Goals as goal

pub returns-then-p-lt-RAISE : goal.returns-then-p-lt-RAISE
returns-then-p-lt-RAISE c = raised_low _ _ _ _ c.if-p-lt-RAISE.true

pub returns-then-q-gt-GRPGTCNT : goal.returns-then-q-gt-GRPGTCNT
returns-then-q-gt-GRPGTCNT c = raised_high _ _ _ _ c.if-q-gt-GRPGTCNT.true

pub returns : goal.returns
returns c = raised_from _ _ _ _ _ c.if-p-lt-RAISE.false (largest_said (λ q b m t. search rules) c.search.ensures)
