-- The text of events by the numbers of events, elements and attributes.
use Rattle.std.specs.Prelude.{ℕ, zero, suc, ◌+◌, ◌*◌, List, [], ◌++◌, get_or}
use Rattle.rules.specs.Bytes.{RS}
use Rattle.rules.specs.Events.{event_width}
use Rattle.rules.specs.Printed.{decimal, word, line, events_word}
use Rattle.event_names.specs.Names.{named_at}

-- The line of the event k of n.
unfoldable pub line_at : (s elements attributes : List ℕ) (total : ℕ) (numbers : List ℕ) → (k n : ℕ) → List ℕ
line_at s elements attributes total numbers k n =
    line (get_or numbers (event_width * k) 0) (named_at s elements attributes total numbers k n) (get_or numbers (event_width * k + 2) 0) (get_or numbers (event_width * k + 3) 0)

-- The lines of so many events, from the event k on: there are no more behind them.
unfoldable pub lines_from : (s elements attributes : List ℕ) (total : ℕ) (numbers : List ℕ) → (left k : ℕ) → List ℕ
lines_from s elements attributes total numbers zero k = []
lines_from s elements attributes total numbers (suc left) k =
    line_at s elements attributes total numbers k (k + suc left) ++ lines_from s elements attributes total numbers left (k + 1)

-- `events N`, and the lines of n events.
unfoldable pub text_of : (s elements attributes : List ℕ) (total : ℕ) (numbers : List ℕ) → ℕ → List ℕ
text_of s elements attributes total numbers n = events_word ++ (word (decimal n) RS ++ lines_from s elements attributes total numbers n 0)
