-- Record ends as reading decides them, from left to right (paper 02, request eight). That this is equivalent
-- to the three cases of RecordEnds is proved in the crate record_laws.
use Rattle.std.specs.Prelude.{ℕ, zero, suc, ◌+◌, ◌-◌, Bool, true, false, not, ◌&&◌, ◌||◌, List, [], ◌∷◌, ◌++◌, eqb, leb, ltb}
use Rattle.rules.specs.Bytes.{byte_at, RS, RE}
use Rattle.rules.specs.Settings.{Settings, is_second}
use Rattle.rules.specs.TypeFile.{Element}
use Rattle.rules.specs.Document.{Piece, start_tag, end_tag, skipped, blank, data_byte}
use Rattle.rules.specs.Decisions.{pcdata, Decisions}
use Rattle.rules.specs.Events.{Event, data_run}
use Rattle.rules.specs.Settling.{Open, State, fitting}

-- Where the last tag or data ended, and where the last byte 10 or 13 ended that was ignored (0: none yet).
pub record Line : Type 0 where
  pub since : ℕ
  pub mark : ℕ

abbrev pub new_line : Line
new_line = record { since = 0; mark = 0 }

-- No place is taken in the element: neither data nor a subelement came yet. A byte 13 that is ignored at once takes none.
abbrev pub is_fresh : Open → Bool
is_fresh o = elim o.taken [ [] ↦ true | p ∷ ps ↦ false ]

-- A byte 13 at `at` that would be data is ignored at once, by what stands before it: "it is the first in its element and no byte 10, data or subelement came
-- before", or "it doesn't stand directly after a byte 10 or 13 and nothing but markup came since the last of these". Where a byte 10 or 13 was ignored since the last
-- tag or data, only what stands directly behind it is not; else nothing came in the element yet, or the last data was a byte 13, and markup came since (a tag
-- ends in ">").
unfoldable pub at_once : (d : List ℕ) → (at : ℕ) → Line → Open → Bool
at_once d at l o =
    elim (ltb l.since l.mark) [
      | true ↦ not (eqb l.mark at)
      | false ↦ is_fresh o || (ltb l.since at && eqb (byte_at d (l.since - 1)) RE)
    ]

-- "In edition 2".
unfoldable pub is_ignored : Settings → (d : List ℕ) → (at : ℕ) → Line → Open → Bool
is_ignored c d at l o = is_second c && (eqb (byte_at d at) RE && at_once d at l o)

-- A byte that is ignored at once is passed over, so that it takes no place. Where `#PCDATA` may not come next it is ignored all the same.
unfoldable pub record_ends : Settings → (d : List ℕ) → (at : ℕ) → Line → Open → Piece → Piece
record_ends c d at l o (start_tag t) = start_tag t
record_ends c d at l o (end_tag t) = end_tag t
record_ends c d at l o (skipped after) = skipped after
record_ends c d at l o blank = elim (is_ignored c d at l o) [ true ↦ skipped (at + 1) | false ↦ blank ]
record_ends c d at l o data_byte = data_byte

-- The line behind a piece at `at`: one that is ignored, and one that is a tag or data.
abbrev pub mark_behind : (d : List ℕ) → (at mark : ℕ) → ℕ
mark_behind d at m = elim (eqb (byte_at d at) RS || eqb (byte_at d at) RE) [ true ↦ at + 1 | false ↦ m ]

abbrev pub ignored_behind : (d : List ℕ) → (at : ℕ) → Line → Line
ignored_behind d at l = record { since = l.since; mark = mark_behind d at l.mark }

abbrev pub taken_behind : (after : ℕ) → Line → Line
taken_behind after l = record { since = after; mark = l.mark }

unfoldable pub line_after : (s : List ℕ) → List Element → Decisions → (d : List ℕ) → Piece → (at : ℕ) → Line → State → Line
line_after s es D d (start_tag t) at l z = taken_behind t.after l
line_after s es D d (end_tag t) at l z = taken_behind t.after l
line_after s es D d (skipped after) at l z = ignored_behind d at l
line_after s es D d blank at l z = elim (leb 1 (fitting s es D z.current pcdata)) [ true ↦ taken_behind (at + 1) l | false ↦ ignored_behind d at l ]
line_after s es D d data_byte at l z = taken_behind (at + 1) l

-- "It is the last and no data or subelement follows": a run of data loses its byte 13 where the next event is an end. What is between the two in the
-- document is ignored: a byte that is ignored already is not there, so the one that ends the run is the last of those that are left.
abbrev pub is_end : Event → Bool
is_end e = eqb e.kind 3 || eqb e.kind 4

-- The event of the n data bytes from o on, none if there are none.
abbrev pub due_run : (o n : ℕ) → List Event
due_run o zero = []
due_run o (suc n) = data_run o (suc n) ∷ []

unfoldable pub cut : (d : List ℕ) → Event → List Event
cut d e = elim (eqb e.kind 5 && eqb (byte_at d (e.offset + e.size - 1)) RE) [ true ↦ due_run e.offset (e.size - 1) | false ↦ e ∷ [] ]

unfoldable pub cut_before_ends : (d : List ℕ) → List Event → List Event
cut_before_ends d [] = []
cut_before_ends d (e ∷ []) = e ∷ []
cut_before_ends d (e ∷ f ∷ ev) = elim (is_end f) [ true ↦ cut d e | false ↦ e ∷ [] ] ++ cut_before_ends d (f ∷ ev)

-- "A byte ignored only as the last has still taken its `#PCDATA`": it is taken out of the events only where all are there.
unfoldable pub records_settled : Settings → (d : List ℕ) → List Event → List Event
records_settled c d ev = elim (is_second c) [ true ↦ cut_before_ends d ev | false ↦ ev ]
