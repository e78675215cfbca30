-- The names of events by the numbers of events, elements and attributes.
use Rattle.std.specs.Prelude.{ℕ, zero, suc, ◌+◌, ◌-◌, ◌*◌, ◌≤◌, ◌<◌, ◌≡◌, true, false, ◌||◌, Option, Some}
use Rattle.std.specs.Prelude.{None, List, [], ◌∷◌, length, get_or, eqb, ltb}
use Rattle.rules.specs.Events.{event_width}
use Rattle.rules.specs.Listing.{attribute_width}
use Rattle.rules.specs.Printed.{upper, program_name_length}
use Rattle.rules.specs.Judge.{record_width}
use Rattle.rules.specs.Bytes.{MINUS}
use Rattle.layout.specs.Sizes.{RECORDS}

-- The table has the numbers of 64 elements, whose names stand in s and are short.
pub record Fits (s elements : List ℕ) : Type 0 where
  pub whole : length elements ≡ RECORDS
  pub short : (k : ℕ) → get_or elements (record_width * k + 1) 0 ≤ program_name_length
  pub inside : (k : ℕ) → get_or elements (record_width * k) 0 + get_or elements (record_width * k + 1) 0 ≤ length s

-- The table begins with the numbers of so many attributes, whose names stand in s and are short.
pub record FitsAttributes (s attributes : List ℕ) (total : ℕ) : Type 0 where
  pub short : (k : ℕ) → k < total → get_or attributes (attribute_width * k + 3) 0 ≤ program_name_length
  pub inside : (k : ℕ) → k < total → get_or attributes (attribute_width * k + 2) 0 + get_or attributes (attribute_width * k + 3) 0 ≤ length s

-- The name of an element by its number, from the table of elements.
abbrev pub name_in : (s elements : List ℕ) → ℕ → List ℕ
name_in s elements zero = MINUS ∷ []
name_in s elements (suc k) = upper s (get_or elements (record_width * k) 0) (get_or elements (record_width * k + 1) 0)

-- The number of the element that starts next, at the event k or behind it, among so many; 0 if none does.
unfoldable pub starts_within : (numbers : List ℕ) → (left k : ℕ) → ℕ
starts_within numbers zero k = 0
starts_within numbers (suc left) k =
    elim (eqb (get_or numbers (event_width * k) 0) 1 || eqb (get_or numbers (event_width * k) 0) 2) [ true ↦ get_or numbers (event_width * k + 1) 0 | false ↦ starts_within numbers left (k + 1) ]

-- The same among the events before the n-th.
abbrev pub starts_at : (numbers : List ℕ) → (k n : ℕ) → ℕ
starts_at numbers k n = starts_within numbers (n - k) k

-- Which record, k or behind it among so many, is that of the attribute a of the element e; the one behind them if none is.
unfoldable pub record_within : (attributes : List ℕ) → (left k e a : ℕ) → ℕ
record_within attributes zero k e a = k
record_within attributes (suc left) k e a =
    elim (eqb (get_or attributes (attribute_width * k) 0) e) [
      | true ↦ elim (eqb (get_or attributes (attribute_width * k + 1) 0) a) [ true ↦ k | false ↦ record_within attributes left (k + 1) e a ]
      | false ↦ record_within attributes left (k + 1) e a
    ]

abbrev pub record_of : (attributes : List ℕ) → (total e a : ℕ) → ℕ
record_of attributes total e a = record_within attributes total 0 e a

-- What the search for it finds.
abbrev pub RecordFound : (attributes : List ℕ) → (total e a : ℕ) → Option ℕ → Type 0
RecordFound attributes total e a (Some k) = (k ≡ record_of attributes total e a) × (k < total)
RecordFound attributes total e a None = record_of attributes total e a ≡ total

-- The name of the attribute a of the element e, from the table of attributes; none if it is not there. As in the rules, 0 stands for the first.
unfoldable pub attribute_in : (s attributes : List ℕ) → (total e a : ℕ) → List ℕ
attribute_in s attributes total e a =
    let k = record_of attributes total (e - 1 + 1) (a - 1 + 1) in
    elim (ltb k total) [ true ↦ upper s (get_or attributes (attribute_width * k + 2) 0) (get_or attributes (attribute_width * k + 3) 0) | false ↦ [] ]

-- The name that the event k of n has.
unfoldable pub named_at : (s elements attributes : List ℕ) (total : ℕ) (numbers : List ℕ) → (k n : ℕ) → List ℕ
named_at s elements attributes total numbers k n =
    let kind = get_or numbers (event_width * k) 0 in
    let x = get_or numbers (event_width * k + 1) 0 in
    elim (eqb kind 7 || eqb kind 8) [ true ↦ attribute_in s attributes total (starts_at numbers (k + 1) n) x | false ↦ name_in s elements x ]
