-- Record ends in the words of paper 02, request eight: what is data in edition 2, by what came in the
-- element. Reading decides it differently, from left to right (Records); that both agree is proved in the
-- crate record_laws.
use Rattle.std.specs.Prelude.{ℕ, ◌+◌, ◌≤◌, ◌<◌, ◌≡◌, Bool, true, false, ◌||◌, ◌⊎◌, ◌↔◌, length, drop, eqb, leb}
use mathlib.Core.List.{List, [], ◌∷◌, ◌++◌, Memᴰ}
use Rattle.rules.specs.Settings.{Settings}
use Rattle.rules.specs.Bytes.{byte_at, RS, RE}
use Rattle.rules.specs.Reading.{got}
use Rattle.rules.specs.TypeFile.{Element}
use Rattle.rules.specs.Document.{Piece, start_tag, end_tag, skipped, blank, data_byte}
use Rattle.rules.specs.Decisions.{pcdata, Decisions}
use Rattle.rules.specs.Events.{Event}
use Rattle.rules.specs.Settling.{State, nothing_open, fitting, end_document}
use Rattle.rules.specs.Records.{Line, new_line, line_after, records_settled}
use Rattle.rules.specs.Given.{with_attributes}
use Rattle.rules.specs.Reader.{Reached, piece_under, settle_piece}

-- The content of one element is a list of these, in order. "A subelement counts as one thing within its record; bytes 10 and 13 within markup don't count":
-- a subelement and a piece of markup are one thing each, whatever they hold.
pub data Thing : Type 0 where
  -- A comment declaration or `<!>`.
  markup : Thing
  -- A byte 10 outside markup, or a byte 13 there that would not be data: `#PCDATA` may not come next in the current element.
  boundary : Thing
  -- "A byte 13 that would be data", and its place in the document: `#PCDATA` may come next in the current element.
  record_end : (at : ℕ) → Thing
  -- Another byte that is data, and its place.
  datum : (at : ℕ) → Thing
  subelement : Thing

-- None of these, at whatever place, is among the things.
abbrev pub NoEnd : List Thing → Type 0
NoEnd ts = (p : ℕ) → ¬ (Memᴰ (record_end p) ts)

abbrev pub NoData : List Thing → Type 0
NoData ts = (p : ℕ) → ¬ (Memᴰ (datum p) ts)

abbrev pub No : Thing → List Thing → Type 0
No t ts = ¬ (Memᴰ t ts)

-- "It is the first in its element and no byte 10, data or subelement came before": these stand before it in its element.
pub record First (before : List Thing) : Type 0 where
  pub first : NoEnd before
  pub no_boundary : No boundary before
  pub no_data : NoData before
  pub no_subelement : No subelement before

-- A byte 10 or 13.
abbrev pub IsRecord : Thing → Type 0
IsRecord t = (t ≡ boundary) ⊎ ((p : ℕ) × (t ≡ record_end p))

-- "It doesn't stand directly after a byte 10 or 13 and nothing but markup came since the last of these": these stand before it in its element.
pub record AfterMarkup (before : List Thing) : Type 0 where
  pub earlier : List Thing
  pub mark : Thing
  pub since : List Thing
  pub stands : before ≡ earlier ++ mark ∷ since
  pub is_record : IsRecord mark
  pub only_markup : (t : Thing) → Memᴰ t since → t ≡ markup
  pub not_directly : ¬ (since ≡ [])

-- "A byte ignored only as the last has still taken its `#PCDATA`; the other two kinds take no place."
abbrev pub TakesNoPlace : (before : List Thing) → Type 0
TakesNoPlace before = First before ⊎ AfterMarkup before

-- "It is the last and no data or subelement follows". Here `up_to` is what stands before it in its element, and itself; `after` is what follows. It is the last of
-- those that are left: a byte 13 that follows is ignored already by what stands before that one. By the letter a byte that is ignored would still be the last; the
-- papers leave it open, and docs/DECISIONS.md says why it is read so.
pub record Last (up_to after : List Thing) : Type 0 where
  pub last : (x y : List Thing) (p : ℕ) → after ≡ x ++ record_end p ∷ y → TakesNoPlace (up_to ++ x)
  pub no_data : NoData after
  pub no_subelement : No subelement after

-- "In edition 2 a byte 13 that would be data is ignored in three cases": the one at p, between `before` and `after` in its element.
abbrev pub Ignored : (before : List Thing) (p : ℕ) (after : List Thing) → Type 0
Ignored before p after = First before ⊎ Last (before ++ record_end p ∷ []) after ⊎ AfterMarkup before

-- What came

-- What came in the current element so far, in those around it from its parent outwards, the document itself last, and in each that has ended.
pub record Contents : Type 0 where
  pub current : List Thing
  pub around : List (List Thing)
  pub ended : List (List Thing)

abbrev pub no_contents : Contents
no_contents = record { current = []; around = []; ended = [] }

abbrev pub add : Thing → Contents → Contents
add t k = record { current = k.current ++ t ∷ []; around = k.around; ended = k.ended }

-- "A subelement counts as one thing": it is added to its parent where it starts.
abbrev pub begun : Contents → Contents
begun k = record { current = []; around = (k.current ++ subelement ∷ []) ∷ k.around; ended = k.ended }

abbrev pub over_in : List (List Thing) → List Thing → List (List Thing) → Contents
over_in [] t ended = record { current = []; around = []; ended = t ∷ ended }
over_in (u ∷ around) t ended = record { current = u; around = around; ended = t ∷ ended }

abbrev pub over : Contents → Contents
over k = over_in k.around k.current k.ended

-- An event starts an element, ends one, or does neither.
pub data Sort : Type 0 where
  starts : Sort
  ends : Sort
  neither : Sort

abbrev pub sort : Event → Sort
sort e =
    elim (eqb e.kind 1 || eqb e.kind 2) [
      | true ↦ starts
      | false ↦ elim (eqb e.kind 3 || (eqb e.kind 4 || eqb e.kind 6)) [ true ↦ ends | false ↦ neither ]
    ]

-- The contents after an event, and after several.
abbrev pub after_sort : Sort → Contents → Contents
after_sort starts k = begun k
after_sort ends k = over k
after_sort neither k = k

unfoldable pub after_events : List Event → Contents → Contents
after_events [] k = k
after_events (e ∷ ev) k = after_events ev (after_sort (sort e) k)

-- The events of the second list behind as many as the first has.
abbrev pub new_in : (before after : List Event) → List Event
new_in before after = drop (length before) after

-- A byte 13 at `at`: "would be data" where `#PCDATA` may come next.
abbrev pub end_thing : (fits : Bool) → (at : ℕ) → Thing
end_thing fits at = elim fits [ true ↦ record_end at | false ↦ boundary ]

-- What is skipped at `at` is a byte 10, a byte 13 or markup.
abbrev pub skipped_thing : (fits : Bool) → (byte at : ℕ) → Thing
skipped_thing fits b at = elim (eqb b RS) [ true ↦ boundary | false ↦ elim (eqb b RE) [ true ↦ end_thing fits at | false ↦ markup ] ]

-- A byte 9, 13 or 32 at `at`: one that is ignored, other than 13, is nothing.
abbrev pub add_blank : (fits : Bool) → (byte at : ℕ) → Contents → Contents
add_blank fits b at k = elim (eqb b RE) [ true ↦ add (end_thing fits at) k | false ↦ elim fits [ true ↦ add (datum at) k | false ↦ k ] ]

module _ (s : List ℕ) (es : List Element) (D : Decisions) (d : List ℕ) where
  -- The contents behind a piece at `at`, which was settled in the state z and led to y: its starts and ends, then the thing that it is.
  unfoldable pub contents_after : Piece → (at : ℕ) → (z y : State) → Contents → Contents
  contents_after (start_tag t) at z y k = after_events (new_in z.events y.events) k
  contents_after (end_tag t) at z y k = after_events (new_in z.events y.events) k
  contents_after (skipped after) at z y k = add (skipped_thing (leb 1 (fitting s es D z.current pcdata)) (byte_at d at) at) k
  contents_after blank at z y k = add_blank (leb 1 (fitting s es D z.current pcdata)) (byte_at d at) at k
  contents_after data_byte at z y k = add (datum at) (after_events (new_in z.events y.events) k)

-- Reading the document d under the settings c, piece by piece, comes to `at` with the line l and the state z, and k has come.
pub data Fills (c : Settings) (s : List ℕ) (es : List Element) (D : Decisions) (d : List ℕ) : ℕ → Line → State → Contents → Type 0 where
  begins : Fills c s es D d 0 new_line nothing_open no_contents
  goes : {at : ℕ} {l : Line} {z : State} {k : Contents} {p : Piece} (r : Reached) → Fills c s es D d at l z k → at < length d → piece_under c s es d at l z.current ≡ got p → settle_piece s es D d p at z ≡ got r
      → Fills c s es D d r.at (line_after s es D d p at l z) r.state (contents_after s es D d p at z r.state k)

-- The document d is read to its end with the events ev, and k has come.
pub record Filled (c : Settings) (s : List ℕ) (es : List Element) (D : Decisions) (d : List ℕ) (ev : List Event) (k : Contents) : Type 0 where
  pub at : ℕ
  pub line : Line
  pub state : State
  pub before : Contents
  pub fills : Fills c s es D d at line state before
  pub over : length d ≤ at
  pub ends : end_document s es D (length d) state ≡ got ev
  pub contents : k ≡ after_events (new_in state.events ev) before

-- The byte at p lies in a data event.
pub record IsData (p : ℕ) (ev : List Event) : Type 0 where
  pub event : Event
  pub among : Memᴰ event ev
  pub is_data : event.kind ≡ 5
  pub from : event.offset ≤ p
  pub to : p < event.offset + event.size

-- Where the byte at p stands: in one of the elements, which has `earlier` and `later` ones beside it, as a thing between `before` and `after`.
pub record StandsIn (p : ℕ) (elements : List (List Thing)) : Type 0 where
  pub earlier : List (List Thing)
  pub element : List Thing
  pub later : List (List Thing)
  pub among : elements ≡ earlier ++ element ∷ later
  pub before : List Thing
  pub thing : Thing
  pub after : List Thing
  pub stands : element ≡ before ++ thing ∷ after
  pub is_that : (thing ≡ datum p) ⊎ (thing ≡ record_end p)

-- The data events are those of the three cases, where these came in the elements of the document.
pub record ByThreeCases (ev : List Event) (elements : List (List Thing)) : Type 0 where
  -- "In edition 2 a byte 13 that would be data is ignored in three cases", and in these only.
  pub record_end_lem : (element before after : List Thing) (p : ℕ) → Memᴰ element elements → element ≡ before ++ record_end p ∷ after → IsData p ev ↔ (¬ (Ignored before p after))
  -- Every other data byte is data.
  pub data_byte_lem : (element before after : List Thing) (p : ℕ) → Memᴰ element elements → element ≡ before ++ datum p ∷ after → IsData p ev
  -- Nothing else is.
  pub nothing_else : (p : ℕ) → IsData p ev → StandsIn p elements
  -- A byte stands in one place of one element.
  pub one_place : (p : ℕ) (x y : StandsIn p elements) → (x.earlier ≡ y.earlier) × (x.before ≡ y.before)

-- What the events `given` for a document that is read in edition 2 say of its record ends.
pub record SecondEdition (c : Settings) (s : List ℕ) (es : List Element) (D : Decisions) (d : List ℕ) (given : List Event) : Type 0 where
  -- The events that reading came to, and what came in the elements of the document.
  pub events : List Event
  pub contents : Contents
  pub filled : Filled c s es D d events contents
  -- What is given are these events, with record ends settled and attributes added.
  pub gives : given ≡ with_attributes c.name_length s es d (records_settled c d events)
  -- The events that are given are those of the three cases.
  pub by_cases : ByThreeCases given contents.ended
  -- Wherever reading stands at a byte 13 and `#PCDATA` may come next, that byte is a thing of one of the elements.
  pub none_left_out : (p : ℕ) (l : Line) (z : State) (k : Contents) → Fills c s es D d p l z k → p < length d → byte_at d p ≡ RE → 1 ≤ fitting s es D z.current pcdata
      → (element : List Thing) × (before : List Thing) × (after : List Thing) × Memᴰ element contents.ended × (element ≡ before ++ record_end p ∷ after)
