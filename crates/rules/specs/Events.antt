-- Events (paper 01, "What the reader takes and gives"; paper 02, requests seven and one).
use Rattle.std.specs.Prelude.{ℕ, ◌+◌, ◌-◌, true, false, ◌&&◌, List, [], ◌∷◌, eqb}

-- "Four numbers per event: kind, element number from 1 (0 for data), offset, length." "Start events get a fifth number: the place they took in
-- their parent's model, 0 for the document element; all other events carry 0 there."
pub record Event : Type 0 where
  pub kind : ℕ
  pub number : ℕ
  pub offset : ℕ
  pub size : ℕ
  pub place : ℕ

-- How many numbers that is.
abbrev pub event_width : ℕ
event_width = 5

-- "Kinds: 1 start tag written; 2 start tag inferred; 3 end tag written; 4 end tag inferred; 5 data; 6 end of an EMPTY element. Kinds 1 and 3
-- have the place and length of the tag. Kinds 2 and 4 have the offset of the token that called for them, or the document's length, and
-- length 0. Kind 6 has the offset after the tag and length 0."
abbrev pub start_written : (k at after place : ℕ) → Event
start_written k at after p = record { kind = 1; number = k; offset = at; size = after - at; place = p }

abbrev pub start_inferred : (k at place : ℕ) → Event
start_inferred k at p = record { kind = 2; number = k; offset = at; size = 0; place = p }

abbrev pub end_written : (k at after : ℕ) → Event
end_written k at after = record { kind = 3; number = k; offset = at; size = after - at; place = 0 }

abbrev pub end_inferred : (k at : ℕ) → Event
end_inferred k at = record { kind = 4; number = k; offset = at; size = 0; place = 0 }

abbrev pub data_run : (at size : ℕ) → Event
data_run at size = record { kind = 5; number = 0; offset = at; size = size; place = 0 }

abbrev pub end_of_empty : (k after : ℕ) → Event
end_of_empty k after = record { kind = 6; number = k; offset = after; size = 0; place = 0 }

-- "Kind 7 written, kind 8 defaulted, with the attribute's number in its list, from 1 .., offset and length" of the value without quotes: "a part of the
-- document if written and a part of the type file if defaulted".
abbrev pub attribute_written : (a at size : ℕ) → Event
attribute_written a at size = record { kind = 7; number = a; offset = at; size = size; place = 0 }

abbrev pub attribute_defaulted : (a at size : ℕ) → Event
attribute_defaulted a at size = record { kind = 8; number = a; offset = at; size = size; place = 0 }

-- "Kind 5 is a longest run of neighbouring data bytes; an ignored byte or a comment ends a run": the events with a data byte at `at`.
unfoldable pub with_data : ℕ → List Event → List Event
with_data at [] = data_run at 1 ∷ []
with_data at (e ∷ []) =
    elim (eqb e.kind 5 && eqb (e.offset + e.size) at) [ true ↦ data_run e.offset (e.size + 1) ∷ [] | false ↦ e ∷ data_run at 1 ∷ [] ]
with_data at (e ∷ f ∷ ev) = e ∷ with_data at (f ∷ ev)
