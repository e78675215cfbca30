-- The attributes of a start tag checked against the list of its element, and the events that precede a start
-- (paper 02, request one), with refusals 20, 22 and 21.
use Rattle.std.specs.Prelude.{ℕ, ◌+◌, ◌-◌, Bool, true, false, not, ◌&&◌, ◌||◌, List, [], ◌∷◌, ◌++◌, length, eqb, leb}
use Rattle.rules.specs.Reading.{Reading, refused, got, and_then}
use Rattle.rules.specs.Attributes.{Part, bytes_in, Default, required, implied, literal, Attribute, is_called, attribute_of, attribute_at, is_required, fits}
use Rattle.rules.specs.TypeFile.{Element, same_name}
use Rattle.rules.specs.Document.{Written, Tag, Piece, start_tag, end_tag, skipped, blank, data_byte, start_tag_at}
use Rattle.rules.specs.Elements.{element_at, number_of}
use Rattle.rules.specs.Events.{Event, attribute_written, attribute_defaulted}

-- The value of an attribute that a tag of the document d gives: the literal without its quotes.
abbrev pub value_part : Written → Part
value_part w = record { at = w.quote + 1; size = w.width }

-- Refusals

-- One of these gives an attribute of the same name as w.
unfoldable pub is_given_in : (d : List ℕ) → List Written → Written → Bool
is_given_in d [] w = false
is_given_in d (v ∷ vs) w = same_name d v.at v.size w.at w.size || is_given_in d vs w

-- Number 20, "attribute undeclared or given twice", at the attribute's name: the first such of a tag; `before` are those that stand before in it.
unfoldable pub all_listed : (s : List ℕ) → List Attribute → (d : List ℕ) → (before ws : List Written) → Reading (Unit {0})
all_listed s xs d before [] = got tt
all_listed s xs d before (w ∷ ws) =
    elim (leb 1 (attribute_of s xs d w.at w.size) && not (is_given_in d before w)) [
      | true ↦ all_listed s xs d (w ∷ before) ws
      | false ↦ refused 20 w.at
    ]

-- Number 22, "value doesn't fit its declared value .. or holds byte 9, 10 or 13", at the opening quote: the first such of a tag.
unfoldable pub all_fit : (long : ℕ) → (s : List ℕ) → List Attribute → (d : List ℕ) → List Written → Reading (Unit {0})
all_fit long s xs d [] = got tt
all_fit long s xs d (w ∷ ws) =
    elim (fits long s (attribute_at xs (attribute_of s xs d w.at w.size - 1)).value (bytes_in d (value_part w))) [
      | true ↦ all_fit long s xs d ws
      | false ↦ refused 22 w.quote
    ]

-- What a tag with these attributes gives for a: the first that is called so, none or one.
unfoldable pub given_for : (s : List ℕ) → Attribute → (d : List ℕ) → List Written → List Written
given_for s a d [] = []
given_for s a d (w ∷ ws) = elim (is_called s a d w.at w.size) [ true ↦ w ∷ [] | false ↦ given_for s a d ws ]

abbrev pub is_missing : Default → List Written → Bool
is_missing f [] = is_required f
is_missing f (w ∷ ws) = false

-- Number 21, "required one missing", at the tag.
unfoldable pub none_missing : (s : List ℕ) → List Attribute → (d : List ℕ) → (at : ℕ) → List Written → Reading (Unit {0})
none_missing s [] d at ws = got tt
none_missing s (a ∷ xs) d at ws = elim (is_missing a.default (given_for s a d ws)) [ true ↦ refused 21 at | false ↦ none_missing s xs d at ws ]

-- "Then 10, 20, 22, 21, the first of each": those behind 10, of a tag at `at` for an element with these attributes.
unfoldable pub attributed : (long : ℕ) → (s : List ℕ) → List Attribute → (d : List ℕ) → (at : ℕ) → List Written → Reading (Unit {0})
attributed long s xs d at ws =
    and_then (all_listed s xs d [] ws) λ u.
    and_then (all_fit long s xs d ws) λ v.
    none_missing s xs d at ws

-- The attributes of a piece that is a start tag are held against the list of its element; other pieces have none. A tag of
-- an undeclared name has number 10, which comes before these; it is given where the piece is settled.
unfoldable pub piece_attributed : (long : ℕ) → (s : List ℕ) → List Element → (d : List ℕ) → (at : ℕ) → Piece → Reading (Unit {0})
piece_attributed long s es d at (start_tag t) =
    let k = number_of s es d t.name t.size in
    elim (leb 1 k) [ true ↦ attributed long s (element_at es (k - 1)).attributes d at t.written | false ↦ got tt ]
piece_attributed long s es d at (end_tag t) = got tt
piece_attributed long s es d at (skipped after) = got tt
piece_attributed long s es d at blank = got tt
piece_attributed long s es d at data_byte = got tt

-- Events

-- The event of the attribute with this number and this default, where a tag gives it so: "an implied one gives none".
abbrev pub attribute_event : (number : ℕ) → Default → List Written → List Event
attribute_event n required [] = []
attribute_event n implied [] = []
attribute_event n (literal p) [] = attribute_defaulted n p.at p.size ∷ []
attribute_event n f (w ∷ ws) = attribute_written n (value_part w).at (value_part w).size ∷ []

-- "Attribute events in declaration order", where a tag gives these attributes. The first of the list has the number n.
unfoldable pub attribute_events : (n : ℕ) → (s : List ℕ) → List Attribute → (d : List ℕ) → List Written → List Event
attribute_events n s [] d ws = []
attribute_events n s (a ∷ xs) d ws = attribute_event n a.default (given_for s a d ws) ++ attribute_events (n + 1) s xs d ws

-- What the start tag at an event's offset gives.
abbrev pub given_by : Reading Tag → List Written
given_by (refused n p) = []
given_by (got t) = t.written

-- "Before a start event come attribute events": those before the event e. A start that is inferred has no tag, so that all are defaulted.
unfoldable pub attributes_before : (long : ℕ) → (s : List ℕ) → List Element → (d : List ℕ) → Event → List Event
attributes_before long s es d e =
    let xs = (element_at es (e.number - 1)).attributes in
    elim (eqb e.kind 1) [
      | true ↦ attribute_events 1 s xs d (given_by (start_tag_at long d (e.offset + 1)))
      | false ↦ elim (eqb e.kind 2) [ true ↦ attribute_events 1 s xs d [] | false ↦ [] ]
    ]

-- The events of a document, with attribute events before each start.
unfoldable pub with_attributes : (long : ℕ) → (s : List ℕ) → List Element → (d : List ℕ) → List Event → List Event
with_attributes long s es d [] = []
with_attributes long s es d (e ∷ ev) = attributes_before long s es d e ++ (e ∷ with_attributes long s es d ev)

-- "The value without quotes, handed to the caller, is a part of the document if written and a part of the type file if defaulted": the bytes of an
-- attribute event's value. A part that does not lie in its text is none.
abbrev pub value_bytes : (s d : List ℕ) → (is_written : Bool) → Part → List ℕ
value_bytes s d w p =
    let t : List ℕ = elim w [ true ↦ d | false ↦ s ] in
    elim (leb (p.at + p.size) (length t)) [ true ↦ bytes_in t p | false ↦ [] ]
