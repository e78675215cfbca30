-- The document reader's answer and what its lent buffer holds afterwards (paper 01, "What the reader takes
-- and gives", "Refusal numbers", order).
use Rattle.std.specs.Prelude.{ℕ, zero, suc, ◌+◌, ◌*◌, ◌<◌, ◌≤◌, ◌≡◌, true, false, List, [], ◌∷◌, length, leb}
use Rattle.rules.specs.Settings.{Settings, is_offered}
use Rattle.rules.specs.Bytes.{allowed, span, type_limit, document_limit}
use Rattle.rules.specs.Lent.{Lent, standing, room, filled_with, zeroed}
use Rattle.rules.specs.Reading.{Reading, refused, got, and_then}
use Rattle.rules.specs.TypeFile.{Element, type_file}
use Rattle.rules.specs.Judge.{Answer, refusal, acceptance, FirstAmbiguous, first_repeated, Legible, Accepts}
use Rattle.rules.specs.Document.{Tag, Piece, start_tag, end_tag, skipped, blank, data_byte, piece}
use Rattle.rules.specs.Elements.{number_of}
use Rattle.rules.specs.Decisions.{Decisions, Means}
use Rattle.rules.specs.Events.{Event, event_width}
use Rattle.rules.specs.Given.{piece_attributed, with_attributes}
use Rattle.rules.specs.Records.{Line, new_line, record_ends, line_after, records_settled}
use Rattle.rules.specs.Settling.{Open, State, nothing_open, start_element, take_data, take_blank, end_element, end_document}

-- Reading a document

-- Where reading goes on, and with what is open.
pub record Reached : Type 0 where
  pub at : ℕ
  pub state : State

abbrev pub go_on : ℕ → Reading State → Reading Reached
go_on at r = and_then r λ z. got (record { at = at; state = z })

-- The document d under the type file s with the elements es.
module _ (s : List ℕ) (es : List Element) (D : Decisions) (d : List ℕ) where
  -- The number of the element that a tag at `at` names. Number 10, "tag of undeclared name", at the tag.
  unfoldable pub tagged : (at : ℕ) → Tag → Reading ℕ
  tagged at t =
      let k = number_of s es d t.name t.size in
      elim (leb 1 k) [ true ↦ got k | false ↦ refused 10 at ]

  -- The piece at `at` is settled. "Within a tag: 3, 4, 10, then 16 (start) or 11 (end), then 12, 15 or 13, 14. Data: 17, 16, 12, 15."
  unfoldable pub settle_piece : Piece → (at : ℕ) → State → Reading Reached
  settle_piece (start_tag t) at z = and_then (tagged at t) λ k. go_on t.after (start_element s es D k at t.after z)
  settle_piece (end_tag t) at z = and_then (tagged at t) λ k. go_on t.after (end_element s es D k at t.after z)
  settle_piece (skipped after) at z = got (record { at = after; state = z })
  settle_piece blank at z = go_on (at + 1) (take_blank s es D at z)
  settle_piece data_byte at z = go_on (at + 1) (take_data s es D at z)

-- What stands at `at` in the document d under the type file s with the elements es: the piece, the attributes of a start tag held against the list of its
-- element. "In a tag 3, 4 and 5 come first, by position, then 10, 20, 22, 21" (paper 02, request one), and all of them before 16, 12 and 15.
unfoldable pub piece_under : Settings → (s : List ℕ) → List Element → (d : List ℕ) → (at : ℕ) → Line → Open → Reading Piece
piece_under c s es d at l o = and_then (piece c.name_length d at) λ p. and_then (piece_attributed c.name_length s es d at p) λ u. got (record_ends c d at l o p)

-- A document under the settings c, which decide how long a name in a tag may be and how record ends are read.
module _ (c : Settings) (s : List ℕ) (es : List Element) (D : Decisions) (d : List ℕ) where
  -- "The document's tokens in turn", from `at` on. Each turn but the last takes a piece, so there are fewer turns than bytes.
  unfoldable pub pieces_within : ℕ → (at : ℕ) → Line → State → Reading (List Event)
  pieces_within zero at l z = refused 4 (length d)
  pieces_within (suc turns) at l z =
      elim (leb (length d) at) [
        | true ↦ end_document s es D (length d) z
        | false ↦
            and_then (piece_under c s es d at l z.current) λ p.
            and_then (settle_piece s es D d p at z) λ y.
            pieces_within turns y.at (line_after s es D d p at l z) y.state
      ]

  -- "Before a start event come attribute events in declaration order" (paper 02, request one). "Demand 2 reads with these events."
  unfoldable pub document : Reading (List Event)
  document = and_then (pieces_within (suc (length d)) 0 new_line nothing_open) λ ev. got (with_attributes c.name_length s es d (records_settled c d ev))

-- The answer

-- "The reader gives four numbers per event: kind, element number from 1 (0 for data), offset, length", and from request seven of paper 02 on a
-- fifth, the place.
unfoldable pub event_numbers : List Event → List ℕ
event_numbers [] = []
event_numbers (e ∷ ev) = e.kind ∷ e.number ∷ e.offset ∷ e.size ∷ e.place ∷ event_numbers ev

-- "Input 1 is the type, 2 the document. The two places are 0 except under 9."
abbrev pub document_refusal : (number position : ℕ) → Answer
document_refusal n k = record { number = n; input = 2; position = k; first = 0; second = 0; count = 0 }

-- The settings are among those that a call takes, and neither input is too long nor has a byte that is not allowed.
pub record BothLegible (c : Settings) (s d : List ℕ) : Type 0 where
  pub type : Legible c s
  pub short : length d ≤ document_limit
  pub clean : span allowed d ≡ length d

-- Under the settings c the type is accepted with the elements es, and the document, read as the walks of their models decide, gives r.
pub record Reads (c : Settings) (s d : List ℕ) (es : List Element) (r : Reading (List Event)) : Type 0 where
  pub legible : BothLegible c s d
  pub accepted : Accepts c s es
  pub decisions : Decisions
  pub means : Means s es decisions
  pub reading : document c s es decisions d ≡ r

-- The refusal that the order picks: "1 type, 1 document, 2 type, 2 document; the type file's 3 to 8 ..; 9; then the document's tokens in
-- turn; 19 only where nothing else is wrong, and exactly if the numbers don't fit"; 25 is "looked for after 3 to 8 and before 9"
-- (paper 02, request twelve); "19 names .. the document in the reader"; before all
-- of it 24, "in the type at 0, before even 23" (paper 02, request six), which request eight has for other editions too. `room` is how many numbers the lent buffer holds.
pub data RefusesBoth (c : Settings) (s d : List ℕ) (room : ℕ) (a : Answer) : Type 0 where
  not_offered : is_offered c ≡ false → a ≡ refusal 24 0 0 0 → RefusesBoth c s d room a
  type_too_long : is_offered c ≡ true → type_limit < length s → a ≡ refusal 1 0 0 0 → RefusesBoth c s d room a
  document_too_long : is_offered c ≡ true → length s ≤ type_limit → document_limit < length d → a ≡ document_refusal 1 0 → RefusesBoth c s d room a
  type_not_allowed : is_offered c ≡ true → length s ≤ type_limit → length d ≤ document_limit → span allowed s < length s → a ≡ refusal 2 (span allowed s) 0 0 → RefusesBoth c s d room a
  document_not_allowed : Legible c s → length d ≤ document_limit → span allowed d < length d → a ≡ document_refusal 2 (span allowed d) → RefusesBoth c s d room a
  malformed : BothLegible c s d → (n k : ℕ) → type_file c.name_length s ≡ refused n k → a ≡ refusal n k 0 0 → RefusesBoth c s d room a
  repeated : BothLegible c s d → (es : List Element) → type_file c.name_length s ≡ got es → 1 ≤ first_repeated es → a ≡ refusal 25 (first_repeated es) 0 0 → RefusesBoth c s d room a
  ambiguous : BothLegible c s d → (es : List Element) → type_file c.name_length s ≡ got es → first_repeated es ≡ 0 → (k p q : ℕ) → FirstAmbiguous s k p q es → a ≡ refusal 9 k p q → RefusesBoth c s d room a
  unsettled : (es : List Element) (n k : ℕ) → Reads c s d es (refused n k) → a ≡ document_refusal n k → RefusesBoth c s d room a
  no_room : (es : List Element) (ev : List Event) → Reads c s d es (got ev) → room < event_width * length ev → a ≡ document_refusal 19 0 → RefusesBoth c s d room a

-- What the reader answers to a type file s and a document d under the settings c, and what the lent buffer, `before` the call, holds after it.
-- "What lies behind the last number written stays as it was; on refusal the whole buffer is zero and the count is 0."
pub data ReadAs (l : Lent) (c : Settings) (s d before : List ℕ) (a : Answer) (after : List ℕ) : Type 0 where
  refuses : RefusesBoth c s d (room l before) a → after ≡ zeroed before → ReadAs l c s d before a after
  accepts : (es : List Element) (ev : List Event) → Reads c s d es (got ev) → event_width * length ev ≤ room l before → a ≡ acceptance (length ev) → after ≡ filled_with (standing l (event_numbers ev)) before → ReadAs l c s d before a after
