-- "Older catalogues keep 01's rule, edition 1": there no record end is ignored by its place, and reading is
-- what it was before request eight. So it is in both editions of a document with no byte 13.
use Rattle.std.proofs.Common.{ℕ, zero, suc, ◌+◌, ◌-◌, ◌≡◌, refl, ◌∙◌, ap, ap₂, Bool, true, false, ◌&&◌, length, eqb, leb, List, [], ◌∷◌, ◌++◌}
use Rattle.std.proofs.Math.Bool.{and-false}
use Rattle.rules.specs.Settings.{Settings, is_second}
use Rattle.rules.specs.Bytes.{byte_at, RE}
use Rattle.rules.specs.Reading.{Reading, refused, got, and_then}
use Rattle.rules.specs.TypeFile.{Element}
use Rattle.rules.specs.Document.{Piece, start_tag, end_tag, skipped, blank, data_byte, piece}
use Rattle.rules.specs.Decisions.{Decisions}
use Rattle.rules.specs.Events.{Event}
use Rattle.rules.specs.Given.{piece_attributed, with_attributes}
use Rattle.rules.specs.Settling.{Open, State, nothing_open, end_document}
use Rattle.rules.specs.Records.{Line, new_line, at_once, is_ignored, record_ends, line_after, is_end, due_run, cut, cut_before_ends, records_settled}
use Rattle.rules.specs.Reader.{settle_piece, piece_under, pieces_within, document}
use Rattle.rules.specs.PlainReading.{plain_piece, plain_pieces, plain_document}

on_so : {A B : Type 0} (r : Reading A) {f g : A → Reading B} → ((a : A) → f a ≡ g a) → and_then r f ≡ and_then r g
on_so (refused n k) h = refl
on_so (got a) h = h a

ends_first : (c : Settings) (d : List ℕ) (at : ℕ) (l : Line) (o : Open) (p : Piece) → is_second c ≡ false → record_ends c d at l o p ≡ p
unfolding record_ends is_ignored
ends_first c d at l o (start_tag t) e = refl
ends_first c d at l o (end_tag t) e = refl
ends_first c d at l o (skipped after) e = refl
ends_first c d at l o blank e = ap {B = Piece} (λ b. elim (b && (eqb (byte_at d at) RE && at_once d at l o)) as (λ _. Piece) [ true ↦ skipped (at + 1) | false ↦ blank ]) e
ends_first c d at l o data_byte e = refl

-- A byte other than 13 is never ignored so.
ends_none : (c : Settings) (d : List ℕ) (at : ℕ) (l : Line) (o : Open) (p : Piece)
    → eqb (byte_at d at) RE ≡ false → record_ends c d at l o p ≡ p
unfolding record_ends is_ignored
ends_none c d at l o (start_tag t) e = refl
ends_none c d at l o (end_tag t) e = refl
ends_none c d at l o (skipped after) e = refl
ends_none c d at l o blank e =
    ap {B = Piece}
    (λ b. elim (is_second c && (b && at_once d at l o)) as
    (λ _. Piece) [ true ↦ skipped (at + 1) | false ↦ blank ]) e
    ∙ ap {B = Piece} (λ b. elim b as (λ _. Piece) [ true ↦ skipped (at + 1) | false ↦ blank ])
    (and-false (is_second c))
ends_none c d at l o data_byte e = refl

settled_first : (c : Settings) (d : List ℕ) (ev : List Event) → is_second c ≡ false
    → records_settled c d ev ≡ ev
unfolding records_settled
settled_first c d ev e = ap {B = List Event} (λ b. elim b as (λ _. List Event) [ true ↦ cut_before_ends d ev | false ↦ ev ]) e

-- Where no byte is 13 no run of data ends in one.
module _ (d : List ℕ) (none : (i : ℕ) → eqb (byte_at d i) RE ≡ false) where
  cut_none : (e : Event) → cut d e ≡ e ∷ []
  unfolding cut
  cut_none e =
      ap {B = List Event}
      (λ b. elim (eqb e.kind 5 && b) as
      (λ _. List Event) [ true ↦ due_run e.offset (e.size - 1) | false ↦ e ∷ [] ])
      (none (e.offset + e.size - 1))
      ∙ ap {B = List Event}
      (λ b. elim b as (λ _. List Event) [ true ↦ due_run e.offset (e.size - 1) | false ↦ e ∷ [] ])
      (and-false (eqb e.kind 5))

  either_one : (b : Bool) (e : Event)
      → elim b as (λ _. List Event) [ true ↦ cut d e | false ↦ e ∷ [] ] ≡ e ∷ []
  either_one true e = cut_none e
  either_one false e = refl

  uncut : (ev : List Event) → cut_before_ends d ev ≡ ev
  unfolding cut_before_ends
  uncut [] = refl
  uncut (e ∷ []) = refl
  uncut (e ∷ f ∷ ev) = ap₂ (λ (a b : List Event). a ++ b) (either_one (is_end f) e) (uncut (f ∷ ev))

  settled_none : (c : Settings) (ev : List Event) → records_settled c d ev ≡ ev
  unfolding records_settled
  settled_none c ev = by_edition (is_second c)
    where
      by_edition : (b : Bool) → elim b as (λ _. List Event) [ true ↦ cut_before_ends d ev | false ↦ ev ] ≡ ev
      by_edition true = uncut ev
      by_edition false = refl

-- Where no byte is passed over by its place, and no run of data cut, reading is what it was.
module _ (c : Settings) (s : List ℕ) (es : List Element) (D : Decisions) (d : List ℕ)
    (stays : (at : ℕ) (l : Line) (o : Open) (p : Piece) → record_ends c d at l o p ≡ p)
    (whole : (ev : List Event) → records_settled c d ev ≡ ev) where
  piece_plain : (at : ℕ) (l : Line) (o : Open)
      → piece_under c s es d at l o ≡ plain_piece c.name_length s es d at
  unfolding piece_under plain_piece
  piece_plain at l o = on_so (piece c.name_length d at) λ p. on_so
      (piece_attributed c.name_length s es d at p) λ u. ap got (stays at l o p)

  pieces_plain : (turns at : ℕ) (l : Line) (z : State)
      → pieces_within c s es D d turns at l z ≡ plain_pieces c.name_length s es D d turns at z
  unfolding pieces_within plain_pieces
  pieces_plain zero at l z = refl
  pieces_plain (suc turns) at l z = by_test (λ i m y. pieces_plain turns i m y) (leb (length d) at)
    where
      by_test : ((i : ℕ) (m : Line) (y : State) → pieces_within c s es D d turns i m y ≡ plain_pieces c.name_length s es D d turns i y) → (b : Bool)
          → ◌≡◌ {A = Reading (List Event)}
          (elim b [ true ↦ end_document s es D (length d) z | false ↦ and_then (piece_under c s es d at l z.current) λ p. and_then (settle_piece s es D d p at z) λ y. pieces_within c s es D d turns y.at (line_after s es D d p at l z) y.state ])
          (elim b [ true ↦ end_document s es D (length d) z | false ↦ and_then (plain_piece c.name_length s es d at) λ p. and_then (settle_piece s es D d p at z) λ y. plain_pieces c.name_length s es D d turns y.at y.state ])
      by_test ih true = refl
      by_test ih false =
          ap (λ (r : Reading Piece). and_then r λ p. and_then (settle_piece s es D d p at z) λ y.
          pieces_within c s es D d turns y.at (line_after s es D d p at l z) y.state)
          (piece_plain at l z.current)
          ∙ (on_so (plain_piece c.name_length s es d at) λ p. on_so (settle_piece s es D d p at z) λ y. ih y.at (line_after s es D d p at l z) y.state)

  document_plain : document c s es D d ≡ plain_document c.name_length s es D d
  unfolding document plain_document
  document_plain =
      ap (λ (r : Reading (List Event)). and_then r λ ev. got
      (with_attributes c.name_length s es d (records_settled c d ev)))
      (pieces_plain (suc (length d)) 0 new_line nothing_open)
      ∙ (on_so (plain_pieces c.name_length s es D d (suc (length d)) 0 nothing_open) λ ev. ap
      (λ (x : List Event). got (with_attributes c.name_length s es d x)) (whole ev))

-- The document's events in edition 1 are those of the reading before request eight.
pub first_edition_lem : (c : Settings) (s : List ℕ) (es : List Element) (D : Decisions) (d : List ℕ)
    → is_second c ≡ false → document c s es D d ≡ plain_document c.name_length s es D d
first_edition_lem c s es D d e =
    document_plain c s es D d (λ at l o p. ends_first c d at l o p e) (λ ev. settled_first c d ev e)

-- Those of a document with no byte 13 are so in either edition.
pub no_record_ends : (c : Settings) (s : List ℕ) (es : List Element) (D : Decisions) (d : List ℕ)
    → ((i : ℕ) → eqb (byte_at d i) RE ≡ false) → document c s es D d ≡ plain_document c.name_length s es D d
no_record_ends c s es D d none =
    document_plain c s es D d (λ at l o p. ends_none c d at l o p (none at)) (settled_none d none c)
