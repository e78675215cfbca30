-- The proof behind "the record rule the only difference": where no byte of the document is 13, whatever a
-- call gives in one edition it gives in the other.
use Rattle.std.proofs.Common.{ℕ, ◌≡◌, refl, sym, ◌∙◌, Bool, true, false, eqb, eqb-true, List, ◌+◌, ◌&&◌, ◌⊎◌, inl, inr}
use Rattle.rules.specs.Settings.{settings, is_offered}
use Rattle.rules.specs.Bytes.{byte_at, RE}
use Rattle.rules.specs.Lent.{Lent}
use Rattle.rules.specs.Reading.{Reading, refused, got, and_then}
use Rattle.rules.specs.TypeFile.{Element}
use Rattle.rules.specs.Judge.{Answer, Legible, Refuses, Accepts, Judged}
use Rattle.rules.specs.Document.{Piece, start_tag, end_tag, skipped, blank, data_byte, piece}
use Rattle.rules.specs.Events.{Event}
use Rattle.rules.specs.Given.{piece_attributed}
use Rattle.rules.specs.Settling.{Open}
use Rattle.rules.specs.Records.{Line, at_once, is_ignored, record_ends}
use Rattle.rules.specs.Reader.{piece_under, BothLegible, Reads, RefusesBoth, ReadAs}
use Rattle.basic_laws.specs.Truth.{and_left, and_right}
use Rattle.text.specs.Words.{test_in}
use Rattle.record_laws.specs.FirstEdition.{no_record_ends}
use Rattle.demands.specs.Words.{NoRecordEnd}

nowhere : (d : List ℕ) → NoRecordEnd d → (i : ℕ) → eqb (byte_at d i) RE ≡ false
nowhere d none i = by_test (eqb (byte_at d i) RE) refl
  where
    by_test : (b : Bool) → eqb (byte_at d i) RE ≡ b → eqb (byte_at d i) RE ≡ false
    by_test true e = absurd (none i (test_in (λ v. eqb v RE) refl d i e) (eqb-true (byte_at d i) RE e))
    by_test false e = e

-- The type judge asks the edition only whether it is offered.
module _ (long first second : ℕ)
    (offered : is_offered (settings long first) ≡ is_offered (settings long second)) (s : List ℕ) where
  type_legible : Legible (settings long first) s → Legible (settings long second) s
  type_legible i = record { offered = sym offered ∙ i.offered; short = i.short; clean = i.clean }

  type_accepted : (es : List Element) → Accepts (settings long first) s es
      → Accepts (settings long second) s es
  type_accepted es w =
      record {
        legible = type_legible w.legible;
        elements = w.elements;
        unrepeated = w.unrepeated;
        unambiguous = w.unambiguous;
      }

  type_refused : (room : ℕ) (a : Answer) → Refuses (settings long first) s room a
      → Refuses (settings long second) s room a
  type_refused room a (Refuses.not_offered o e) = Refuses.not_offered (sym offered ∙ o) e
  type_refused room a (Refuses.too_long o l e) = Refuses.too_long (sym offered ∙ o) l e
  type_refused room a (Refuses.not_allowed o l m e) = Refuses.not_allowed (sym offered ∙ o) l m e
  type_refused room a (Refuses.malformed i n k r e) = Refuses.malformed (type_legible i) n k r e
  type_refused room a (Refuses.repeated i es r l e) = Refuses.repeated (type_legible i) es r l e
  type_refused room a (Refuses.ambiguous i es r o k p q f e) =
      Refuses.ambiguous (type_legible i) es r o k p q f e
  type_refused room a (Refuses.no_room i es r o u l e) = Refuses.no_room (type_legible i) es r o u l e

  pub verdicts_alike : (l : Lent) (before : List ℕ) (a : Answer) (after : List ℕ)
      → Judged l (settings long first) s before a after → Judged l (settings long second) s before a after
  verdicts_alike l before a after (Judged.refuses r z) = Judged.refuses (type_refused _ a r) z
  verdicts_alike l before a after (Judged.accepts es w f e z) = Judged.accepts es (type_accepted es w) f e z

module _ (long first second : ℕ)
    (offered : is_offered (settings long first) ≡ is_offered (settings long second)) (s d : List ℕ)
    (none : NoRecordEnd d) where
  legible : Legible (settings long first) s → Legible (settings long second) s
  legible = type_legible long first second offered s

  both_legible : BothLegible (settings long first) s d → BothLegible (settings long second) s d
  both_legible i = record { type = legible i.type; short = i.short; clean = i.clean }

  pub reads_alike : (es : List Element) (r : Reading (List Event)) → Reads (settings long first) s d es r
      → Reads (settings long second) s d es r
  reads_alike es r w =
      record {
        legible = both_legible w.legible;
        accepted = type_accepted long first second offered s es w.accepted;
        decisions = w.decisions;
        means = w.means;
        reading = no_record_ends (settings long second) s es w.decisions d (nowhere d none)
            ∙ sym (no_record_ends (settings long first) s es w.decisions d (nowhere d none)) ∙ w.reading;
      }

  refuses_alike : (room : ℕ) (a : Answer) → RefusesBoth (settings long first) s d room a
      → RefusesBoth (settings long second) s d room a
  refuses_alike room a (RefusesBoth.not_offered o e) = RefusesBoth.not_offered (sym offered ∙ o) e
  refuses_alike room a (RefusesBoth.type_too_long o l e) = RefusesBoth.type_too_long (sym offered ∙ o) l e
  refuses_alike room a (RefusesBoth.document_too_long o l m e) =
      RefusesBoth.document_too_long (sym offered ∙ o) l m e
  refuses_alike room a (RefusesBoth.type_not_allowed o l m n e) =
      RefusesBoth.type_not_allowed (sym offered ∙ o) l m n e
  refuses_alike room a (RefusesBoth.document_not_allowed i l m e) =
      RefusesBoth.document_not_allowed (legible i) l m e
  refuses_alike room a (RefusesBoth.malformed i n k r e) = RefusesBoth.malformed (both_legible i) n k r e
  refuses_alike room a (RefusesBoth.repeated i es r l e) = RefusesBoth.repeated (both_legible i) es r l e
  refuses_alike room a (RefusesBoth.ambiguous i es r o k p q f e) =
      RefusesBoth.ambiguous (both_legible i) es r o k p q f e
  refuses_alike room a (RefusesBoth.unsettled es n k w e) =
      RefusesBoth.unsettled es n k (reads_alike es _ w) e
  refuses_alike room a (RefusesBoth.no_room es ev w l e) = RefusesBoth.no_room es ev (reads_alike es _ w) l e

  pub answers_alike : (l : Lent) (before : List ℕ) (a : Answer) (after : List ℕ)
      → ReadAs l (settings long first) s d before a after → ReadAs l (settings long second) s d before a after
  answers_alike l before a after (ReadAs.refuses r z) = ReadAs.refuses (refuses_alike _ a r) z
  answers_alike l before a after (ReadAs.accepts es ev w f e z) =
      ReadAs.accepts es ev (reads_alike es _ w) f e z

-- What is found at a position differs only where a byte 13 outside tags and comments is passed over.
module _ (long : ℕ) (d : List ℕ) (at : ℕ) (l : Line) (o : Open) where
  abbrev Differs : Reading Piece → Reading Piece → Type 0
  Differs one two = (one ≡ two)
      ⊎ ((byte_at d at ≡ RE) × (at_once d at l o ≡ true) × (one ≡ got blank) × (two ≡ got (skipped (at + 1))))

  ends_differ : (p : Piece)
      → Differs (got (record_ends (settings long 1) d at l o p))
      (got (record_ends (settings long 2) d at l o p))
  unfolding record_ends is_ignored
  ends_differ (start_tag t) = inl refl
  ends_differ (end_tag t) = inl refl
  ends_differ (skipped after) = inl refl
  ends_differ data_byte = inl refl
  ends_differ blank = by_test (eqb (byte_at d at) RE && at_once d at l o) refl
    where
      by_test : (b : Bool) → (eqb (byte_at d at) RE && at_once d at l o) ≡ b
          → Differs (got blank) (got (elim b [ true ↦ skipped (at + 1) | false ↦ blank ]))
      by_test true e =
          let first = eqb-true (byte_at d at) RE (and_left (eqb (byte_at d at) RE) (at_once d at l o) e) in
          inr (first, and_right (eqb (byte_at d at) RE) (at_once d at l o) e, refl, refl)
      by_test false e = inl refl

  pub pieces_differ : (s : List ℕ) (es : List Element)
      → Differs (piece_under (settings long 1) s es d at l o) (piece_under (settings long 2) s es d at l o)
  unfolding piece_under
  pieces_differ s es = by_piece (piece long d at)
    where
      by_piece : (r : Reading Piece)
          → Differs
          (and_then r λ p. and_then (piece_attributed long s es d at p) λ u. got
          (record_ends (settings long 1) d at l o p))
          (and_then r λ p. and_then (piece_attributed long s es d at p) λ u. got
          (record_ends (settings long 2) d at l o p))
      by_piece (refused n k) = inl refl
      by_piece (got p) = by_attributes (piece_attributed long s es d at p)
        where
          by_attributes : {A : Type 0} (r : Reading A)
              → Differs (and_then r λ u. got (record_ends (settings long 1) d at l o p))
              (and_then r λ u. got (record_ends (settings long 2) d at l o p))
          by_attributes (refused n k) = inl refl
          by_attributes (got u) = ends_differ p

-- Both editions are offered, with the same lengths of names.
pub both_offered : (long : ℕ) → is_offered (settings long 1) ≡ is_offered (settings long 2)
unfolding is_offered
both_offered long = refl
