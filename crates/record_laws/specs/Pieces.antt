-- What a piece says of the bytes it stands on, as far as record ends ask: it goes forward, a tag ends in ">", and which byte is skipped.
use Rattle.std.specs.Prelude.{ℕ, ◌+◌, ◌-◌, ◌<◌, ◌≡◌, Bool, true, false, ◌&&◌, ◌⊎◌, List, length, eqb}
use Rattle.std.proofs.Common.{arith, ◌∙◌, ap, subst, inr, eqb-true, eq-eqb}
use Rattle.std.proofs.Math.Path.{refl}
use Rattle.std.proofs.Math.Logic.{inl}
use Rattle.std.proofs.lemmas.Bool.{eqb-false}
use Rattle.rules.specs.Bytes.{byte_at, RS, RE, STAGO, MDC}
use Rattle.rules.specs.Settings.{Settings, is_second}
use Rattle.rules.specs.Reading.{got}
use Rattle.rules.specs.TypeFile.{Element}
use Rattle.rules.specs.Document.{Tag, Piece, start_tag, end_tag, skipped, blank, data_byte}
use Rattle.rules.specs.Settling.{Open}
use Rattle.rules.specs.Records.{Line, at_once, is_ignored, record_ends}
use Rattle.rules.specs.Reader.{piece_under}
use Rattle.rules_laws.specs.Holds.{got_so}
use Rattle.rules_laws.specs.Pieces.{PieceRead, piece_read, Begins, piece_begins}
use Rattle.document_laws.specs.Under.{under_text}

-- A tag behind `at` ends in ">".
abbrev pub Closes : (d : List ℕ) (at : ℕ) → Tag → Type 0
Closes d at t = (at < t.after) × (byte_at d (t.after - 1) ≡ MDC)

-- The bytes of a piece where record ends are ignored: a byte 13 is skipped by what stands before it, and one that is not skipped, in edition 2, does not stand so.
abbrev pub Found : Settings → (d : List ℕ) (at : ℕ) → Line → Open → Piece → Type 0
Found c d at l o (start_tag t) = (byte_at d at ≡ STAGO) × Closes d at t
Found c d at l o (end_tag t) = (byte_at d at ≡ STAGO) × Closes d at t
Found c d at l o (skipped e) = (((byte_at d at ≡ RS) × (e ≡ at + 1)) ⊎ ((byte_at d at ≡ STAGO) × (at < e))) ⊎ ((byte_at d at ≡ RE) × (e ≡ at + 1) × (at_once d at l o ≡ true))
Found c d at l o blank = is_second c ≡ true → byte_at d at ≡ RE → at_once d at l o ≡ false
Found c d at l o data_byte = ¬ (byte_at d at ≡ RE)

module _ (c : Settings) (d : List ℕ) (at : ℕ) (l : Line) (o : Open) where
  blank_found : (i r n : Bool) → is_second c ≡ i → eqb (byte_at d at) RE ≡ r → at_once d at l o ≡ n → Found c d at l o (elim (i && (r && n)) [ true ↦ skipped (at + 1) | false ↦ blank ])
  blank_found true true true e f g = inr (eqb-true (byte_at d at) RE f, refl, g)
  blank_found true true false e f g = λ x y. g
  blank_found true false n e f g = λ x y. absurd (eqb-false (byte_at d at) RE f y)
  blank_found false r n e f g = λ x y. absurd (let z : ◌≡◌ {A = ℕ} 0 1 = cc in omega arith)

  ends_found : (p : Piece) → PieceRead d at p → Begins d at p → Found c d at l o (record_ends c d at l o p)
  unfolding record_ends is_ignored
  ends_found (start_tag t) r b = (b, (omega (arith, r.behind, r.ends), r.closes))
  ends_found (end_tag t) r b = (b, (omega (arith, r.behind, r.ends), r.closes))
  ends_found (skipped e) r (inl b) = inl (inl b)
  ends_found (skipped e) r (inr b) = inl (inr (b, omega (arith, r.0)))
  ends_found blank r b = blank_found (is_second c) (eqb (byte_at d at) RE) (at_once d at l o) refl refl refl
  ends_found data_byte r b = b

  pub piece_found : (s : List ℕ) (es : List Element) {p : Piece} → at < length d → piece_under c s es d at l o ≡ got p → Found c d at l o p
  piece_found s es h e =
      let w = under_text c s es d at l o e in
      subst (Found c d at l o) w.is (ends_found w.text (got_so (piece_read c.name_length d at h) w.there) (got_so (piece_begins c.name_length d at) w.there))

-- In edition 2 a byte 13 is ignored exactly if it is so at once.
pub ignored_so : (c : Settings) (d : List ℕ) (at : ℕ) (l : Line) (o : Open) (b : Bool) → is_second c ≡ true → byte_at d at ≡ RE → at_once d at l o ≡ b → is_ignored c d at l o ≡ b
unfolding is_ignored
ignored_so c d at l o b second e f = ap (λ (x : Bool). x && (eqb (byte_at d at) RE && at_once d at l o)) second ∙ ap (λ (x : Bool). x && at_once d at l o) (eq-eqb (byte_at d at) RE e) ∙ f
