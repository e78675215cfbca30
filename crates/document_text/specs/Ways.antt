-- Laws of the rules' pieces: each way that reading goes.
use Rattle.std.specs.Prelude.{ℕ, Result, Ok, Err, IsErrAnd, ◌+◌, ◌≡◌, refl, Bool, true, false, ◌&&◌, ◌||◌, List, eqb}
use Rattle.std.proofs.Common.{sym, ap, subst, ◌∙◌, true≢false}
use borrow.Author.Tests.{eq-eqb, ne_eqb}
use Rattle.rules.specs.Bytes.{byte_at, letter, AND, DSO, EXCLAMATION, MDC, OPT, RE, RS, SOLIDUS, SPACE, STAGO, TAB}
use Rattle.rules.specs.Reading.{Reading, refused, got}
use Rattle.rules.specs.Attributes.{is_reference}
use Rattle.rules.specs.TypeFile.{at_dashes, comment_declaration}
use Rattle.rules.specs.Document.{Written, Tag, Piece, start_tag, end_tag, skipped, blank, data_byte, tag, start_tag_at, malformed, declaration_piece, markup_piece, is_section_end, byte_piece, piece}
use Rattle.std.specs.Result.{MatchResult}
use Rattle.text.specs.declared.Fault.{Fault}
use Rattle.text.specs.declared.Refusal.TheVariants.{Malformed}
use Rattle.text.specs.Refusal.{fault_at, refusal_of, reached}
use Rattle.tags.specs.Tags.{tag_with, tag_in}
use Rattle.tags.specs.Given.{ReadAs}
use Rattle.tags.specs.declared.Tag as here
use Rattle.document_text.specs.PieceOf.{piece_in, piece_of, Stands, MeetsPiece, as_start_tag, as_end_tag, as_skipped}
use Rattle.document_text.specs.declared.Piece as code
use Rattle.document_text.specs.declared.Piece.TheVariants as token

-- What is refused in a comment declaration is malformed: m is r but for that.
pub remalformed : (r m : Result ℕ Fault) {P : Fault → Fault → Type 0} → MatchResult r (λ i. m ≡ Ok i) (λ f. IsErrAnd m (λ g. P f g))
    → ((f g : Fault) → P f g → g ≡ fault_at Malformed f.at) → reached m ≡ malformed (reached r)
remalformed (Ok i) m h p = ap reached h
remalformed (Err f) (Ok i) h p = elim h [ ]
remalformed (Err f) (Err g) h p = ap refusal_of (p f g h)

-- `<!` at i, before the byte b.
module _ (s : List ℕ) (i b : ℕ) (q : b ≡ byte_at s (i + 2)) where
  pub declaration_none : b ≡ MDC → got (skipped (i + 3)) ≡ declaration_piece s i
  unfolding declaration_piece
  declaration_none h = rw (declaration_piece, eq-eqb _ _ (sym q ∙ h))

  module _ (h : b ≡ MDC → ⊥) where
    pub declaration_comment : (r : Reading ℕ) → r ≡ comment_declaration s (i + 2) → at_dashes s (i + 2) ≡ true → as_skipped (malformed r) ≡ declaration_piece s i
    unfolding declaration_piece
    declaration_comment r e d = rw (e, declaration_piece, ne_eqb _ _ (λ x. h (q ∙ x)), d)

    pub declaration_out : at_dashes s (i + 2) ≡ false → (letter b || eqb b DSO) ≡ true → refused 5 i ≡ declaration_piece s i
    unfolding declaration_piece
    declaration_out d l = rw (declaration_piece, ne_eqb _ _ (λ x. h (q ∙ x)), d, rw q at l)

    pub declaration_data : at_dashes s (i + 2) ≡ false → (letter b || eqb b DSO) ≡ false → got data_byte ≡ declaration_piece s i
    unfolding declaration_piece
    declaration_data d l = rw (declaration_piece, ne_eqb _ _ (λ x. h (q ∙ x)), d, rw q at l)

-- `<` at i where names may have `long` bytes, before the byte b.
module _ (long : ℕ) (s : List ℕ) (i b : ℕ) (q : b ≡ byte_at s (i + 1)) where
  pub markup_start : letter b ≡ true → as_start_tag (start_tag_at long s (i + 1)) ≡ markup_piece long s i
  unfolding markup_piece
  markup_start l = rw (markup_piece, rw q at l)

  module _ (l : letter b ≡ false) where
    pub markup_end : (eqb (byte_at s (i + 1)) SOLIDUS && letter (byte_at s (i + 2))) ≡ true → (r : Reading Tag) → r ≡ tag long s (i + 2) → as_end_tag r ≡ markup_piece long s i
    unfolding markup_piece
    markup_end t r e = rw (e, markup_piece, rw q at l, t)

    module _ (t : (eqb (byte_at s (i + 1)) SOLIDUS && letter (byte_at s (i + 2))) ≡ false) where
      pub markup_declaration : b ≡ EXCLAMATION → declaration_piece s i ≡ markup_piece long s i
      unfolding markup_piece
      markup_declaration h = rw (markup_piece, rw q at l, t, eq-eqb _ _ (sym q ∙ h))

      pub markup_out : (b ≡ EXCLAMATION → ⊥) → b ≡ OPT → refused 5 i ≡ markup_piece long s i
      unfolding markup_piece
      markup_out n h = rw (markup_piece, rw q at l, t, ne_eqb _ _ (λ x. n (q ∙ x)), eq-eqb _ _ (sym q ∙ h))

      pub markup_data : (b ≡ EXCLAMATION → ⊥) → (b ≡ OPT → ⊥) → got data_byte ≡ markup_piece long s i
      unfolding markup_piece
      markup_data n h = rw (markup_piece, rw q at l, t, ne_eqb _ _ (λ x. n (q ∙ x)), ne_eqb _ _ (λ x. h (q ∙ x)))

-- The byte b at i by itself.
module _ (s : List ℕ) (i b : ℕ) (q : b ≡ byte_at s i) where
  pub byte_skipped : b ≡ RS → got (skipped (i + 1)) ≡ byte_piece s i
  unfolding byte_piece
  byte_skipped h = rw (byte_piece, eq-eqb _ _ (sym q ∙ h))

  module _ (h : b ≡ RS → ⊥) where
    pub byte_blank : (eqb b TAB || (eqb b RE || eqb b SPACE)) ≡ true → got blank ≡ byte_piece s i
    unfolding byte_piece
    byte_blank l = rw (byte_piece, ne_eqb _ _ (λ x. h (q ∙ x)), rw q at l)

    pub byte_data : (eqb b TAB || (eqb b RE || eqb b SPACE)) ≡ false → got data_byte ≡ byte_piece s i
    unfolding byte_piece
    byte_data l = rw (byte_piece, ne_eqb _ _ (λ x. h (q ∙ x)), rw q at l)

-- What stands at i where names may have `long` bytes.
module _ (long : ℕ) (s : List ℕ) (i : ℕ) where
  pub piece_markup : byte_at s i ≡ STAGO → markup_piece long s i ≡ piece long s i
  unfolding piece
  piece_markup h = rw (piece, eq-eqb _ _ h)

  module _ (h : byte_at s i ≡ STAGO → ⊥) where
    pub piece_reference : (eqb (byte_at s i) AND && is_reference s i) ≡ true → refused 5 i ≡ piece long s i
    unfolding piece
    piece_reference r = rw (piece, ne_eqb _ _ h, r)

    module _ (r : (eqb (byte_at s i) AND && is_reference s i) ≡ false) where
      pub piece_section : is_section_end s i ≡ true → refused 17 i ≡ piece long s i
      unfolding piece
      piece_section e = rw (piece, ne_eqb _ _ h, r, e)

      pub piece_byte : is_section_end s i ≡ false → byte_piece s i ≡ piece long s i
      unfolding piece
      piece_byte e = rw (piece, ne_eqb _ _ h, r, e)

-- A start tag was read.
abbrev is_start : Reading Piece → Bool
is_start (refused n k) = false
is_start (got (start_tag t)) = true
is_start (got (end_tag t)) = false
is_start (got (skipped i)) = false
is_start (got blank) = false
is_start (got data_byte) = false

-- No start tag was read.
pub record NoStart (x : Reading Piece) : Type 0 where
  no : is_start x ≡ false

skipped_no_start : (r : Reading ℕ) → NoStart (as_skipped r)
skipped_no_start (refused n k) = record { no = refl }
skipped_no_start (got e) = record { no = refl }

either_no_start : {x y : Reading Piece} (b : Bool) → NoStart x → NoStart y → NoStart (elim b [ true ↦ x | false ↦ y ])
either_no_start true p q = p
either_no_start false p q = q

pub declaration_no_start : (s : List ℕ) (i : ℕ) → NoStart (declaration_piece s i)
unfolding declaration_piece
declaration_no_start s i =
    let b = byte_at s (i + 2) in
    either_no_start (eqb b MDC) (record { no = refl })
    (either_no_start (at_dashes s (i + 2)) (skipped_no_start (malformed (comment_declaration s (i + 2)))) (either_no_start (letter b || eqb b DSO) (record { no = refl }) (record { no = refl })))

pub byte_no_start : (s : List ℕ) (i : ℕ) → NoStart (byte_piece s i)
unfolding byte_piece
byte_no_start s i =
    let b = byte_at s i in
    either_no_start (eqb b RS) (record { no = refl }) (either_no_start (eqb b TAB || (eqb b RE || eqb b SPACE)) (record { no = refl }) (record { no = refl }))

-- A token that stands for what is no start tag: nothing is kept of attributes. It is what the rules read, x.
pub meets_other : (end : ℕ) (g : List ℕ) (r : Result code.Piece Fault) {x y : Reading Piece} → piece_of r ≡ y → NoStart y → y ≡ x → MeetsPiece end g r x
meets_other end g (Ok p) {x} {y} e n q = by_kind p e
  where
    by_kind : (p : code.Piece) → got (piece_in p) ≡ y → Stands end g p x
    by_kind (token.StartTag t) e = absurd (true≢false (ap is_start e ∙ n.no))
    by_kind (token.EndTag t) e = sym (e ∙ q)
    by_kind (token.Skipped i) e = sym (e ∙ q)
    by_kind token.Blank e = sym (e ∙ q)
    by_kind token.Data e = sym (e ∙ q)
meets_other end g (Err f) e n q = sym (e ∙ q)

-- A token by cases: what the rules read, where the code's answer is known.
module _ (end : ℕ) (g : List ℕ) (r : code.Piece) (x : Reading Piece) (m : Stands end g r x) where
  known : {t : code.Piece} → r ≡ t → Stands end g t x
  known q = subst (λ (y : code.Piece). Stands end g y x) q m

  pub token_start : {t : here.Tag} → r ≡ token.StartTag t → (ws : List Written) × (x ≡ got (start_tag (tag_with ws t))) × ReadAs end g t.given ws
  token_start q = known q

  pub token_end : {t : here.Tag} → r ≡ token.EndTag t → x ≡ got (end_tag (tag_in t))
  token_end q = known q

  pub token_skipped : {i : ℕ} → r ≡ token.Skipped i → x ≡ got (skipped i)
  token_skipped q = known q

  pub token_blank : r ≡ token.Blank → x ≡ got blank
  token_blank q = known q

  pub token_data : r ≡ token.Data → x ≡ got data_byte
  token_data q = known q
