-- A piece of a document under a type: it is what stands there, and the attributes of a start tag are those of its element's list.
use Rattle.std.specs.Prelude.{ℕ, ◌+◌, ◌-◌, ◌≤◌, ◌<◌, Bool, ◌&&◌, ◌⊎◌, leb}
use Rattle.std.proofs.Math.Path.{◌≡◌, refl}
use Rattle.std.proofs.Common.{◌∙◌, inl, inr, arith}
use Rattle.std.proofs.Math.Bool.{true, false, not}
use mathlib.Core.List.{List, [], ◌∷◌}
use Rattle.std.proofs.Math.ListN.{length}
use borrow.Author.Tests.{le-leb, lt-leb}
use Rattle.rules.specs.Settings.{Settings}
use Rattle.rules.specs.Reading.{Reading, refused, got, and_then}
use Rattle.rules.specs.Attributes.{bytes_in, Attribute, attribute_of, attribute_at, fits}
use Rattle.rules.specs.TypeFile.{Element}
use Rattle.rules.specs.Document.{Written, Tag, Piece, start_tag, end_tag, skipped, blank, data_byte, piece}
use Rattle.rules.specs.Elements.{element_at, number_of}
use Rattle.rules.specs.Given.{value_part, is_given_in, all_listed, all_fit, given_for, is_missing, none_missing, attributed, piece_attributed}
use Rattle.rules.specs.Settling.{Open}
use Rattle.rules.specs.Records.{Line, is_ignored, record_ends}
use Rattle.rules.specs.Reader.{piece_under}
use Rattle.rules_laws.specs.Holds.{Refuses, stops, reads, known, so, on, either}
use Rattle.rules_laws.specs.In.{All, none, more}
use Rattle.rules_laws.specs.Pieces.{WrittenIn, PieceRead, piece_read}

-- What a tag that ends at `after` gives is refused by 20 to 22, in the document.
abbrev InGiven : List ℕ → (number position : ℕ) → Type 0
InGiven d n k = (20 ≤ n) × (n ≤ 22) × (k ≤ length d)

module _ (c : Settings) (s : List ℕ) (xs : List Attribute) (d : List ℕ) (after : ℕ) (inside : after ≤ length d) where
  listed_within : (before : List Written) {ws : List Written} → All (WrittenIn d after) ws → Refuses (InGiven d) (all_listed s xs d before ws)
  unfolding all_listed
  listed_within before none = reads tt
  listed_within before (more {x = w} {xs = ws} p a) =
      either (leb 1 (attribute_of s xs d w.at w.size) && not (is_given_in d before w)) (λ e. listed_within (w ∷ before) a) (λ e. stops {n = 20} {k = w.at} (omega (arith, p.parted, p.ends)))

  fit_within : {ws : List Written} → All (WrittenIn d after) ws → Refuses (InGiven d) (all_fit c.name_length s xs d ws)
  unfolding all_fit
  fit_within none = reads tt
  fit_within (more {x = w} {xs = ws} p a) =
      either (fits c.name_length s (attribute_at xs (attribute_of s xs d w.at w.size - 1)).value (bytes_in d (value_part w))) (λ e. fit_within a) (λ e. stops {n = 22} {k = w.quote} (omega (arith, p.ends)))

missing_within : (s : List ℕ) (xs : List Attribute) (d : List ℕ) (at : ℕ) (ws : List Written) → at ≤ length d → Refuses (InGiven d) (none_missing s xs d at ws)
unfolding none_missing
missing_within s [] d at ws h = reads tt
missing_within s (a ∷ xs) d at ws h = either (is_missing a.default (given_for s a d ws)) (λ e. stops {n = 21} {k = at} (omega arith)) (λ e. missing_within s xs d at ws h)

-- A piece is refused by 3 to 5 or 17, and a start tag by 20 to 22 too, in the document.
abbrev pub InUnder : List ℕ → (number position : ℕ) → Type 0
InUnder d n k = (((3 ≤ n) × (n ≤ 5)) ⊎ ((n ≡ 17) ⊎ ((20 ≤ n) × (n ≤ 22)))) × (k ≤ length d)

module _ (c : Settings) (s : List ℕ) (es : List Element) (d : List ℕ) (at : ℕ) where
  attributed_within : (p : Piece) → at ≤ length d → PieceRead d at p → Refuses (InUnder d) (piece_attributed c.name_length s es d at p)
  unfolding piece_attributed attributed
  attributed_within (start_tag t) h r =
      let k = number_of s es d t.name t.size in
      let xs = (element_at es (k - 1)).attributes in
      either (leb 1 k)
      (λ e. so (on (listed_within c s xs d t.after r.inside [] r.given) (λ u x. on (fit_within c s xs d t.after r.inside r.given) (λ v y. missing_within s xs d at t.written h)))
      (λ n i w. (inr (inr (w.0, w.1)), w.2)) (λ u x. tt))
      (λ e. reads tt)
  attributed_within (end_tag t) h r = reads tt
  attributed_within (skipped e) h r = reads tt
  attributed_within blank h r = reads tt
  attributed_within data_byte h r = reads tt

module _ (c : Settings) (s : List ℕ) (es : List Element) (d : List ℕ) (at : ℕ) (l : Line) (o : Open) where
  abbrev Under : Reading Piece
  Under = piece_under c s es d at l o

  -- What is refused at all is refused in the document.
  pub under_within : at < length d → Refuses (InUnder d) Under
  unfolding piece_under
  under_within h =
      on (so (known (piece_read c.name_length d at h)) in_text (λ p r. r)) λ p r.
      on (attributed_within c s es d at p (omega arith) r.1) λ u x.
      reads tt
    where
      in_text : (n k : ℕ) → (((3 ≤ n) × (n ≤ 5)) ⊎ (n ≡ 17)) × (k ≤ length d) → InUnder d n k
      in_text n k (inl x, l) = (inl x, l)
      in_text n k (inr x, l) = (inr (inl x), l)

  pub under_refused : {n k : ℕ} → piece c.name_length d at ≡ refused n k → Under ≡ refused n k
  unfolding piece_under
  under_refused e = rw (piece_under, e)

  -- What asks nothing of the attributes.
  whole : (p : Piece) → piece c.name_length d at ≡ got p → piece_attributed c.name_length s es d at p ≡ got tt → Under ≡ got (record_ends c d at l o p)
  unfolding piece_under
  whole p e i = rw (piece_under, e, and_then, i)

  pub under_end : {t : Tag} → piece c.name_length d at ≡ got (end_tag t) → Under ≡ got (end_tag t)
  unfolding piece_attributed record_ends
  under_end {t} e = whole (end_tag t) e refl

  pub under_skipped : {i : ℕ} → piece c.name_length d at ≡ got (skipped i) → Under ≡ got (skipped i)
  unfolding piece_attributed record_ends
  under_skipped {i} e = whole (skipped i) e refl

  -- A byte by itself: it is passed by where it is ignored at once.
  pub under_blank : piece c.name_length d at ≡ got blank → is_ignored c d at l o ≡ false → Under ≡ got blank
  unfolding piece_attributed record_ends
  under_blank e i = whole blank e refl ∙ rw (record_ends, i)

  pub under_ignored : piece c.name_length d at ≡ got blank → is_ignored c d at l o ≡ true → Under ≡ got (skipped (at + 1))
  unfolding piece_attributed record_ends
  under_ignored e i = whole blank e refl ∙ rw (record_ends, i)

  pub under_data : piece c.name_length d at ≡ got data_byte → Under ≡ got data_byte
  unfolding piece_attributed record_ends
  under_data e = whole data_byte e refl

  module _ {t : Tag} (e : piece c.name_length d at ≡ got (start_tag t)) where
    as_is : piece_attributed c.name_length s es d at (start_tag t) ≡ got tt → Under ≡ got (start_tag t)
    unfolding record_ends
    as_is i = whole (start_tag t) e i

    pub under_undeclared : number_of s es d t.name t.size ≡ 0 → Under ≡ got (start_tag t)
    unfolding piece_attributed
    under_undeclared i = as_is (rw (lt-leb 1 (number_of s es d t.name t.size) (omega (arith, i)), piece_attributed))

    module _ {k : ℕ} (i : number_of s es d t.name t.size ≡ k) (some : 1 ≤ k) where
      is : piece_attributed c.name_length s es d at (start_tag t) ≡ attributed c.name_length s (element_at es (k - 1)).attributes d at t.written
      unfolding piece_attributed
      is = rw (i, piece_attributed, le-leb 1 k some, i)

      pub under_start : attributed c.name_length s (element_at es (k - 1)).attributes d at t.written ≡ got tt → Under ≡ got (start_tag t)
      under_start q = as_is (is ∙ q)

      pub under_misgiven : {n j : ℕ} → attributed c.name_length s (element_at es (k - 1)).attributes d at t.written ≡ refused n j → Under ≡ refused n j
      unfolding piece_under
      under_misgiven q = rw (piece_under, e, and_then, is ∙ q)

  -- A piece that is read is one of the document, but for a byte that is ignored at once.
  pub record Text (p : Piece) : Type 0 where
    pub text : Piece
    pub there : piece c.name_length d at ≡ got text
    pub attributes : piece_attributed c.name_length s es d at text ≡ got tt
    pub is : record_ends c d at l o text ≡ p

  pub under_text : {p : Piece} → Under ≡ got p → Text p
  unfolding piece_under
  under_text {p} e = by_piece (piece c.name_length d at) refl e
    where
      by_given : (q : Piece) (r : Reading (Unit {0})) → piece_attributed c.name_length s es d at q ≡ r → piece c.name_length d at ≡ got q → and_then r (λ u. got (record_ends c d at l o q)) ≡ got p → Text p
      by_given q (refused n k) a i f = let z : ◌≡◌ {A = ℕ} 0 1 = cc in absurd (omega arith)
      by_given q (got u) a i f = let z : record_ends c d at l o q ≡ p = cc in record { text = q; there = i; attributes = a; is = z }

      by_piece : (r : Reading Piece) → piece c.name_length d at ≡ r → and_then r (λ q. and_then (piece_attributed c.name_length s es d at q) λ u. got (record_ends c d at l o q)) ≡ got p → Text p
      by_piece (refused n k) i f = let z : ◌≡◌ {A = ℕ} 0 1 = cc in absurd (omega arith)
      by_piece (got q) i f = by_given q (piece_attributed c.name_length s es d at q) refl i f

  -- Which piece of the document it is.
  pub data Stands : (q p : Piece) → Type 0 where
    unchanged : {p : Piece} → Stands p p
    ignored : is_ignored c d at l o ≡ true → Stands blank (skipped (at + 1))

  pub stands : (q : Piece) → Stands q (record_ends c d at l o q)
  unfolding record_ends
  stands (start_tag t) = unchanged
  stands (end_tag t) = unchanged
  stands (skipped e) = unchanged
  stands blank = by_test (is_ignored c d at l o) refl
    where
      by_test : (b : Bool) → is_ignored c d at l o ≡ b → Stands blank (elim b [ true ↦ skipped (at + 1) | false ↦ blank ])
      by_test true e = ignored e
      by_test false e = unchanged
  stands data_byte = unchanged
