-- The pieces of a document, walked once: where a piece stands, what its name is, and by which numbers and where it is refused.
use Prim.Native.Nat.{ℕ, zero, suc, ◌+◌, ◌-◌, ◌≤◌, ◌<◌}
use Rattle.std.proofs.Math.Path.{◌≡◌, refl}
use Rattle.std.proofs.Common.{◌∙◌, ap, inl, inr, ltb-false, eqb-true}
use Rattle.std.proofs.Math.Bool.{true, false}
use Rattle.std.specs.Prelude.{◌&&◌, ◌||◌, ◌⊎◌, ltb, Bool}
use mathlib.Core.List.{List, [], ◌∷◌, ◌++◌}
use native.Mathlib.Omega.{arith}
use Rattle.std.proofs.Math.ListN.{length}
use Rattle.std.proofs.Math.Dec.{eqb}
use Rattle.basic_laws.specs.Truth.{and_right}
use Rattle.rules.specs.Bytes.{byte_at, letter, name_end, separators_end, MDC, AND, DSO, EXCLAMATION, OPT, RE, RS, SOLIDUS, SPACE, STAGO, TAB, VI}
use Rattle.rules.specs.Reading.{Reading, refused, got}
use Rattle.rules.specs.TypeFile.{at_dashes, comment_declaration}
use Rattle.rules.specs.Attributes.{quote, is_reference, literal_end}
use Rattle.rules.specs.Document.{Written, Tag, Piece, start_tag, end_tag, skipped, blank, data_byte, tag, specification, specifications, start_tag_at, malformed, declaration_piece, markup_piece, is_section_end, byte_piece, piece}
use Rattle.text.specs.Words.{test_in, letter_in, name_end_from, name_end_le, name_end_more, separators_end_from, separators_end_le, dashes_in}
use Rattle.rules_laws.specs.Holds.{got_so, Holds, stops, reads, Gives, each, so, on, either}
use Rattle.rules_laws.specs.Groups.{InType}
use Rattle.rules_laws.specs.In.{All, none, more, all_snoc}
use Rattle.rules_laws.specs.Gaps.{Onward, comment_within}
use Rattle.rules_laws.specs.Definitions.{literal_holds}
use Rattle.std.proofs.lemmas.Bool.{eqb-false}
use Rattle.rules.specs.Bytes.{DSC}
use Rattle.rules.specs.Reading.{and_then}
use Rattle.rules_laws.specs.Holds.{on_same}

-- A piece is refused by 3 to 5 or 17, in the document.
abbrev pub InPiece : List ℕ → (number position : ℕ) → Type 0
InPiece d n k = (((3 ≤ n) × (n ≤ 5)) ⊎ (n ≡ 17)) × (k ≤ length d)

-- An attribute of a tag that ends at `after`: its name, which begins with a letter, stands before the opening quote, and the literal before the end.
pub record WrittenIn (d : List ℕ) (after : ℕ) (w : Written) : Type 0 where
  pub some : 1 ≤ w.size
  pub named : letter (byte_at d w.at) ≡ true
  pub parted : w.at + w.size < w.quote
  pub ends : w.quote + 1 + w.width + 1 < after

-- A tag behind i: its name begins behind i, with a letter, and ends before the tag does, which ends in `>`. How long it may be: `tag_short`.
pub record TagRead (d : List ℕ) (i : ℕ) (t : Tag) : Type 0 where
  pub behind : i < t.name
  pub some : 1 ≤ t.size
  pub named : letter (byte_at d t.name) ≡ true
  pub ends : t.name + t.size < t.after
  pub inside : t.after ≤ length d
  pub closes : byte_at d (t.after - 1) ≡ MDC
  pub given : All (WrittenIn d t.after) t.written

abbrev pub PieceRead : List ℕ → (i : ℕ) → Piece → Type 0
PieceRead d i (start_tag t) = TagRead d i t
PieceRead d i (end_tag t) = TagRead d i t
PieceRead d i (skipped e) = Onward d (i + 1) e
PieceRead d i blank = Unit {0}
PieceRead d i data_byte = Unit {0}

module _ (d : List ℕ) where
  -- A comment declaration is refused by 4 alone.
  malformed_in : {P : ℕ → Type 0} {r : Reading ℕ} → Holds (InType d) P r → Holds (InPiece d) P (malformed r)
  malformed_in (stops {n} {k} h) = stops {n = 4} {k = k} (inl (omega arith), omega (arith, h))
  malformed_in (reads p) = reads p

  comment_read : (at : ℕ) → at ≤ length d → Holds (InPiece d) (Onward d (at + 1)) (malformed (comment_declaration d at))
  comment_read at h = malformed_in (comment_within d at h)

  early : {A : Type 0} {P : A → Type 0} {n k : ℕ} → (3 ≤ n) × (n ≤ 5) × (k ≤ length d) → Holds (InPiece d) P (refused n k)
  early (a, b, h) = stops (inl (a, b), h)

  declaration_read : (i : ℕ) → i < length d → Holds (InPiece d) (PieceRead d i) (declaration_piece d i)
  unfolding declaration_piece
  declaration_read i h =
      let b = byte_at d (i + 2) in
      either (eqb b MDC) (λ x. reads (omega arith, omega (arith, test_in (λ v. eqb v MDC) refl d (i + 2) x)))
      (λ x. either (at_dashes d (i + 2))
      (λ y. on (comment_read (i + 2) (omega (arith, dashes_in d (i + 2) y))) (λ e r. reads (omega (arith, r), r.1)))
      (λ y. either (letter b || eqb b DSO) (λ z. early (omega arith)) (λ z. reads tt)))

  byte_read : (i : ℕ) → i < length d → Holds (InPiece d) (PieceRead d i) (byte_piece d i)
  unfolding byte_piece
  byte_read i h =
      let b = byte_at d i in
      either (eqb b RS) (λ x. reads (omega arith, omega arith)) (λ x. either (eqb b TAB || (eqb b RE || eqb b SPACE)) (λ y. reads tt) (λ y. reads tt))

-- Its name, where it is a tag, has at most so many bytes.
abbrev pub ShortPiece : (long : ℕ) → Piece → Type 0
ShortPiece long (start_tag t) = t.size ≤ long
ShortPiece long (end_tag t) = t.size ≤ long
ShortPiece long (skipped e) = Unit {0}
ShortPiece long blank = Unit {0}
ShortPiece long data_byte = Unit {0}

module _ (d : List ℕ) (long : ℕ) where
  declaration_short : (i : ℕ) → Gives (ShortPiece long) (declaration_piece d i)
  unfolding declaration_piece
  declaration_short i =
      let b = byte_at d (i + 2) in
      either (eqb b MDC) (λ x. reads tt)
      (λ x. either (at_dashes d (i + 2)) (λ y. on (each {P = λ (e : ℕ). Unit {0}} (malformed (comment_declaration d (i + 2))) (λ n k e. tt) (λ a e. tt)) (λ e r. reads tt))
      (λ y. either (letter b || eqb b DSO) (λ z. stops tt) (λ z. reads tt)))

  byte_short : (i : ℕ) → Gives (ShortPiece long) (byte_piece d i)
  unfolding byte_piece
  byte_short i =
      let b = byte_at d i in
      either (eqb b RS) (λ x. reads tt) (λ x. either (eqb b TAB || (eqb b RE || eqb b SPACE)) (λ y. reads tt) (λ y. reads tt))

module _ (long : ℕ) (d : List ℕ) where
  -- The byte before the end of what ends behind j.
  closed_there : (j : ℕ) → eqb (byte_at d j) MDC ≡ true → byte_at d (j + 1 - 1) ≡ MDC
  closed_there j y = let same : j + 1 - 1 ≡ j = omega arith in ap (byte_at d) same ∙ eqb-true (byte_at d j) MDC y

  tag_read : (i at : ℕ) → i < at → letter (byte_at d at) ≡ true → Holds (InPiece d) (TagRead d i) (tag long d at)
  unfolding tag
  tag_read i at h l =
      let e = name_end d at in
      let j = separators_end d e in
      let inside = letter_in d at l in
      let first = name_end_from d at in
      let after = separators_end_from d e in
      let end = separators_end_le d e (name_end_le d at (omega arith)) in
      either (ltb long (e - at)) (λ x. early d (omega arith))
      (λ x. either (eqb (byte_at d j) MDC)
      (λ y.
      reads (record { behind = h; some = omega (arith, name_end_more d at l); named = l; ends = omega arith; inside = omega (arith, test_in (λ v. eqb v MDC) refl d j y); closes = closed_there j y; given = none }))
      (λ y. early d (omega arith)))

  -- A start tag is read.

  literal_piece : (i : ℕ) → Holds (InPiece d) (λ (e : ℕ). (i < e) × (e < length d)) (literal_end d i)
  literal_piece i = so (literal_holds d i) (λ n k x. (inl (omega (arith, x), omega (arith, x)), omega (arith, x))) (λ e x. x)

  -- The literal ends at the closing quote.
  pub record SpecificationRead (i : ℕ) (w : Written) : Type 0 where
    pub at : w.at ≡ i
    pub some : 1 ≤ w.size
    pub parted : w.at + w.size < w.quote
    pub inside : w.quote + 1 + w.width < length d

  pub specification_read : (i : ℕ) → letter (byte_at d i) ≡ true → Holds (InPiece d) (SpecificationRead i) (specification long d i)
  unfolding specification
  specification_read i l =
      let e = name_end d i in
      let j = separators_end d e in
      let k = separators_end d (j + 1) in
      let inside = letter_in d i l in
      let more = name_end_more d i l in
      let le = name_end_le d i (omega arith) in
      let behind = separators_end_from d e in
      let within = separators_end_le d e le in
      let next = separators_end_from d (j + 1) in
      either (ltb long (e - i)) (λ x. early d (omega arith))
      (λ x. either (eqb (byte_at d j) VI)
      (λ y.
      let last = separators_end_le d (j + 1) (omega (arith, test_in (λ v. eqb v VI) refl d j y)) in
      either (quote (byte_at d k))
      (λ z. on (literal_piece k) (λ q r. reads (record { at = refl; some = omega arith; parted = omega arith; inside = omega (arith, r) })))
      (λ z. early d (omega arith)))
      (λ y. early d (omega arith)))

  -- What stands before the end of a tag stands before it where the tag goes on.
  written_further : (from to : ℕ) → from ≤ to → {ws : List Written} → All (WrittenIn d from) ws → All (WrittenIn d to) ws
  written_further from to h none = none
  written_further from to h (more {x = w} {xs = ws} p a) = more {x = w} (record { some = p.some; named = p.named; parted = p.parted; ends = omega (arith, p.ends) }) (written_further from to h {ws = ws} a)

  specifications_read : (i turns name e at : ℕ) (ws : List Written) → i < name → 1 ≤ e - name → letter (byte_at d name) ≡ true → e ≤ at → at ≤ length d → All (WrittenIn d (at + 1)) ws
      → Holds (InPiece d) (TagRead d i) (specifications long turns d name e at ws)
  unfolding specifications
  specifications_read i zero name e at ws h m l f g a = early d {n = 4} {k = length d} (omega arith)
  specifications_read i (suc turns) name e at ws h m l f g a =
      let j = separators_end d at in
      let from = separators_end_from d at in
      let le = separators_end_le d at g in
      either (eqb (byte_at d j) MDC)
      (λ x.
      let inside = test_in (λ v. eqb v MDC) refl d j x in
      reads (record { behind = h; some = m; named = l; ends = omega arith; inside = omega arith; closes = closed_there j x; given = written_further (at + 1) (j + 1) (omega arith) a }))
      (λ x. either (letter (byte_at d j))
      (λ y. on (specification_read j y) λ w r.
      let on_to = w.quote + 1 + w.width + 1 in
      let parted = r.parted in
      let begins = r.at in
      specifications_read i turns name e on_to (ws ++ w ∷ []) h m l (omega arith) (omega (arith, r.inside))
      (all_snoc (written_further (at + 1) (on_to + 1) (omega arith) a) (record { some = r.some; named = rw begins y; parted = parted; ends = omega arith })))
      (λ y. early d (omega arith)))

  start_read : (i at : ℕ) → i < at → letter (byte_at d at) ≡ true → Holds (InPiece d) (TagRead d i) (start_tag_at long d at)
  unfolding start_tag_at
  start_read i at h l =
      let e = name_end d at in
      let inside = letter_in d at l in
      let le = name_end_le d at (omega arith) in
      let more = name_end_more d at l in
      either (ltb long (e - at)) (λ x. early d (omega arith))
      (λ x. specifications_read i (suc (length d)) at e e [] h (omega arith) l (omega arith) le none)

  markup_read : (i : ℕ) → i < length d → Holds (InPiece d) (PieceRead d i) (markup_piece long d i)
  unfolding markup_piece
  markup_read i h =
      let b = byte_at d (i + 1) in
      either (letter b) (λ x. on (start_read i (i + 1) (omega arith) x) (λ t r. reads r))
      (λ x. either (eqb b SOLIDUS && letter (byte_at d (i + 2))) (λ y. on (tag_read i (i + 2) (omega arith) (and_right (eqb b SOLIDUS) (letter (byte_at d (i + 2))) y)) (λ t r. reads r))
      (λ y. either (eqb b EXCLAMATION) (λ z. declaration_read d i h) (λ z. either (eqb b OPT) (λ u. early d (omega arith)) (λ u. reads tt))))

  pub piece_read : (i : ℕ) → i < length d → Holds (InPiece d) (PieceRead d i) (piece long d i)
  unfolding piece
  piece_read i h =
      either (eqb (byte_at d i) STAGO) (λ x. markup_read i h)
      (λ x. either (eqb (byte_at d i) AND && is_reference d i) (λ y. early d (omega arith))
      (λ y. either (is_section_end d i) (λ z. stops (inr refl, omega arith)) (λ z. byte_read d i h)))

  -- A tag that is read has a name that is no longer than `long` bytes.
  tag_short : (at : ℕ) → Gives (λ (t : Tag). t.size ≤ long) (tag long d at)
  unfolding tag
  tag_short at =
      let e = name_end d at in
      let j = separators_end d e in
      either (ltb long (e - at)) (λ x. stops tt) (λ x. either (eqb (byte_at d j) MDC) (λ y. reads (ltb-false _ _ x)) (λ y. stops tt))

  specifications_short : (turns name e at : ℕ) (ws : List Written) → e - name ≤ long → Gives (λ (t : Tag). t.size ≤ long) (specifications long turns d name e at ws)
  unfolding specifications
  specifications_short zero name e at ws h = stops tt
  specifications_short (suc turns) name e at ws h =
      let j = separators_end d at in
      either (eqb (byte_at d j) MDC) (λ x. reads h)
      (λ x. either (letter (byte_at d j))
      (λ y. on (each {P = λ (w : Written). Unit {0}} (specification long d j) (λ n k e. tt) (λ w e. tt)) (λ w r. specifications_short turns name e (w.quote + 1 + w.width + 1) (ws ++ w ∷ []) h))
      (λ y. stops tt))

  start_short : (at : ℕ) → Gives (λ (t : Tag). t.size ≤ long) (start_tag_at long d at)
  unfolding start_tag_at
  start_short at = let e = name_end d at in either (ltb long (e - at)) (λ x. stops tt) (λ x. specifications_short (suc (length d)) at e e [] (ltb-false _ _ x))

  markup_short : (i : ℕ) → Gives (ShortPiece long) (markup_piece long d i)
  unfolding markup_piece
  markup_short i =
      let b = byte_at d (i + 1) in
      either (letter b) (λ x. on (start_short (i + 1)) (λ t r. reads r))
      (λ x. either (eqb b SOLIDUS && letter (byte_at d (i + 2))) (λ y. on (tag_short (i + 2)) (λ t r. reads r))
      (λ y. either (eqb b EXCLAMATION) (λ z. declaration_short d long i) (λ z. either (eqb b OPT) (λ u. stops tt) (λ u. reads tt))))

  pub piece_short : (i : ℕ) → Gives (ShortPiece long) (piece long d i)
  unfolding piece
  piece_short i =
      either (eqb (byte_at d i) STAGO) (λ x. markup_short i)
      (λ x. either (eqb (byte_at d i) AND && is_reference d i) (λ y. stops tt)
      (λ y. either (is_section_end d i) (λ z. stops tt) (λ z. byte_short d long i)))

-- A start tag among the pieces is the one that is read behind its `<`.
abbrev StartsAs : ℕ → List ℕ → (i : ℕ) → Piece → Type 0
StartsAs long d i (start_tag t) = start_tag_at long d (i + 1) ≡ got t
StartsAs long d i (end_tag t) = Unit {0}
StartsAs long d i (skipped after) = Unit {0}
StartsAs long d i blank = Unit {0}
StartsAs long d i data_byte = Unit {0}

module _ (long : ℕ) (d : List ℕ) (i : ℕ) where
  declaration_starts : Gives (StartsAs long d i) (declaration_piece d i)
  unfolding declaration_piece
  declaration_starts =
      let b = byte_at d (i + 2) in
      either (eqb b MDC) (λ x. reads tt)
      (λ x. either (at_dashes d (i + 2)) (λ y. on (each {P = λ (e : ℕ). Unit {0}} (malformed (comment_declaration d (i + 2))) (λ n k e. tt) (λ k e. tt)) (λ k u. reads tt))
      (λ y. either (letter b || eqb b DSO) (λ z. stops tt) (λ z. reads tt)))

  byte_starts : Gives (StartsAs long d i) (byte_piece d i)
  unfolding byte_piece
  byte_starts =
      let b = byte_at d i in
      either (eqb b RS) (λ x. reads tt) (λ x. either (eqb b TAB || (eqb b RE || eqb b SPACE)) (λ y. reads tt) (λ y. reads tt))

  markup_starts : Gives (StartsAs long d i) (markup_piece long d i)
  unfolding markup_piece
  markup_starts =
      let b = byte_at d (i + 1) in
      either (letter b) (λ x. on (each {P = λ (t : Tag). start_tag_at long d (i + 1) ≡ got t} (start_tag_at long d (i + 1)) (λ n k e. tt) (λ t e. e)) (λ t r. reads r))
      (λ x. either (eqb b SOLIDUS && letter (byte_at d (i + 2))) (λ y. on (each {P = λ (t : Tag). Unit {0}} (tag long d (i + 2)) (λ n k e. tt) (λ t e. tt)) (λ t r. reads tt))
      (λ y. either (eqb b EXCLAMATION) (λ z. declaration_starts) (λ z. either (eqb b OPT) (λ u. stops tt) (λ u. reads tt))))

  piece_starts : Gives (StartsAs long d i) (piece long d i)
  unfolding piece
  piece_starts =
      either (eqb (byte_at d i) STAGO) (λ x. markup_starts)
      (λ x. either (eqb (byte_at d i) AND && is_reference d i) (λ y. stops tt)
      (λ y. either (is_section_end d i) (λ z. stops tt) (λ z. byte_starts)))

  pub piece_start_tag : {t : Tag} → piece long d i ≡ got (start_tag t) → start_tag_at long d (i + 1) ≡ got t
  piece_start_tag e = got_so piece_starts e

-- The first byte of a piece

-- Which byte a piece at i begins with; a byte 10 that is skipped is one byte.
abbrev pub Begins : (d : List ℕ) (i : ℕ) → Piece → Type 0
Begins d i (start_tag t) = byte_at d i ≡ STAGO
Begins d i (end_tag t) = byte_at d i ≡ STAGO
Begins d i (skipped e) = ((byte_at d i ≡ RS) × (e ≡ i + 1)) ⊎ (byte_at d i ≡ STAGO)
Begins d i blank = Unit {0}
Begins d i data_byte = ¬ (byte_at d i ≡ RE)

module _ (long : ℕ) (d : List ℕ) (i : ℕ) where
  markup_begins : (p : Piece) → byte_at d i ≡ STAGO → Begins d i p
  markup_begins (start_tag t) e = e
  markup_begins (end_tag t) e = e
  markup_begins (skipped after) e = inr e
  markup_begins blank e = tt
  markup_begins data_byte e = λ f. omega arith

  or_not : (a b c : Bool) → (a || (b || c)) ≡ false → b ≡ false
  or_not true b c e = absurd (let z : ◌≡◌ {A = ℕ} 0 1 = cc in omega arith)
  or_not false true c e = absurd (let z : ◌≡◌ {A = ℕ} 0 1 = cc in omega arith)
  or_not false false c e = refl

  byte_begins : Gives (Begins d i) (byte_piece d i)
  unfolding byte_piece
  byte_begins =
      let b = byte_at d i in
      either (eqb b RS) (λ x. reads (inl (eqb-true b RS x, refl)))
      (λ x. either (eqb b TAB || (eqb b RE || eqb b SPACE)) (λ y. reads tt) (λ y. reads (eqb-false b RE (or_not (eqb b TAB) (eqb b RE) (eqb b SPACE) y))))

  pub piece_begins : Gives (Begins d i) (piece long d i)
  unfolding piece
  piece_begins =
      either (eqb (byte_at d i) STAGO) (λ x. each (markup_piece long d i) (λ n k e. tt) (λ p e. markup_begins p (eqb-true (byte_at d i) STAGO x)))
      (λ x. either (eqb (byte_at d i) AND && is_reference d i) (λ y. stops tt)
      (λ y. either (is_section_end d i) (λ z. stops tt) (λ z. byte_begins)))

-- A byte 13 is a piece by itself.
byte_blank : (d : List ℕ) (i b : ℕ) → byte_at d i ≡ b → byte_piece d i ≡ elim (eqb b RS) as (λ _. Reading Piece) [ true ↦ got (skipped (i + 1)) | false ↦ elim (eqb b TAB || (eqb b RE || eqb b SPACE)) as (λ _. Reading Piece) [ true ↦ got blank | false ↦ got data_byte ] ]
unfolding byte_piece
byte_blank d i b e = ap {B = Reading Piece} (λ (x : ℕ). elim (eqb x RS) as (λ _. Reading Piece) [ true ↦ got (skipped (i + 1)) | false ↦ elim (eqb x TAB || (eqb x RE || eqb x SPACE)) as (λ _. Reading Piece) [ true ↦ got blank | false ↦ got data_byte ] ]) e

pub piece_blank : (long : ℕ) (d : List ℕ) (i : ℕ) → byte_at d i ≡ RE → piece long d i ≡ got blank
unfolding piece
piece_blank long d i e =
    ap {B = Reading Piece} (λ (x : ℕ). elim (eqb x STAGO) as (λ _. Reading Piece) [
      | true ↦ markup_piece long d i
      | false ↦ elim (eqb x AND && is_reference d i) as (λ _. Reading Piece) [
        | true ↦ refused 5 i
        | false ↦ elim (eqb x DSC && (eqb (byte_at d (i + 1)) DSC && eqb (byte_at d (i + 2)) MDC)) as (λ _. Reading Piece) [ true ↦ refused 17 i | false ↦ byte_piece d i ]
      ]
    ]) e
    ∙ byte_blank d i RE e

-- The bound on the attributes of a start tag is never reached: any two that are enough give the same.
module _ (long : ℕ) (d : List ℕ) (name e : ℕ) where
  pub specifications_enough : (m n at : ℕ) (ws : List Written) → length d - at < m → length d - at < n → specifications long m d name e at ws ≡ specifications long n d name e at ws
  unfolding specifications
  specifications_enough zero n at ws i j = absurd (omega arith)
  specifications_enough (suc m) zero at ws i j = absurd (omega arith)
  specifications_enough (suc m) (suc n) at ws i j =
      let from = separators_end_from d at in
      by_byte (separators_end d at) (eqb (byte_at d (separators_end d at)) MDC) (letter (byte_at d (separators_end d at))) refl
      (λ w r. specifications_enough m n (w.quote + 1 + w.width + 1) (ws ++ w ∷ []) (omega (arith, from, r.at, r.parted, r.inside)) (omega (arith, from, r.at, r.parted, r.inside)))
    where
      by_byte : (k : ℕ) (x y : Bool) → letter (byte_at d k) ≡ y
          → ((w : Written) → SpecificationRead long d k w → specifications long m d name e (w.quote + 1 + w.width + 1) (ws ++ w ∷ []) ≡ specifications long n d name e (w.quote + 1 + w.width + 1) (ws ++ w ∷ []))
          → ◌≡◌ {A = Reading Tag} (elim x [ true ↦ got (record { name = name; size = e - name; after = k + 1; written = ws }) | false ↦ elim y [ true ↦ and_then (specification long d k) λ w. specifications long m d name e (w.quote + 1 + w.width + 1) (ws ++ w ∷ []) | false ↦ refused 4 k ] ])
          (elim x [ true ↦ got (record { name = name; size = e - name; after = k + 1; written = ws }) | false ↦ elim y [ true ↦ and_then (specification long d k) λ w. specifications long n d name e (w.quote + 1 + w.width + 1) (ws ++ w ∷ []) | false ↦ refused 4 k ] ])
      by_byte k true y l h = refl
      by_byte k false true l h = on_same (so (specification_read long d k l) (λ a b c. tt) (λ w r. r)) h
      by_byte k false false l h = refl
