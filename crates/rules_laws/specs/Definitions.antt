-- Attribute definition lists, walked once: what is known of an attribute that was read is `Defines`, and each law of a list that was read is an
-- invariant of its attributes, or goes by `Defines`.
use Prim.Native.Nat.{ℕ, zero, suc, ◌+◌, ◌-◌, ◌≤◌, ◌<◌}
use Rattle.std.proofs.Math.Path.{◌≡◌, refl}
use Rattle.std.proofs.Common.{◌∙◌, ap, inl, inr}
use Rattle.std.proofs.Math.Bool.{true, false}
use Rattle.std.specs.Prelude.{◌&&◌, ◌||◌, ◌⊎◌, drop, Bool}
use mathlib.Core.List.{List, [], ◌∷◌, ◌++◌}
use native.Mathlib.Omega.{arith}
use Rattle.std.proofs.Math.ListN.{length, length-append}
use Rattle.std.proofs.Math.Dec.{eqb, leb, ltb}
use borrow.Author.Tests.{ltb-true, ltb-false, leb-true, leb-false}
use Rattle.basic_laws.specs.Truth.{and_right}
use Rattle.rules.specs.Bytes.{byte_at, letter, name_end, separators_end, GRPCNT, ATTCNT, DSO, GRPC, GRPO, MDC, PERO, RNI}
use Rattle.rules.specs.Reading.{Reading, refused, got}
use Rattle.rules.specs.Attributes.{Part, bytes_in, quote, in_literal, literal_end, DeclaredValue, cdata, number, name, tokens, Default, required, implied, literal, Attribute, attribute_of, fits}
use Rattle.rules.specs.TypeFile.{gap, is_word, is_cut, CDATA, NUMBER, NAME, REQUIRED, IMPLIED, unfit, is_token, group_token, TokensEnd, is_token_connector, group_tokens, token_group, tokens_of, attribute_name, ValueEnd, value_word, declared_value, DefaultEnd, default_word, default_literal, is_group, default_value, Definition, definition, ListEnd, definitions, list_from}
use Rattle.text.specs.Words.{test_in, letter_in, name_end_from, name_end_le, name_end_more, separators_end_from, separators_end_le}
use Rattle.rules_laws.specs.Holds.{Holds, stops, reads, known, so, on, either}
use Rattle.rules_laws.specs.In.{All, none, all_snoc, NameIn}
use Rattle.rules_laws.specs.Groups.{InType, unfit_holds}
use Rattle.rules_laws.specs.Gaps.{gap_within_lem}
use Rattle.rules.specs.Reading.{and_then}
use Rattle.rules_laws.specs.Holds.{Gives, each, on_same}

-- A refusal of a type file is one of 3 to 8, 10, 20 and 22, and stands in it.
abbrev pub IsFileNumber : ℕ → Type 0
IsFileNumber n = ((3 ≤ n) × (n ≤ 8)) ⊎ ((n ≡ 10) ⊎ ((n ≡ 20) ⊎ (n ≡ 22)))

abbrev pub InFile : List ℕ → (number position : ℕ) → Type 0
InFile s n k = IsFileNumber n × (k ≤ length s)

-- What is refused outside lists is refused so in the file.
pub in_file : (s : List ℕ) {n k : ℕ} → InType s n k → InFile s n k
in_file s (a, b, h) = (inl (a, b), h)

pub at_file : {A : Type 0} {P : A → Type 0} (s : List ℕ) {r : Reading A} → Holds (InType s) P r → Holds (InFile s) P r
at_file s h = so h (λ n k x. in_file s x) (λ a x. x)

pub early : {A : Type 0} {P : A → Type 0} (s : List ℕ) {n k : ℕ} → (3 ≤ n) × (n ≤ 8) × (k ≤ length s) → Holds (InFile s) P (refused n k)
early s h = stops (in_file s h)

pub undeclared : {A : Type 0} {P : A → Type 0} (s : List ℕ) {k : ℕ} → k ≤ length s → Holds (InFile s) P (refused 10 k)
undeclared s h = stops (inr (inl refl), h)

pub twice : {A : Type 0} {P : A → Type 0} (s : List ℕ) {k : ℕ} → k ≤ length s → Holds (InFile s) P (refused 20 k)
twice s h = stops (inr (inr (inl refl)), h)

misfit : {A : Type 0} {P : A → Type 0} (s : List ℕ) {k : ℕ} → k ≤ length s → Holds (InFile s) P (refused 22 k)
misfit s h = stops (inr (inr (inr refl)), h)

-- A part of the text, of which there is some.
pub record PartIn (s : List ℕ) (p : Part) : Type 0 where
  pub some : 1 ≤ p.size
  pub ends : p.at + p.size ≤ length s

-- The group at `at` was read with these tokens, behind some others of its list.
pub record GroupRead (long : ℕ) (s : List ℕ) (at : ℕ) (ps : List Part) : Type 0 where
  pub seen : List Part
  pub after : ℕ
  pub read : token_group long s seen at ≡ got (record { tokens = ps; at = after })
  pub begins : at < length s
  pub few : length ps ≤ GRPCNT
  pub parts : All (PartIn s) ps

abbrev pub ValueIn : ℕ → List ℕ → DeclaredValue → Type 0
ValueIn long s cdata = Unit {0}
ValueIn long s number = Unit {0}
ValueIn long s name = Unit {0}
ValueIn long s (tokens at ps) = GroupRead long s at ps

-- A default's value stands between its quotes and fits.
pub record LiteralIn (long : ℕ) (s : List ℕ) (x : DeclaredValue) (p : Part) : Type 0 where
  pub behind : 2 ≤ p.at
  pub ends : p.at + p.size < length s
  pub right : fits long s x (bytes_in s p) ≡ true

abbrev pub DefaultIn : ℕ → List ℕ → DeclaredValue → Default → Type 0
DefaultIn long s x required = Unit {0}
DefaultIn long s x implied = Unit {0}
DefaultIn long s x (literal p) = LiteralIn long s x p

-- How the definition of a was read behind the attributes xs of its list.
pub record Defines (long : ℕ) (s : List ℕ) (xs : List Attribute) (a : Attribute) : Type 0 where
  pub from : ℕ
  pub after : ℕ
  pub read : definition long s xs from a.at ≡ got (record { attribute = a; at = after })
  pub name : NameIn s a.at a.size
  pub short : a.size ≤ long
  pub named : letter (byte_at s a.at) ≡ true
  pub fresh : attribute_of s xs s a.at a.size ≡ 0
  pub room : length xs < ATTCNT
  pub value : ValueIn long s a.value
  pub default : DefaultIn long s a.value a.default

-- The attributes were read as a list whose element's name ends at `from`.
pub record ListRead (long : ℕ) (s : List ℕ) (xs : List Attribute) : Type 0 where
  pub from : ℕ
  pub after : ℕ
  pub inside : from ≤ length s
  pub read : list_from long s from ≡ got (record { attributes = xs; at = after })

-- Literals are read.

pub literal_holds : (s : List ℕ) (i : ℕ) → Holds (λ n k. (4 ≤ n) × (n ≤ 5) × (k ≤ length s)) (λ (e : ℕ). (i < e) × (e < length s)) (literal_end s i)
unfolding literal_end
literal_holds s i =
    let q = byte_at s i in
    let e = i + 1 + in_literal q (drop (i + 1) s) in
    either (ltb e (length s))
    (λ x. either (eqb (byte_at s e) q) (λ y. reads (omega arith, ltb-true _ _ x)) (λ y. stops {n = 5} {k = e} (omega (arith, ltb-true e (length s) x))))
    (λ x. stops (omega arith))

literal_in : (s : List ℕ) (i : ℕ) → Holds (InFile s) (λ (e : ℕ). (i < e) × (e < length s)) (literal_end s i)
literal_in s i = so (literal_holds s i) (λ n k x. in_file s (omega (arith, x))) (λ e x. x)

module _ (long : ℕ) (s : List ℕ) where
  -- Name token groups are read.

  record TokenRead (seen ps : List Part) (i : ℕ) (p : Part) : Type 0 where
    at : p.at ≡ i
    part : PartIn s p
    few : length ps < GRPCNT

  token_read : (seen ps : List Part) (i : ℕ) → i ≤ length s → Holds (InFile s) (TokenRead seen ps i) (group_token long s seen ps i)
  unfolding group_token
  token_read seen ps i h =
      let e = name_end s i in
      let l = name_end_le s i h in
      either (ltb i e)
      (λ x. either (ltb long (e - i)) (λ y. early s (omega arith))
      (λ y. either (leb GRPCNT (length ps)) (λ z. early s (omega arith))
      (λ z. either (is_token s (seen ++ ps) i (e - i)) (λ u. twice s h)
      (λ u. reads (record { at = refl; part = record { some = omega (arith, ltb-true i e x); ends = omega (arith, ltb-true i e x) }; few = leb-false _ _ z })))))
      (λ x. either (eqb (byte_at s i) DSO || eqb (byte_at s i) PERO) (λ y. early s (omega arith)) (λ y. early s (omega arith)))

  record TokensRead (at : ℕ) (t : TokensEnd) : Type 0 where
    from : at < t.at
    inside : t.at ≤ length s
    few : length t.tokens ≤ GRPCNT
    parts : All (PartIn s) t.tokens

  tokens_read : (seen : List Part) (left connector : ℕ) (ps : List Part) (at : ℕ) → at ≤ length s → All (PartIn s) ps → Holds (InFile s) (TokensRead at) (group_tokens long s seen left connector ps at)
  unfolding group_tokens
  tokens_read seen zero connector ps at h a = early s {n = 6} {k = at} (omega arith)
  tokens_read seen (suc left) connector ps at h a =
      let k = separators_end s at in
      on (token_read seen ps k (separators_end_le s at h)) λ p r.
      let i = separators_end s (p.at + p.size) in
      let b = byte_at s i in
      let le = separators_end_le s (p.at + p.size) r.part.ends in
      let from = separators_end_from s (p.at + p.size) in
      let before = separators_end_from s at in
      let start = r.at in
      either (eqb b GRPC)
      (λ x.
      let inside = test_in (λ v. eqb v GRPC) refl s i x in
      reads (record { from = omega arith; inside = omega arith; few = omega (arith, length-append ps (p ∷ []), r.few); parts = all_snoc a r.part }))
      (λ x. either (eqb b PERO) (λ y. early s (omega arith))
      (λ y. either (is_token_connector b && (eqb connector 0 || eqb connector b))
      (λ z.
      let inside = test_in (λ v. is_token_connector v && (eqb connector 0 || eqb connector v)) refl s i z in
      so (tokens_read seen left b (ps ++ p ∷ []) (i + 1) (omega arith) (all_snoc a r.part)) (λ n k x. x)
      (λ t w. record { from = omega (arith, w.from); inside = w.inside; few = w.few; parts = w.parts }))
      (λ z. early s (omega arith))))

  group_read : (seen : List Part) (at : ℕ) → at < length s → Holds (InFile s) (λ (t : TokensEnd). (at < t.at) × (t.at ≤ length s) × GroupRead long s at t.tokens) (token_group long s seen at)
  unfolding token_group
  group_read seen at h =
      so (known (tokens_read seen (suc GRPCNT) 0 [] (at + 1) (omega arith) none)) (λ n k x. x)
      (λ t w. (omega (arith, w.1.from), w.1.inside, record { seen = seen; after = t.at; read = w.0; begins = h; few = w.1.few; parts = w.1.parts }))

  -- Names, declared values and defaults are read.

  record NameRead (xs : List Attribute) (i e : ℕ) : Type 0 where
    name : NameIn s i (e - i)
    short : e - i ≤ long
    fresh : attribute_of s xs s i (e - i) ≡ 0
    room : length xs < ATTCNT
    from : i < e
    inside : e ≤ length s

  name_read : (xs : List Attribute) (from i : ℕ) → letter (byte_at s i) ≡ true → Holds (InFile s) (NameRead xs i) (attribute_name long s xs from i)
  unfolding attribute_name
  name_read xs from i l =
      let e = name_end s i in
      let h = letter_in s i l in
      let le = name_end_le s i (omega arith) in
      let some = name_end_more s i l in
      either (ltb long (e - i)) (λ x. early s (omega arith))
      (λ x. either (ltb from i)
      (λ y. either (leb 1 (attribute_of s xs s i (e - i))) (λ z. early s (omega arith))
      (λ z. either (leb ATTCNT (length xs)) (λ u. twice s (omega arith))
      (λ u.
      reads (record { name = record { some = omega arith; ends = omega arith }; short = ltb-false _ _ x; fresh = omega (arith, leb-false 1 (attribute_of s xs s i (e - i)) z); room = leb-false _ _ u; from = some; inside = le }))))
      (λ y. early s (omega arith)))

  record ValueRead (i : ℕ) (v : ValueEnd) : Type 0 where
    value : ValueIn long s v.value
    from : i < v.at
    inside : v.at ≤ length s

  word_read : (i : ℕ) → letter (byte_at s i) ≡ true → Holds (InFile s) (ValueRead i) (value_word long s i)
  unfolding value_word
  word_read i l =
      let e = name_end s i in
      let h = letter_in s i l in
      let le = name_end_le s i (omega arith) in
      let some = name_end_more s i l in
      either (ltb long (e - i)) (λ x. early s (omega arith))
      (λ x. either (is_word s i e CDATA) (λ y. reads (record { value = tt; from = some; inside = le }))
      (λ y. either (is_word s i e NUMBER) (λ z. reads (record { value = tt; from = some; inside = le }))
      (λ z. either (is_word s i e NAME) (λ u. reads (record { value = tt; from = some; inside = le }))
      (λ u. either (is_cut s i e CDATA || (is_cut s i e NUMBER || is_cut s i e NAME)) (λ v. early s (omega arith)) (λ v. early s (omega arith))))))

  unfit_read : {A : Type 0} {P : A → Type 0} (i : ℕ) → i ≤ length s → Holds (InFile s) P (unfit s i)
  unfit_read i h = unfit_holds s i (λ n k r. in_file s (r h))

  value_read : (seen : List Part) (i : ℕ) → i ≤ length s → Holds (InFile s) (ValueRead i) (declared_value long s seen i)
  unfolding declared_value
  value_read seen i h =
      either (eqb (byte_at s i) GRPO)
      (λ x. on (group_read seen i (test_in (λ v. eqb v GRPO) refl s i x)) (λ t w. reads (record { value = w.2; from = w.0; inside = w.1 })))
      (λ x. either (letter (byte_at s i)) (λ y. word_read i y) (λ y. unfit_read i h))

  record DefaultRead (x : DeclaredValue) (i : ℕ) (f : DefaultEnd) : Type 0 where
    default : DefaultIn long s x f.default
    from : i < f.at
    inside : f.at ≤ length s

  default_word_read : (x : DeclaredValue) (i : ℕ) → i < length s → Holds (InFile s) (DefaultRead x i) (default_word s i)
  unfolding default_word
  default_word_read x i h =
      let e = name_end s (i + 1) in
      let le = name_end_le s (i + 1) (omega arith) in
      let from = name_end_from s (i + 1) in
      either (letter (byte_at s (i + 1)))
      (λ l. either (is_word s (i + 1) e REQUIRED) (λ y. reads (record { default = tt; from = omega arith; inside = le }))
      (λ y. either (is_word s (i + 1) e IMPLIED) (λ z. reads (record { default = tt; from = omega arith; inside = le }))
      (λ z. either (is_cut s (i + 1) e REQUIRED || is_cut s (i + 1) e IMPLIED) (λ u. early s (omega arith)) (λ u. early s (omega arith)))))
      (λ l. early s (omega arith))

  default_literal_read : (x : DeclaredValue) (i : ℕ) → 1 ≤ i → i ≤ length s → Holds (InFile s) (DefaultRead x i) (default_literal long s x i)
  unfolding default_literal
  default_literal_read x i m h =
      on (literal_in s i) λ e r.
      let p : Part = record { at = i + 1; size = e - (i + 1) } in
      either (fits long s x (bytes_in s p))
      (λ y. reads (record { default = record { behind = omega arith; ends = omega (arith, r); right = y }; from = omega (arith, r); inside = omega (arith, r) }))
      (λ y. misfit s h)

  default_read : (x : DeclaredValue) (from i : ℕ) → 1 ≤ i → i ≤ length s → Holds (InFile s) (DefaultRead x i) (default_value long s x from i)
  unfolding default_value
  default_read x from i m h =
      let b = byte_at s i in
      either (eqb b RNI || quote b)
      (λ y. either (is_group x || ltb from i)
      (λ z. either (eqb b RNI) (λ u. default_word_read x i (test_in (λ v. eqb v RNI) refl s i u)) (λ u. default_literal_read x i m h))
      (λ z. early s (omega arith)))
      (λ y. unfit_read i h)

  -- Definitions are read one after the other.

  record DefinitionRead (xs : List Attribute) (i : ℕ) (d : Definition) : Type 0 where
    at : d.attribute.at ≡ i
    name : NameIn s d.attribute.at d.attribute.size
    short : d.attribute.size ≤ long
    fresh : attribute_of s xs s d.attribute.at d.attribute.size ≡ 0
    room : length xs < ATTCNT
    value : ValueIn long s d.attribute.value
    default : DefaultIn long s d.attribute.value d.attribute.default
    from : i < d.at
    inside : d.at ≤ length s

  definition_parts : (xs : List Attribute) (from i : ℕ) → letter (byte_at s i) ≡ true → Holds (InFile s) (DefinitionRead xs i) (definition long s xs from i)
  unfolding definition
  definition_parts xs from i l =
      on (name_read xs from i l) λ e n.
      on (at_file s (gap_within_lem s e n.inside)) λ j p.
      on (value_read (tokens_of xs) j p.1) λ v w.
      on (at_file s (gap_within_lem s v.at w.inside)) λ k q.
      on (default_read v.value v.at k (omega (arith, n.from, p, w.from, q)) q.1) λ f r.
      reads
      (record {
        at = refl;
        name = n.name;
        short = n.short;
        fresh = n.fresh;
        room = n.room;
        value = w.value;
        default = r.default;
        from = omega (arith, n.from, p, w.from, q, r.from);
        inside = r.inside;
      })

  definition_read : (xs : List Attribute) (from i : ℕ) → letter (byte_at s i) ≡ true → Holds (InFile s) (λ (d : Definition). (i < d.at) × (d.at ≤ length s) × Defines long s xs d.attribute) (definition long s xs from i)
  definition_read xs from i l =
      so (known (definition_parts xs from i l)) (λ n k x. x) λ d x.
      let (e, r) = x in (
        r.from,
        r.inside,
        record {
          from = from;
          after = d.at;
          read = ap (definition long s xs from) r.at ∙ e;
          name = r.name;
          short = r.short;
          named = rw r.at l;
          fresh = r.fresh;
          room = r.room;
          value = r.value;
          default = r.default;
        },
      )

  -- What holds of no attribute, and with a further one, holds of what is read.
  module _ (I : List Attribute → Type 0) (further : (xs : List Attribute) (a : Attribute) → I xs → Defines long s xs a → I (xs ++ a ∷ [])) where
    pub record EndRead (at : ℕ) (l : ListEnd) : Type 0 where
      pub some : 1 ≤ length l.attributes
      pub from : at < l.at
      pub inside : l.at ≤ length s
      pub each : I l.attributes

    definitions_hold : (left : ℕ) (xs : List Attribute) (from : ℕ) → from ≤ length s → I xs → Holds (InFile s) (EndRead from) (definitions long s left xs from)
    unfolding definitions
    definitions_hold zero xs from h x = twice s {k = from} h
    definitions_hold (suc left) xs from h x =
        on (at_file s (gap_within_lem s from h)) λ i p.
        either (eqb (byte_at s i) MDC && leb 1 (length xs))
        (λ y.
        let inside = test_in (λ v. eqb v MDC && leb 1 (length xs)) refl s i y in
        reads (record { some = leb-true 1 (length xs) (and_right (eqb (byte_at s i) MDC) (leb 1 (length xs)) y); from = omega (arith, p); inside = omega arith; each = x }))
        (λ y. either (letter (byte_at s i))
        (λ l. on (definition_read xs from i l) λ d r.
        so (definitions_hold left (xs ++ d.attribute ∷ []) d.at r.1 (further xs d.attribute x r.2)) (λ n k z. z)
        (λ e w. record { some = w.some; from = omega (arith, p, r.0, w.from); inside = w.inside; each = w.each }))
        (λ l. unfit_read i p.1))

    pub list_holds : (from : ℕ) → from ≤ length s → I [] → Holds (InFile s) (EndRead from) (list_from long s from)
    unfolding list_from
    list_holds from h x = definitions_hold (suc ATTCNT) [] from h x

  -- Bounds that are never reached: any two that are enough give the same

  -- A token is read where the group has room for it.
  token_room : (seen ps : List Part) (i : ℕ) → Gives (λ (p : Part). length ps < GRPCNT) (group_token long s seen ps i)
  unfolding group_token
  token_room seen ps i =
      let e = name_end s i in
      either (ltb i e)
      (λ x. either (ltb long (e - i)) (λ y. stops tt) (λ y. either (leb GRPCNT (length ps)) (λ z. stops tt) (λ z. either (is_token s (seen ++ ps) i (e - i)) (λ u. stops tt) (λ u. reads (leb-false _ _ z)))))
      (λ x. either (eqb (byte_at s i) DSO || eqb (byte_at s i) PERO) (λ y. stops tt) (λ y. stops tt))

  pub group_tokens_enough : (seen : List Part) (m n connector : ℕ) (ps : List Part) (at : ℕ) → length ps ≤ GRPCNT → GRPCNT < m + length ps → GRPCNT < n + length ps → group_tokens long s seen m connector ps at ≡ group_tokens long s seen n connector ps at
  unfolding group_tokens
  group_tokens_enough seen zero n connector ps at h i j = absurd (omega arith)
  group_tokens_enough seen (suc m) zero connector ps at h i j = absurd (omega arith)
  group_tokens_enough seen (suc m) (suc n) connector ps at h i j =
      on_same (token_room seen ps (separators_end s at)) λ p r.
      let k = separators_end s (p.at + p.size) in
      let b = byte_at s k in
      let more = length-append ps (p ∷ []) in
      by_byte p (eqb b GRPC) (eqb b PERO) (is_token_connector b && (eqb connector 0 || eqb connector b)) (group_tokens_enough seen m n b (ps ++ p ∷ []) (k + 1) (omega (arith, more)) (omega (arith, more)) (omega (arith, more)))
    where
      by_byte : (p : Part) (x y z : Bool) {r q : Reading TokensEnd} → r ≡ q
          → ◌≡◌ {A = Reading TokensEnd} (elim x [ true ↦ got (record { tokens = ps ++ p ∷ []; at = separators_end s (p.at + p.size) + 1 }) | false ↦ elim y [ true ↦ refused 5 (separators_end s (p.at + p.size)) | false ↦ elim z [ true ↦ r | false ↦ refused 4 (separators_end s (p.at + p.size)) ] ] ])
          (elim x [ true ↦ got (record { tokens = ps ++ p ∷ []; at = separators_end s (p.at + p.size) + 1 }) | false ↦ elim y [ true ↦ refused 5 (separators_end s (p.at + p.size)) | false ↦ elim z [ true ↦ q | false ↦ refused 4 (separators_end s (p.at + p.size)) ] ] ])
      by_byte p true y z e = refl
      by_byte p false true z e = refl
      by_byte p false false true e = e
      by_byte p false false false e = refl

  pub definitions_enough : (m n : ℕ) (xs : List Attribute) (from : ℕ) → length xs ≤ ATTCNT → ATTCNT < m + length xs → ATTCNT < n + length xs → definitions long s m xs from ≡ definitions long s n xs from
  unfolding definitions
  definitions_enough zero n xs from h i j = absurd (omega arith)
  definitions_enough (suc m) zero xs from h i j = absurd (omega arith)
  definitions_enough (suc m) (suc n) xs from h i j =
      on_same (each {P = λ (k : ℕ). Unit {0}} (gap s from) (λ a b e. tt) (λ a e. tt)) λ k u.
      by_byte k (eqb (byte_at s k) MDC && leb 1 (length xs)) (letter (byte_at s k)) refl
      (λ d r. let more = length-append xs (d.attribute ∷ []) in definitions_enough m n (xs ++ d.attribute ∷ []) d.at (omega (arith, more)) (omega (arith, more)) (omega (arith, more)))
    where
      by_byte : (k : ℕ) (x y : Bool) → letter (byte_at s k) ≡ y → ((d : Definition) → length xs < ATTCNT → definitions long s m (xs ++ d.attribute ∷ []) d.at ≡ definitions long s n (xs ++ d.attribute ∷ []) d.at)
          → ◌≡◌ {A = Reading ListEnd} (elim x [ true ↦ got (record { attributes = xs; at = k + 1 }) | false ↦ elim y [ true ↦ and_then (definition long s xs from k) λ d. definitions long s m (xs ++ d.attribute ∷ []) d.at | false ↦ unfit s k ] ])
          (elim x [ true ↦ got (record { attributes = xs; at = k + 1 }) | false ↦ elim y [ true ↦ and_then (definition long s xs from k) λ d. definitions long s n (xs ++ d.attribute ∷ []) d.at | false ↦ unfit s k ] ])
      by_byte k true y l e = refl
      by_byte k false true l e = on_same (so (definition_read xs from k l) (λ a b c. tt) (λ d r. r.2.room)) e
      by_byte k false false l e = refl
