-- A default by the tests that the code makes.
use Rattle.std.specs.Prelude.{ℕ, ◌+◌, ◌-◌, ◌≤◌, ◌<◌, ◌≡◌, refl, Bool, true, false, not, ◌||◌, List, length, eqb, leb}
use Rattle.std.proofs.Math.Path.{sym}
use Rattle.std.proofs.Common.{◌∙◌, ap, arith}
use Rattle.std.proofs.Math.Dec.{ltb}
use borrow.Author.Tests.{eq-eqb, ne_eqb, le-leb, lt-leb, ltb-true, ltb-false, not-true, not-false}
use Rattle.rules.specs.Bytes.{byte_at, letter, name_end, RNI}
use Rattle.rules.specs.Reading.{refused, got, and_then}
use Rattle.rules.specs.Attributes.{bytes_in, quote, literal_end, DeclaredValue, required, implied, literal, fits}
use Rattle.rules.specs.Given.{value_bytes}
use Rattle.rules.specs.TypeFile.{is_word, is_cut, REQUIRED, IMPLIED, unfit, default_word, default_literal, is_group, default_value}
use Rattle.text.specs.Words.{test_in}
use Rattle.attribute_values.specs.declared.DeclaredValue as code
use Rattle.attribute_values.specs.declared.DeclaredValue.TheVariants as values
use Rattle.attribute_values.specs.Parts as values_of
use Rattle.attribute_values.specs.Parts.{DeclaredAs, as_cdata, as_number, as_name, as_tokens}
use Rattle.attribute_defaults.specs.declared.DefaultValue.{DefaultValue}
use Rattle.attribute_defaults.specs.declared.DefaultValue.TheVariants.{Required, Implied, Literal}
use Rattle.attribute_defaults.specs.DefaultOf.{default_is, kind_of, number_of, width_of, Apart}

-- Words

module _ (s : List ℕ) (i : ℕ) where
  pub word_none : letter (byte_at s (i + 1)) ≡ false → default_word s i ≡ refused 4 (i + 1)
  unfolding default_word
  word_none l = rw (default_word, l)

  module _ (l : letter (byte_at s (i + 1)) ≡ true) (e : ℕ) (ends : e ≡ name_end s (i + 1)) {a : Bool} (is_required : a ≡ is_word s (i + 1) e REQUIRED) where
    pub word_required : a ≡ true → got (record { default = required; at = e }) ≡ default_word s i
    unfolding default_word
    word_required h = rw (default_word, l, ← ends, ← is_required, h, ends)

    module _ (other : a ≡ false) {b : Bool} (is_implied : b ≡ is_word s (i + 1) e IMPLIED) where
      pub word_implied : b ≡ true → got (record { default = implied; at = e }) ≡ default_word s i
      unfolding default_word
      word_implied h = rw (default_word, l, ← ends, ← is_required, other, ← ends, ← is_implied, h, ends)

      module _ (neither : b ≡ false) {p : Bool} (is_cut_lem : p ≡ is_cut s (i + 1) e REQUIRED) where
        pub word_cut : p ≡ true → refused 4 (length s) ≡ default_word s i
        unfolding default_word
        word_cut h = rw (default_word, l, ← ends, ← is_required, other, ← ends, ← is_implied, neither, ← ends, ← is_cut_lem, h)

        module _ (whole : p ≡ false) {q : Bool} (is_cut_too : q ≡ is_cut s (i + 1) e IMPLIED) where
          pub word_cut_too : q ≡ true → refused 4 (length s) ≡ default_word s i
          unfolding default_word
          word_cut_too h = rw (default_word, l, ← ends, ← is_required, other, ← ends, ← is_implied, neither, ← ends, ← is_cut_lem, whole, ← is_cut_too, h)

          pub word_wrong : q ≡ false → refused 4 i ≡ default_word s i
          unfolding default_word
          word_wrong h = rw (default_word, l, ← ends, ← is_required, other, ← ends, ← is_implied, neither, ← ends, ← is_cut_lem, whole, ← is_cut_too, h)

-- Literals

-- A value that begins behind two bytes is no word's number.
value_is : (x n : ℕ) → 2 ≤ x → default_is x n ≡ literal (record { at = x; size = n })
value_is x n h = rw (default_is, ne_eqb x 0 (λ e. omega arith), ne_eqb x 1 (λ e. omega arith))

-- So the numbers of a default stand for it.
pub kind_is : (v : DefaultValue) → Apart v → default_is (number_of v) (width_of v) ≡ kind_of v
kind_is Required h = refl
kind_is Implied h = refl
kind_is (Literal at n) h = value_is at n h

module _ (long : ℕ) (s : List ℕ) (y : DeclaredValue) (i : ℕ) where
  pub literal_refused : (a b : ℕ) → literal_end s i ≡ refused a b → default_literal long s y i ≡ refused a b
  unfolding default_literal
  literal_refused a b h = rw (default_literal, h)

  module _ (e : ℕ) (h : literal_end s i ≡ got e) (from : i < e) (inside : e < length s) (v : List ℕ) (given : v ≡ value_bytes s s false (record { at = i + 1; size = e - (i + 1) })) {b : Bool} (tried : b ≡ fits long s y v) where
    right : b ≡ fits long s y (bytes_in s (record { at = i + 1; size = e - (i + 1) }))
    right =
        let l : i + 1 + (e - (i + 1)) ≤ length s = omega arith in
        let w : value_bytes s s false (record { at = i + 1; size = e - (i + 1) }) ≡ bytes_in s (record { at = i + 1; size = e - (i + 1) }) = rw (value_bytes, le-leb _ _ l) in
        tried ∙ ap (fits long s y) (given ∙ w)

    pub literal_misfit : b ≡ false → refused 22 i ≡ default_literal long s y i
    unfolding default_literal
    literal_misfit q = rw (default_literal, h, and_then, sym right ∙ q)

    pub literal_fits : b ≡ true → got (record { default = literal (record { at = i + 1; size = e - (i + 1) }); at = e + 1 }) ≡ default_literal long s y i
    unfolding default_literal
    literal_fits q = rw (default_literal, h, and_then, sym right ∙ q)

-- A default

-- Nothing parts it from the declared value, which is no group.
abbrev pub is_joined : DeclaredValue → (from i : ℕ) → Bool
is_joined y from i = not (is_group y || ltb from i)

pub joined_group : {long : ℕ} {s : List ℕ} {x : ℕ} {y : DeclaredValue} (from i : ℕ) → 3 ≤ x → DeclaredAs long s x y → false ≡ is_joined y from i
joined_group from i h as_cdata = absurd (omega (arith, h))
joined_group from i h as_number = absurd (omega (arith, h))
joined_group from i h as_name = absurd (omega (arith, h))
joined_group from i h (as_tokens at ps g k) = refl

-- What is no group has a word's number.
pub word_small : (v : code.DeclaredValue) {x : ℕ} → values_of.number_of v ≡ x → ((at : ℕ) → v ≡ values.Group at → ⊥) → x < 3
word_small values.Cdata e n = omega (arith, e)
word_small values.Number e n = omega (arith, e)
word_small values.Name e n = omega (arith, e)
word_small (values.Group at) e n = absurd (n at refl)

pub joined_word : {long : ℕ} {s : List ℕ} {x : ℕ} {y : DeclaredValue} (from i : ℕ) → x < 3 → DeclaredAs long s x y → {r : Bool} → r ≡ not (ltb from i) → r ≡ is_joined y from i
joined_word from i h as_cdata e = e
joined_word from i h as_number e = e
joined_word from i h as_name e = e
joined_word from i h (as_tokens at ps g k) e = absurd (omega (arith, h, g))

pub not_less : (i from : ℕ) → leb i from ≡ not (ltb from i)
not_less i from = by_test (ltb from i) refl
  where
    by_test : (b : Bool) → ltb from i ≡ b → leb i from ≡ not b
    by_test true e = lt-leb i from (ltb-true from i e)
    by_test false e = le-leb i from (ltb-false from i e)

-- Which of these it is: `#` first, then a quote, and nothing else.
module _ (long : ℕ) (s : List ℕ) (y : DeclaredValue) (from i : ℕ) where
  module _ (h : byte_at s i ≡ RNI) where
    pub hash_joined : is_joined y from i ≡ true → refused 4 i ≡ default_value long s y from i
    unfolding default_value
    hash_joined j = rw (default_value, h, not-true (is_group y || ltb from i) j)

    pub hash_word : is_joined y from i ≡ false → default_word s i ≡ default_value long s y from i
    unfolding default_value
    hash_word j = rw (default_value, h, not-false (is_group y || ltb from i) j, h)

  module _ (n : byte_at s i ≡ RNI → ⊥) where
    pub quote_none : quote (byte_at s i) ≡ false → default_value long s y from i ≡ unfit s i
    unfolding default_value
    quote_none q = rw (default_value, ne_eqb _ _ n, q)

    pub quote_joined : quote (byte_at s i) ≡ true → is_joined y from i ≡ true → refused 4 i ≡ default_value long s y from i
    unfolding default_value
    quote_joined q j = rw (default_value, ne_eqb _ _ n, q, not-true (is_group y || ltb from i) j)

    pub quote_literal : quote (byte_at s i) ≡ true → is_joined y from i ≡ false → default_literal long s y i ≡ default_value long s y from i
    unfolding default_value
    quote_literal q j = rw (default_value, ne_eqb _ _ n, q, not-false (is_group y || ltb from i) j, ne_eqb _ _ n)

-- A `#` or a quote stands in the text.
pub hash_in : (s : List ℕ) (i : ℕ) → byte_at s i ≡ RNI → i < length s
hash_in s i h = test_in (λ b. eqb b RNI) refl s i (eq-eqb _ _ h)

pub quote_in : (s : List ℕ) (i : ℕ) → quote (byte_at s i) ≡ true → i < length s
quote_in s i q = test_in quote refl s i q
