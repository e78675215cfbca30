-- The numbers of attributes: of one by its row, of a list, and of all elements.
use Rattle.std.specs.Prelude.{ℕ, zero, suc, ◌+◌, ◌*◌, ◌≤◌, ◌<◌, ◌≡◌, refl, take}
use Rattle.std.proofs.Common.{sym, ap, subst, length-append, lt-ltb, le-ltb}
use mathlib.Core.List.{List, [], ◌∷◌, ◌++◌, append_assoc, append-nil}
use Rattle.std.proofs.Math.Decide.{dec_lt}
use native.Mathlib.Omega.{arith}
use Rattle.std.proofs.Math.Numerals.{add-one}
use Rattle.std.proofs.Math.ListN.{length}
use Rattle.std.proofs.Math.Seq.{length-take-le}
use Rattle.rules.specs.Attributes.{DeclaredValue, cdata, number, name, tokens, Default, required, implied, literal, Attribute, attribute_at}
use Rattle.rules.specs.TypeFile.{Element}
use Rattle.rules.specs.Elements.{element_at}
use Rattle.rules.specs.Listing.{value_numbers, default_numbers, attribute_numbers, attribute_width, list_numbers, attribute_count}
use Rattle.attribute_values.specs.Parts.{DeclaredAs, as_cdata, as_number, as_name, as_tokens}
use Rattle.attribute_defaults.specs.DefaultOf.{default_is}
use Rattle.list_table.specs.declared.Row.{Row}
use Rattle.list_table.specs.Lists.{RowOf}
use Rattle.attribute_records.specs.Recorded.{kind_of, detail_of, row_numbers}
use Rattle.attribute_defaults.specs.declared.DefaultValue.TheVariants.{Literal}
use Rattle.attribute_defaults.specs.Ways.{kind_is}

-- A kind and what goes with it, by the test that the code makes.
module _ (m x : ℕ) where
  pub kind_below : x < m → x ≡ kind_of m x
  kind_below h = rw (kind_of, lt-ltb x m h)

  pub kind_last : m ≤ x → m ≡ kind_of m x
  kind_last h = rw (kind_of, le-ltb x m h)

  pub detail_below : (y : ℕ) → x < m → 0 ≡ detail_of m x y
  detail_below y h = rw (detail_of, lt-ltb x m h)

  pub detail_last : (y : ℕ) → m ≤ x → y ≡ detail_of m x y
  detail_last y h = rw (detail_of, le-ltb x m h)

-- One attribute

value_numbers_lem : {long : ℕ} {s : List ℕ} {v : ℕ} {x : DeclaredValue} → DeclaredAs long s v x → value_numbers x ≡ kind_of 3 v ∷ detail_of 3 v v ∷ []
value_numbers_lem as_cdata = refl
value_numbers_lem as_number = refl
value_numbers_lem as_name = refl
value_numbers_lem (as_tokens at ps h g) = rw (← kind_last 3 at h, ← detail_last 3 at at h)

default_numbers_lem : (d n : ℕ) → default_numbers (default_is d n) ≡ kind_of 2 d ∷ detail_of 2 d d ∷ detail_of 2 d n ∷ []
default_numbers_lem d n = go (dec_lt d 2)
  where
    low : (d : ℕ) → d < 2 → default_numbers (default_is d n) ≡ kind_of 2 d ∷ detail_of 2 d d ∷ detail_of 2 d n ∷ []
    low zero h = refl
    low (suc zero) h = refl
    low (suc (suc d)) h = absurd (omega arith)

    go : Dec (d < 2) → default_numbers (default_is d n) ≡ kind_of 2 d ∷ detail_of 2 d d ∷ detail_of 2 d n ∷ []
    go (yes h) = low d h
    go (no h) =
        let k : 2 ≤ d = omega arith in
        rw (kind_is (Literal d n) k, ← kind_last 2 d k, ← detail_last 2 d d k, ← detail_last 2 d n k)

pub value_length : (x : DeclaredValue) → length (value_numbers x) ≡ 2
value_length cdata = refl
value_length number = refl
value_length name = refl
value_length (tokens at ps) = refl

pub default_length : (x : Default) → length (default_numbers x) ≡ 3
default_length required = refl
default_length implied = refl
default_length (literal p) = refl

-- The row of an attribute has its numbers.
row_is : (long : ℕ) (s : List ℕ) (e a : ℕ) (r : Row) (x : Attribute) → RowOf long s r x → row_numbers e a r ≡ attribute_numbers e a (x ∷ [])
unfolding attribute_numbers
row_is long s e a r x o =
    rw (← o.name, ← o.size, value_numbers_lem o.value, ← o.default, default_numbers_lem r.default r.width)

-- A list

numbers_append : (k a : ℕ) (xs ys : List Attribute) → attribute_numbers k a (xs ++ ys) ≡ attribute_numbers k a xs ++ attribute_numbers k (a + length xs) ys
unfolding attribute_numbers
numbers_append k a [] ys = let z : a + 0 ≡ a = omega arith in rw z
numbers_append k a (x ∷ xs) ys =
    let z : a + 1 + length xs ≡ a + suc (length xs) = omega arith in
    let more : attribute_numbers k (a + 1) (xs ++ ys) ≡ attribute_numbers k (a + 1) xs ++ attribute_numbers k (a + suc (length xs)) ys = subst (λ (n : ℕ). attribute_numbers k (a + 1) (xs ++ ys) ≡ attribute_numbers k (a + 1) xs ++ attribute_numbers k n ys) z (numbers_append k (a + 1) xs ys) in
    rw (more, append_assoc (value_numbers x.value), append_assoc (default_numbers x.default))

pub numbers_length : (k a : ℕ) (xs : List Attribute) → length (attribute_numbers k a xs) ≡ attribute_width * length xs
unfolding attribute_numbers
numbers_length k a [] = refl
numbers_length k a (x ∷ xs) =
    let rest = attribute_numbers k (a + 1) xs in
    omega (arith, length-append (value_numbers x.value) (default_numbers x.default ++ rest), length-append (default_numbers x.default) rest, value_length x.value, default_length x.default, numbers_length k (a + 1) xs)

take_attribute : (xs : List Attribute) (k : ℕ) → k < length xs → take (suc k) xs ≡ take k xs ++ attribute_at xs k ∷ []
unfolding attribute_at
take_attribute [] k h = absurd (omega arith)
take_attribute (x ∷ xs) zero h = refl
take_attribute (x ∷ xs) (suc k) h = ap (λ (l : List Attribute). x ∷ l) (take_attribute xs k (omega arith))

-- One attribute more, whose row this is.
pub numbers_more : (long : ℕ) (s : List ℕ) (e k : ℕ) (r : Row) (xs : List Attribute) → k < length xs → RowOf long s r (attribute_at xs k) → attribute_numbers e 1 (take (k + 1) xs) ≡ attribute_numbers e 1 (take k xs) ++ row_numbers e (k + 1) r
numbers_more long s e k r xs h o =
    let n : 1 + length (take k xs) ≡ k + 1 = omega (arith, length-take-le k xs (omega arith)) in
    rw (add-one k, take_attribute xs k h, numbers_append e 1 (take k xs) (attribute_at xs k ∷ []), n, add-one k, row_is long s e (suc k) r (attribute_at xs k) o)

-- All elements

lists_append : (k : ℕ) (es fs : List Element) → list_numbers k (es ++ fs) ≡ list_numbers k es ++ list_numbers (k + length es) fs
unfolding list_numbers
lists_append k [] fs = let z : k + 0 ≡ k = omega arith in rw z
lists_append k (e ∷ es) fs =
    let z : k + 1 + length es ≡ k + suc (length es) = omega arith in
    let more : list_numbers (k + 1) (es ++ fs) ≡ list_numbers (k + 1) es ++ list_numbers (k + suc (length es)) fs = subst (λ (n : ℕ). list_numbers (k + 1) (es ++ fs) ≡ list_numbers (k + 1) es ++ list_numbers n fs) z (lists_append (k + 1) es fs) in
    rw (more, append_assoc (attribute_numbers k 1 e.attributes))

pub lists_length : (k : ℕ) (es : List Element) → length (list_numbers k es) ≡ attribute_width * attribute_count es
unfolding list_numbers attribute_count
lists_length k [] = refl
lists_length k (e ∷ es) = omega (arith, length-append (attribute_numbers k 1 e.attributes) (list_numbers (k + 1) es), numbers_length k 1 e.attributes, lists_length (k + 1) es)

count_append : (es fs : List Element) → attribute_count (es ++ fs) ≡ attribute_count es + attribute_count fs
unfolding attribute_count
count_append [] fs = let z : 0 + attribute_count fs ≡ attribute_count fs = omega arith in sym z
count_append (e ∷ es) fs = omega (arith, count_append es fs)

take_element : (es : List Element) (k : ℕ) → k < length es → take (suc k) es ≡ take k es ++ element_at es k ∷ []
unfolding element_at
take_element [] k h = absurd (omega arith)
take_element (e ∷ es) zero h = refl
take_element (e ∷ es) (suc k) h = ap (λ (l : List Element). e ∷ l) (take_element es k (omega arith))

-- One element more is passed.
module _ (es : List Element) (k : ℕ) (h : k < length es) where
  pub lists_more : list_numbers 1 (take (k + 1) es) ≡ list_numbers 1 (take k es) ++ attribute_numbers (k + 1) 1 (element_at es k).attributes
  unfolding list_numbers
  lists_more =
      let n : 1 + length (take k es) ≡ k + 1 = omega (arith, length-take-le k es (omega arith)) in
      rw (add-one k, take_element es k h, lists_append 1 (take k es) (element_at es k ∷ []), n, add-one k, append-nil (attribute_numbers (suc k) 1 (element_at es k).attributes))

  pub count_more : attribute_count (take (k + 1) es) ≡ attribute_count (take k es) + length (element_at es k).attributes
  unfolding attribute_count
  count_more =
      let n : length (element_at es k).attributes + 0 ≡ length (element_at es k).attributes = omega arith in
      rw (add-one k, take_element es k h, count_append (take k es) (element_at es k ∷ []), n)
