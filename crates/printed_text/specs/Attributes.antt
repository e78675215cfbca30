-- The table of attributes that is listed, record by record, as what the rules read.
use Prim.Native.Nat.{ℕ, zero, suc, ◌+◌, ◌-◌, ◌*◌, ◌≤◌, ◌<◌}
use Rattle.std.specs.Prelude.{◌≡◌, Bool, true, false, eqb, ltb}
use Rattle.std.proofs.Math.Path.{refl, sym, ap}
use Rattle.std.proofs.Common.{◌∙◌, length-append, drop_at, get_or-drop}
use mathlib.Core.List.{List, [], ◌∷◌, ◌++◌, append_assoc}
use native.Mathlib.Omega.{arith}
use Rattle.std.proofs.Math.ListN.{length, drop, get_or}
use Rattle.std.proofs.Math.Seq.{drop-drop}
use borrow.Author.Tests.{eq-eqb, ne_eqb, lt-ltb, le-ltb}
use Rattle.rules.specs.Attributes.{Attribute, attribute_at}
use Rattle.rules.specs.TypeFile.{Element}
use Rattle.rules.specs.Elements.{element_at}
use Rattle.rules.specs.Listing.{value_numbers, default_numbers, attribute_numbers, attribute_width, list_numbers, attribute_count}
use Rattle.rules.specs.Printed.{upper, attribute_text, program_name_length}
use Rattle.rules_laws.specs.Within.{All, none, more}
use Rattle.type_laws.specs.Attributes.{AttributeIn, AttributesIn}
use Rattle.event_names.specs.Names.{FitsAttributes, record_within, attribute_in}
use Rattle.attribute_records.specs.Numbers.{value_length, default_length}

-- A record: the attribute with this number in the list of the element with that number.
record Listed : Type 0 where
  element : ℕ
  number : ℕ
  attribute : Attribute

-- Those of a list whose first attribute has the number a, and those of all elements.
list_of : (k a : ℕ) → List Attribute → List Listed
list_of k a [] = []
list_of k a (x ∷ xs) = record { element = k; number = a; attribute = x } ∷ list_of k (a + 1) xs

all_of : (k : ℕ) → List Element → List Listed
all_of k [] = []
all_of k (e ∷ es) = list_of k 1 e.attributes ++ all_of (k + 1) es

-- These are their numbers.
nine : Listed → List ℕ
nine r = r.element ∷ r.number ∷ r.attribute.at ∷ r.attribute.size ∷ (value_numbers r.attribute.value ++ default_numbers r.attribute.default)

numbers_of : List Listed → List ℕ
numbers_of [] = []
numbers_of (r ∷ rs) = nine r ++ numbers_of rs

nine_length : (r : Listed) → length (nine r) ≡ attribute_width
unfolding nine
nine_length r = omega (arith, length-append (value_numbers r.attribute.value) (default_numbers r.attribute.default), value_length r.attribute.value, default_length r.attribute.default)

numbers_append : (rs qs : List Listed) → numbers_of (rs ++ qs) ≡ numbers_of rs ++ numbers_of qs
unfolding numbers_of
numbers_append [] qs = refl
numbers_append (r ∷ rs) qs = rw (numbers_append rs qs, append_assoc (nine r))

list_numbers_lem : (k a : ℕ) (xs : List Attribute) → attribute_numbers k a xs ≡ numbers_of (list_of k a xs)
unfolding attribute_numbers numbers_of list_of nine
list_numbers_lem k a [] = refl
list_numbers_lem k a (x ∷ xs) = rw (list_numbers_lem k (a + 1) xs, append_assoc (value_numbers x.value))

all_numbers : (k : ℕ) (es : List Element) → list_numbers k es ≡ numbers_of (all_of k es)
unfolding list_numbers all_of numbers_of
all_numbers k [] = refl
all_numbers k (e ∷ es) = rw (list_numbers_lem k 1 e.attributes, all_numbers (k + 1) es, numbers_append (list_of k 1 e.attributes) (all_of (k + 1) es))

list_length : (k a : ℕ) (xs : List Attribute) → length (list_of k a xs) ≡ length xs
unfolding list_of
list_length k a [] = refl
list_length k a (x ∷ xs) = ap suc (list_length k (a + 1) xs)

all_length : (k : ℕ) (es : List Element) → attribute_count es ≡ length (all_of k es)
unfolding attribute_count all_of
all_length k [] = refl
all_length k (e ∷ es) = omega (arith, length-append (list_of k 1 e.attributes) (all_of (k + 1) es), list_length k 1 e.attributes, all_length (k + 1) es)

-- The name of the first record with these numbers.
name_of : List ℕ → List Listed → (e a : ℕ) → List ℕ
name_of s [] e a = []
name_of s (r ∷ rs) e a =
    elim (eqb r.element e) [
      | true ↦ elim (eqb r.number a) [ true ↦ upper s r.attribute.at r.attribute.size | false ↦ name_of s rs e a ]
      | false ↦ name_of s rs e a
    ]

-- It is the attribute's, by the numbers of element and attribute.
text_at : List ℕ → List Attribute → ℕ → List ℕ
text_at s xs j = upper s (attribute_at xs j).at (attribute_at xs j).size

module _ (s : List ℕ) where
  text_none : (j : ℕ) → text_at s [] j ≡ []
  unfolding text_at attribute_at upper
  text_none j = refl

  other_list : (k a e b : ℕ) (xs : List Attribute) (rs : List Listed) → (k ≡ e → ⊥) → name_of s (list_of k a xs ++ rs) e b ≡ name_of s rs e b
  unfolding list_of name_of
  other_list k a e b [] rs h = refl
  other_list k a e b (x ∷ xs) rs h = rw (ne_eqb k e h, name_of) (other_list k (a + 1) e b xs rs h)

  -- Elements behind have higher numbers.
  none_behind : (k e b : ℕ) (es : List Element) → e < k → name_of s (all_of k es) e b ≡ []
  unfolding all_of name_of
  none_behind k e b [] h = refl
  none_behind k e b (x ∷ es) h = other_list k 1 e b x.attributes (all_of (k + 1) es) (λ q. omega arith) ∙ none_behind (k + 1) e b es (omega arith)

  in_list : (k a j : ℕ) (xs : List Attribute) (rs : List Listed) → ((b : ℕ) → name_of s rs k b ≡ []) → name_of s (list_of k a xs ++ rs) k (a + j) ≡ text_at s xs j
  unfolding list_of name_of text_at attribute_at
  in_list k a j [] rs h = h (a + j) ∙ sym (text_none j)
  in_list k a zero (x ∷ xs) rs h =
      let z : a + 0 ≡ a = omega arith in
      rw (eq-eqb k k refl, name_of, eq-eqb a (a + 0) (sym z))
  in_list k a (suc j) (x ∷ xs) rs h =
      let z : a + suc j ≡ a + 1 + j = omega arith in
      rw (eq-eqb k k refl, name_of, ne_eqb a (a + suc j) (λ q. omega arith), z) (in_list k (a + 1) j xs rs h)

  in_all : (k i j : ℕ) (es : List Element) → name_of s (all_of k es) (k + i) (1 + j) ≡ text_at s (element_at es i).attributes j
  unfolding all_of name_of element_at
  in_all k i j [] = sym (text_none j)
  in_all k zero j (e ∷ es) =
      let z : k + 0 ≡ k = omega arith in
      rw z (in_list k 1 j e.attributes (all_of (k + 1) es) (λ b. none_behind (k + 1) k b es (omega arith)))
  in_all k (suc i) j (e ∷ es) =
      let z : k + suc i ≡ k + 1 + i = omega arith in
      other_list k 1 (k + suc i) (1 + j) e.attributes (all_of (k + 1) es) (λ q. omega arith) ∙ rw z (in_all (k + 1) i j es)

-- The name in the record k of a table that has so many.
found_in : (table s : List ℕ) → (k total : ℕ) → List ℕ
found_in table s k total = elim (ltb k total) [ true ↦ upper s (get_or table (attribute_width * k + 2) 0) (get_or table (attribute_width * k + 3) 0) | false ↦ [] ]

found_first : (table s : List ℕ) (k total : ℕ) → k < total → found_in table s k total ≡ upper s (get_or table (attribute_width * k + 2) 0) (get_or table (attribute_width * k + 3) 0)
unfolding found_in
found_first table s k total h = rw (found_in, lt-ltb k total h)

found_same : (table s : List ℕ) {m n e f a b t u : ℕ} → m ≡ n → e ≡ f → a ≡ b → t ≡ u → found_in table s (record_within table m 0 e a) t ≡ found_in table s (record_within table n 0 f b) u
found_same table s x y z w = cc

-- The table, whose records from the i-th on are these.
module _ (table rest : List ℕ) where
  Stands : (i : ℕ) → List Listed → Type 0
  Stands i rs = drop (attribute_width * i) table ≡ numbers_of rs ++ rest

  module _ (i : ℕ) (r : Listed) (rs : List Listed) (q : Stands i (r ∷ rs)) where
    number_is : (j : ℕ) → get_or table (attribute_width * i + j) 0 ≡ get_or (numbers_of (r ∷ rs) ++ rest) j 0
    unfolding Stands
    number_is j = sym (get_or-drop (attribute_width * i) table j 0) ∙ ap (λ (l : List ℕ). get_or l j 0) q

    element_is : get_or table (attribute_width * i) 0 ≡ r.element
    unfolding numbers_of nine
    element_is = let z : attribute_width * i + 0 ≡ attribute_width * i = omega arith in rw z at (number_is 0)

    own_is : get_or table (attribute_width * i + 1) 0 ≡ r.number
    unfolding numbers_of nine
    own_is = number_is 1

    at_is : get_or table (attribute_width * i + 2) 0 ≡ r.attribute.at
    unfolding numbers_of nine
    at_is = number_is 2

    size_is : get_or table (attribute_width * i + 3) 0 ≡ r.attribute.size
    unfolding numbers_of nine
    size_is = number_is 3

    next_stands : Stands (i + 1) rs
    unfolding Stands numbers_of
    next_stands =
        let z : attribute_width * (i + 1) ≡ attribute_width * i + attribute_width = omega arith in
        let there : drop attribute_width ((nine r ++ numbers_of rs) ++ rest) ≡ numbers_of rs ++ rest = rw (append_assoc (nine r)) (drop_at (nine r) (numbers_of rs ++ rest) attribute_width (nine_length r)) in
        rw (z, ← drop-drop attribute_width (attribute_width * i) table) (ap (drop attribute_width) q ∙ there)

  -- What the search through it finds.
  module _ (s : List ℕ) (e a : ℕ) where
    search_is : (i : ℕ) (rs : List Listed) → Stands i rs → found_in table s (record_within table (length rs) i e a) (i + length rs) ≡ name_of s rs e a
    unfolding record_within name_of found_in
    search_is i [] q = rw (found_in, le-ltb i (i + 0) (omega arith))
    search_is i (r ∷ rs) q = by_element (eqb r.element e) refl (eqb r.number a) refl (search_is (i + 1) rs (next_stands i r rs q))
      where
        onward : found_in table s (record_within table (length rs) (i + 1) e a) (i + 1 + length rs) ≡ name_of s rs e a → found_in table s (record_within table (length rs) (i + 1) e a) (i + suc (length rs)) ≡ name_of s rs e a
        onward ih = let z : i + suc (length rs) ≡ i + 1 + length rs = omega arith in rw z ih

        by_element : (b : Bool) → eqb r.element e ≡ b → (d : Bool) → eqb r.number a ≡ d → found_in table s (record_within table (length rs) (i + 1) e a) (i + 1 + length rs) ≡ name_of s rs e a
            → found_in table s (record_within table (suc (length rs)) i e a) (i + suc (length rs)) ≡ name_of s (r ∷ rs) e a
        by_element true x true y ih =
            let here : record_within table (suc (length rs)) i e a ≡ i = rw (record_within, element_is i r rs q, x, own_is i r rs q, y) in
            let text : upper s r.attribute.at r.attribute.size ≡ name_of s (r ∷ rs) e a = rw (name_of, x, y) in
            ap (λ (k : ℕ). found_in table s k (i + suc (length rs))) here ∙ found_first table s i (i + suc (length rs)) (omega arith)
            ∙ ap (λ (n : ℕ). upper s n (get_or table (attribute_width * i + 3) 0)) (at_is i r rs q) ∙ ap (upper s r.attribute.at) (size_is i r rs q) ∙ text
        by_element true x false y ih = rw (record_within, name_of, element_is i r rs q, x, own_is i r rs q, y) (onward ih)
        by_element false x d y ih = rw (record_within, name_of, element_is i r rs q, x) (onward ih)

  -- Its names stand in the type file and are short.
  module _ (long : ℕ) (s : List ℕ) where
    NameAt : (k : ℕ) → Type 0
    NameAt k = (get_or table (attribute_width * k + 3) 0 ≤ long) × (get_or table (attribute_width * k + 2) 0 + get_or table (attribute_width * k + 3) 0 ≤ length s)

    names_stand : (i k : ℕ) (rs : List Listed) → Stands i rs → All (λ (r : Listed). AttributeIn long s r.attribute) rs → k < length rs → NameAt (i + k)
    unfolding NameAt
    names_stand i k [] q all h = absurd (omega arith)
    names_stand i zero (r ∷ rs) q (more p all) h =
        let z : i + 0 ≡ i = omega arith in
        rw (z, at_is i r rs q, size_is i r rs q) (p.short, p.inside)
    names_stand i (suc k) (r ∷ rs) q (more p all) h =
        let z : i + suc k ≡ i + 1 + k = omega arith in
        rw z (names_stand (i + 1) k rs (next_stands i r rs q) all (omega arith))

-- What is listed of an element's attributes is as they are.
list_stand : (long : ℕ) (s : List ℕ) (k a : ℕ) (xs : List Attribute) (rs : List Listed) → All (AttributeIn long s) xs → All (λ (r : Listed). AttributeIn long s r.attribute) rs
    → All (λ (r : Listed). AttributeIn long s r.attribute) (list_of k a xs ++ rs)
unfolding list_of
list_stand long s k a [] rs x y = y
list_stand long s k a (v ∷ xs) rs (more p x) y = more p (list_stand long s k (a + 1) xs rs x y)

all_stand : (long : ℕ) (s : List ℕ) (k : ℕ) (es : List Element) → All (λ (e : Element). AttributesIn long s e.attributes) es → All (λ (r : Listed). AttributeIn long s r.attribute) (all_of k es)
unfolding all_of
all_stand long s k [] x = none
all_stand long s k (e ∷ es) (more p x) = list_stand long s k 1 e.attributes (all_of (k + 1) es) p.each (all_stand long s (k + 1) es x)

-- The table that begins with the numbers of all attributes.
module _ (long : ℕ) (s table rest : List ℕ) (es : List Element) (q : table ≡ list_numbers 1 es ++ rest) where
  stands : Stands table rest 0 (all_of 1 es)
  unfolding Stands
  stands = q ∙ ap (λ (l : List ℕ). l ++ rest) (all_numbers 1 es)

  pub attributes_fit : long ≡ program_name_length → All (λ (e : Element). AttributesIn long s e.attributes) es → FitsAttributes s table (attribute_count es)
  unfolding NameAt
  attributes_fit n x =
      record {
        short = λ k h. omega (arith, at k h, n);
        inside = λ k h. (at k h).1;
      }
    where
      at : (k : ℕ) → k < attribute_count es → NameAt table rest long s k
      at k h =
          let z : 0 + k ≡ k = omega arith in
          rw z at (names_stand table rest long s 0 k (all_of 1 es) stands (all_stand long s 1 es x) (omega (arith, all_length 1 es)))

  searched : (e a : ℕ) → attribute_in s table (attribute_count es) e a ≡ found_in table s (record_within table (attribute_count es) 0 (e - 1 + 1) (a - 1 + 1)) (attribute_count es)
  unfolding attribute_in found_in
  searched e a = refl

  text_is : (e a : ℕ) → text_at s (element_at es (e - 1)).attributes (a - 1) ≡ attribute_text s es e a
  unfolding text_at
  text_is e a = refl

  pub attributes_named : (e a : ℕ) → attribute_in s table (attribute_count es) e a ≡ attribute_text s es e a
  attributes_named e a =
      searched e a
      ∙ found_same table s (all_length 1 es) (omega arith) (omega arith) (omega (arith, all_length 1 es))
      ∙ search_is table rest s (1 + (e - 1)) (1 + (a - 1)) 0 (all_of 1 es) stands
      ∙ in_all s 1 (e - 1) (a - 1) es
      ∙ text_is e a
