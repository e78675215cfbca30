-- The number of an element by its name: in range, of an element that has the name, and of no other, since declared names differ.
use Prim.Native.Nat.{ℕ, zero, suc, ◌+◌, ◌-◌, ◌≤◌, ◌<◌}
use Rattle.std.specs.Prelude.{◌≡◌, true, ◌↔◌, length, take, eqb}
use Rattle.std.proofs.Math.Path.{refl}
use Rattle.std.proofs.Common.{sym, ◌∙◌, subst, true≢false, not-suc-le-zero, le_of_suc-le-suc, length-take-le, eq-eqb, eqb-true, ne_eqb}
use Rattle.std.proofs.Math.Bool.{false}
use mathlib.Core.List.{List, [], ◌∷◌}
use native.Mathlib.Omega.{arith}
use Rattle.std.proofs.Math.Dec.{eqb-zero-suc, eqb-suc-zero}
use borrow.Author.Tests.{leb-false}
use Rattle.rules.specs.Bytes.{same_text}
use Rattle.rules.specs.Reading.{got}
use Rattle.rules.specs.TypeFile.{Place, Element, same_name, declared_from, is_declared, type_file}
use Rattle.rules.specs.Judge.{place_at}
use Rattle.rules.specs.Elements.{element_at, is_named, number_from, number_of}
use Rattle.rules.specs.Decisions.{start, pcdata, has_name}
use Rattle.basic_laws.specs.Truth.{not_true, not_both, bool_cases}
use Rattle.text.specs.Words.{same_text_sym}
use Rattle.document_laws.specs.Decide.{same_text_trans}
use Rattle.document_laws.specs.Chain.{number_from_range}
use Rattle.rules_laws.specs.Within.{All, more, ElementIn, type_file_elements}
use Rattle.rules_laws.specs.Declarations.{bares, bares_length}
use Rattle.type_laws.specs.Made.{element_at_take, bares_at, type_file_made}

-- The search goes by name.

module _ (s t : List ℕ) (at size : ℕ) where
  -- A number that is found is that of an element with the name.
  abbrev Found : ℕ → List Element → ℕ → Type 0
  Found k es n = (k ≤ n) × (is_named s (element_at es (n - k)) t at size ≡ true)

  found_here : (k : ℕ) (e : Element) (es : List Element) → is_named s e t at size ≡ true → Found k (e ∷ es) k
  unfolding element_at
  found_here k e es x = let z : k - k ≡ 0 = omega arith in (omega arith, rw (z, element_at) x)

  found_later : (k : ℕ) (e : Element) (es : List Element) (n : ℕ) → Found (k + 1) es n → Found k (e ∷ es) n
  unfolding element_at
  found_later k e es n (l, x) = let z : n - k ≡ suc (n - (k + 1)) = omega arith in (omega arith, rw (z, element_at) x)

  number_from_found : (k : ℕ) (es : List Element) → 1 ≤ number_from k s es t at size → Found k es (number_from k s es t at size)
  unfolding number_from
  number_from_found k [] h = absurd (not-suc-le-zero h)
  number_from_found k (e ∷ es) h =
      bool_cases (is_named s e t at size) (λ x. rw (x, number_from) (found_here k e es x))
      (λ x. rw (x, number_from) (found_later k e es (number_from (k + 1) s es t at size) (number_from_found (k + 1) es (rw (x, number_from) at h))))

  -- The first that has the name is found.
  number_from_first : (k : ℕ) (es : List Element) (j : ℕ) → j < length es → ((i : ℕ) → i < j → is_named s (element_at es i) t at size ≡ false) → is_named s (element_at es j) t at size ≡ true → number_from k s es t at size ≡ k + j
  unfolding number_from element_at
  number_from_first k [] j h f x = absurd (not-suc-le-zero h)
  number_from_first k (e ∷ es) zero h f x = rw (x, number_from) (omega arith)
  number_from_first k (e ∷ es) (suc j) h f x =
      let ih = number_from_first (k + 1) es j (le_of_suc-le-suc h) (λ i l. f (suc i) (omega arith)) x in
      rw (f 0 (omega arith), number_from, ih) (omega arith)

  number_from_none : (k : ℕ) (es : List Element) → ((j : ℕ) → j < length es → is_named s (element_at es j) t at size ≡ false) → number_from k s es t at size ≡ 0
  unfolding number_from element_at
  number_from_none k [] f = refl
  number_from_none k (e ∷ es) f = rw (f 0 (omega arith), number_from) (number_from_none (k + 1) es (λ j l. f (suc j) (omega arith)))

pub number_of_range : (s : List ℕ) (es : List Element) (t : List ℕ) (at size : ℕ) → number_of s es t at size ≤ length es
unfolding number_of
number_of_range s es t at size = omega (arith, number_from_range s t at size 1 es (omega arith))

pub number_of_named : (s : List ℕ) (es : List Element) (t : List ℕ) (at size : ℕ) → 1 ≤ number_of s es t at size → is_named s (element_at es (number_of s es t at size - 1)) t at size ≡ true
unfolding number_of
number_of_named s es t at size h = (number_from_found s t at size 1 es h).1

pub number_of_none : (s : List ℕ) (es : List Element) (t : List ℕ) (at size : ℕ) → ((k : ℕ) → k < length es → is_named s (element_at es k) t at size ≡ false) → number_of s es t at size ≡ 0
unfolding number_of
number_of_none s es t at size f = number_from_none s t at size 1 es f

-- Names may be the same.

pub is_named_split : (s : List ℕ) (e : Element) (t : List ℕ) (at size : ℕ) → is_named s e t at size ≡ true → (e.size ≡ size) × (same_text s e.at t at size ≡ true)
is_named_split s e t at size r =
    bool_cases (eqb e.size size) (λ x. (eqb-true e.size size x, rw (x, is_named) at r)) (λ x. absurd (true≢false (sym (rw (x, is_named) at r))))

pub is_named_join : (s : List ℕ) (e : Element) (t : List ℕ) (at size : ℕ) → e.size ≡ size → same_text s e.at t at size ≡ true → is_named s e t at size ≡ true
is_named_join s e t at size q r = rw (eq-eqb e.size size q, is_named) r

-- Two elements of one name have each the other's.
named_same : (s : List ℕ) (e f : Element) (t : List ℕ) (at size : ℕ) → is_named s e t at size ≡ true → is_named s f t at size ≡ true → is_named s e s f.at f.size ≡ true
named_same s e f t at size x y =
    let (p, a) = is_named_split s e t at size x in
    let (q, b) = is_named_split s f t at size y in
    is_named_join s e s f.at f.size (p ∙ sym q)
    (rw q (same_text_trans s e.at t at s f.at size a (same_text_sym s f.at t at size b)))

-- A name that no element has was declared by none. The first of these elements has the number n.
none_differs : (n : ℕ) (s : List ℕ) (es : List Element) (at size : ℕ) → 1 ≤ n → declared_from n s es at size ≡ 0
    → (k : ℕ) → k < length es → is_named s (element_at es k) s at size ≡ false
unfolding declared_from element_at
none_differs n s [] at size l f k h = absurd (not-suc-le-zero h)
none_differs n s (e ∷ es) at size l f zero h =
    not_true _ (λ x. let z : n ≡ 0 = rw (x, declared_from) at f in absurd (omega (arith, l, z)))
none_differs n s (e ∷ es) at size l f (suc k) h =
    bool_cases (same_name s e.at e.size at size)
    (λ x. let z : n ≡ 0 = rw (x, declared_from) at f in absurd (omega (arith, l, z)))
    (λ x. none_differs (n + 1) s es at size (omega arith) (rw (x, declared_from) at f) k (le_of_suc-le-suc h))

fresh_differs : (s : List ℕ) (es : List Element) (at size : ℕ) → is_declared s es at size ≡ false
    → (k : ℕ) → k < length es → is_named s (element_at es k) s at size ≡ false
fresh_differs s es at size f =
    none_differs 1 s es at size (omega arith) (omega (arith, leb-false 1 (declared_from 1 s es at size) f))

-- These laws are of a type file that was read.

pub type_file_element : (long : ℕ) (s : List ℕ) (es : List Element) → type_file long s ≡ got es → (k : ℕ) → k < length es → ElementIn s (element_at es k)
unfolding element_at
type_file_element long s es r k h = at_each es (type_file_elements long s es r).1.each k h
  where
    at_each : (es : List Element) → All (ElementIn s) es → (k : ℕ) → k < length es → ElementIn s (element_at es k)
    at_each [] a k h = absurd (not-suc-le-zero h)
    at_each (e ∷ es) (more p a) zero h = p
    at_each (e ∷ es) (more p a) (suc k) h = at_each es a k (le_of_suc-le-suc h)

module _ (long : ℕ) (s : List ℕ) (es : List Element) (read : type_file long s ≡ got es) where
  -- An element has not the name of one before it.
  differs : (j k : ℕ) → j < k → k < length es → is_named s (element_at es j) s (element_at es k).at (element_at es k).size ≡ false
  differs j k l h =
      let whole = bares_length es in
      subst (λ (e : Element). is_named s e s (element_at es k).at (element_at es k).size ≡ false) (element_at_take (bares es) k j l ∙ bares_at es j)
      (fresh_differs s (take k (bares es)) (element_at es k).at (element_at es k).size (type_file_made long s es read k h).fresh j (omega (arith, length-take-le k (bares es) (omega arith))))

  pub type_file_distinct : (k : ℕ) → k < length es → (t : List ℕ) (at size : ℕ) → is_named s (element_at es k) t at size ≡ true → number_of s es t at size ≡ k + 1
  unfolding number_of
  type_file_distinct k h t at size x = number_from_first s t at size 1 es k h other x ∙ omega arith
    where
      other : (j : ℕ) → j < k → is_named s (element_at es j) t at size ≡ false
      other j l = not_true _ (λ y. not_both (differs j k l h) (named_same s (element_at es j) (element_at es k) t at size y x))

  pub named_number : (ps : List Place) (k p : ℕ) → 1 ≤ k → k ≤ length es → (has_name s es ps (start k) p ≡ true) ↔ (number_of s es s (place_at ps (p - 1)).at (place_at ps (p - 1)).size ≡ k)
  named_number ps k p l h = (to, from)
    where
      x : Place
      x = place_at ps (p - 1)

      to : is_named s (element_at es (k - 1)) s x.at x.size ≡ true → number_of s es s x.at x.size ≡ k
      to e = type_file_distinct (k - 1) (omega arith) s x.at x.size e ∙ omega arith

      from : number_of s es s x.at x.size ≡ k → is_named s (element_at es (k - 1)) s x.at x.size ≡ true
      from e = rw (← e) (number_of_named s es s x.at x.size (omega arith))

  -- No element is named by nothing.
  pub number_of_pcdata : (t : List ℕ) (at : ℕ) → number_of s es t at 0 ≡ 0
  number_of_pcdata t at = number_of_none s es t at 0 λ k h. rw (ne_eqb (element_at es k).size 0 (λ z. omega (arith, (type_file_element long s es read k h).name.some)), is_named)

-- `#PCDATA` is the name of no size.
pub pcdata_name : (s : List ℕ) (es : List Element) (ps : List Place) (p : ℕ) → has_name s es ps pcdata p ≡ eqb (place_at ps (p - 1)).size 0
unfolding same_text
pcdata_name s es ps p = go (place_at ps (p - 1)).at (place_at ps (p - 1)).size
  where
    go : (at size : ℕ) → same_name s 0 0 at size ≡ eqb size 0
    go at zero = refl
    go at (suc n) = rw (eqb-zero-suc n, eqb-suc-zero n, same_name)
