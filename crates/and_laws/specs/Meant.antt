-- What the folds call required is what the rules call required.
use Rattle.std.specs.Prelude.{ℕ, ◌≡◌, true, ◌↔◌}
use Rattle.std.proofs.Common.{inl, inr, eqb-true, eq-eqb}
use mathlib.Core.List.{List, Memᴰ}
use Rattle.basic_laws.specs.Truth.{or_left, or_right, or_cases, not_true, not_both}
use Rattle.model_sets.specs.Sets.{has, has_m}
use Rattle.rules.specs.Walk.{Group, place, seq, alt, opt, plus, and, Members, one, also, HasPlace, SomeHasPlace, IsOther, IsOtherOf, Required}
use Rattle.and_laws.specs.Base.{mem}
use Rattle.and_laws.specs.Sets.{meets, meets_common, common_meets}
use Rattle.and_laws.specs.Required.{Other, OtherM, Unbegun, RequiredBy, mem_memᴰ, memᴰ-mem}

-- These laws are of the places of a group.
mutual
  pub has_place : (g : Group) (p : ℕ) → has g p ≡ true → HasPlace g p
  has_place (place n) p e = eqb-true n p e
  has_place (seq g h) p e = or_cases (has g p) (has h p) (λ x. inl (has_place g p x)) (λ y. inr (has_place h p y)) e
  has_place (alt g h) p e = or_cases (has g p) (has h p) (λ x. inl (has_place g p x)) (λ y. inr (has_place h p y)) e
  has_place (opt g) p e = has_place g p e
  has_place (plus g) p e = has_place g p e
  has_place (and m) p e = has_some m p e

  pub has_some : (m : Members) (p : ℕ) → has_m m p ≡ true → SomeHasPlace m p
  has_some (one g) p e = has_place g p e
  has_some (also m g) p e = or_cases (has_m m p) (has g p) (λ x. inl (has_some m p x)) (λ y. inr (has_place g p y)) e

mutual
  pub place_has : (g : Group) (p : ℕ) → HasPlace g p → has g p ≡ true
  place_has (place n) p e = eq-eqb n p e
  place_has (seq g h) p (inl x) = or_left _ (place_has g p x)
  place_has (seq g h) p (inr y) = or_right (has g p) (place_has h p y)
  place_has (alt g h) p (inl x) = or_left _ (place_has g p x)
  place_has (alt g h) p (inr y) = or_right (has g p) (place_has h p y)
  place_has (opt g) p e = place_has g p e
  place_has (plus g) p e = place_has g p e
  place_has (and m) p e = some_has m p e

  pub some_has : (m : Members) (p : ℕ) → SomeHasPlace m p → has_m m p ≡ true
  some_has (one g) p e = place_has g p e
  some_has (also m g) p (inl x) = or_left _ (some_has m p x)
  some_has (also m g) p (inr y) = or_right (has_m m p) (place_has g p y)

-- These laws are of the other members around a place.
mutual
  pub other_is : (g : Group) (p : ℕ) (h : Group) → Other g p h → IsOther g p h
  other_is (place n) p h o = o
  other_is (seq g k) p h (inl o) = inl (other_is g p h o)
  other_is (seq g k) p h (inr o) = inr (other_is k p h o)
  other_is (alt g k) p h (inl o) = inl (other_is g p h o)
  other_is (alt g k) p h (inr o) = inr (other_is k p h o)
  other_is (opt g) p h o = other_is g p h o
  other_is (plus g) p h o = other_is g p h o
  other_is (and m) p h o = other_of m p h o

  other_of : (m : Members) (p : ℕ) (h : Group) → OtherM m p h → IsOtherOf m p h
  other_of (one g) p h o = other_is g p h o
  other_of (also m g) p h (inl (inl o)) = inl (inl (other_of m p h o))
  other_of (also m g) p h (inl (inr o)) = inl (inr (other_is g p h o))
  other_of (also m g) p h (inr (inl (i, o))) = inr (inl (has_place g p i, o))
  other_of (also m g) p h (inr (inr (i, o))) = inr (inr (has_some m p i, o))

mutual
  pub is_other : (g : Group) (p : ℕ) (h : Group) → IsOther g p h → Other g p h
  is_other (place n) p h o = o
  is_other (seq g k) p h (inl o) = inl (is_other g p h o)
  is_other (seq g k) p h (inr o) = inr (is_other k p h o)
  is_other (alt g k) p h (inl o) = inl (is_other g p h o)
  is_other (alt g k) p h (inr o) = inr (is_other k p h o)
  is_other (opt g) p h o = is_other g p h o
  is_other (plus g) p h o = is_other g p h o
  is_other (and m) p h o = is_other_of m p h o

  is_other_of : (m : Members) (p : ℕ) (h : Group) → IsOtherOf m p h → OtherM m p h
  is_other_of (one g) p h o = is_other g p h o
  is_other_of (also m g) p h (inl (inl o)) = inl (inl (is_other_of m p h o))
  is_other_of (also m g) p h (inl (inr o)) = inl (inr (is_other g p h o))
  is_other_of (also m g) p h (inr (inl (i, o))) = inr (inl (place_has g p i, o))
  is_other_of (also m g) p h (inr (inr (i, o))) = inr (inr (some_has m p i, o))

-- A member has not begun exactly if none of its places was taken.
pub unbegun_none : (h : Group) (s : List ℕ) → Unbegun h s → (q : ℕ) → HasPlace h q → Memᴰ q s → ⊥
unbegun_none h s n q i m = not_both n (common_meets h (mem s) q (place_has h q i) (memᴰ-mem s q m))

pub none_unbegun : (h : Group) (s : List ℕ) → ((q : ℕ) → HasPlace h q → Memᴰ q s → ⊥) → Unbegun h s
none_unbegun h s f = not_true (meets h (mem s)) (λ e. let (q, x, y) = meets_common h (mem s) e in f q (has_place h q x) (mem_memᴰ s q y))

-- A place is required by the folds' definition exactly if it is by the rules'.
pub required_meant : (g : Group) (s : List ℕ) (p : ℕ) → RequiredBy g s p ↔ Required g s p
required_meant g s p = (there, back)
  where
    there : RequiredBy g s p → Required g s p
    there ((x, f), k) = record { next = x; passed = f; alone = λ h o (n, q, i, y). k h (is_other g p h o) (none_unbegun h s n) q (place_has h q i) y }

    back : Required g s p → RequiredBy g s p
    back r = ((r.next, r.passed), λ h o n q i y. r.alone h (other_is g p h o) (unbegun_none h s n, q, has_place h q i, y))
