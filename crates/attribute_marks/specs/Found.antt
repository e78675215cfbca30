-- The attribute of a list that has a name, by its number.
use Prim.Native.Nat.{ℕ, zero, suc, ◌+◌, ◌-◌, ◌≤◌, ◌<◌}
use Rattle.std.specs.Prelude.{◌≡◌, true}
use Rattle.std.proofs.Common.{◌∙◌, arith}
use Rattle.std.proofs.Math.Bool.{false}
use mathlib.Core.List.{List, [], ◌∷◌}
use Rattle.std.proofs.Math.ListN.{length}
use Rattle.rules.specs.Attributes.{Attribute, is_called, attribute_from, attribute_of, attribute_at}
use Rattle.basic_laws.specs.Truth.{bool_cases}

module _ (s t : List ℕ) (at size : ℕ) where
  -- One of them has the name: the k-th, from 0.
  record Found (m : ℕ) (xs : List Attribute) : Type 0 where
    k : ℕ
    number : attribute_from m s xs t at size ≡ m + k
    inside : k < length xs
    called : is_called s (attribute_at xs k) t at size ≡ true

  from_some : (m : ℕ) (xs : List Attribute) → 1 ≤ attribute_from m s xs t at size → Found m xs
  unfolding attribute_from attribute_at
  from_some m [] h = absurd (omega arith)
  from_some m (a ∷ xs) h =
      bool_cases (is_called s a t at size) (λ e. record { k = 0; number = rw (attribute_from, e) (omega arith); inside = omega arith; called = e })
      (λ e.
      let f = from_some (m + 1) xs (rw (attribute_from, e) at h) in
      record { k = suc f.k; number = rw (attribute_from, e) (f.number ∙ omega arith); inside = omega (arith, f.inside); called = f.called })

  pub of_some : (xs : List Attribute) (n : ℕ) → n ≡ attribute_of s xs t at size → (n ≡ 0 → ⊥) → (n - 1 < length xs) × (is_called s (attribute_at xs (n - 1)) t at size ≡ true)
  unfolding attribute_of
  of_some xs n e z =
      let f = from_some 1 xs (omega (arith, e, z)) in
      let p : f.k ≡ n - 1 = omega (arith, e, f.number) in
      (omega (arith, p, f.inside), rw p at f.called)

  -- None of them has it.
  from_none : (m : ℕ) (xs : List Attribute) → 1 ≤ m → attribute_from m s xs t at size ≡ 0 → (j : ℕ) → j < length xs → is_called s (attribute_at xs j) t at size ≡ false
  unfolding attribute_from attribute_at
  from_none m [] l h j g = absurd (omega (arith, g))
  from_none m (a ∷ xs) l h j g =
      bool_cases (is_called s a t at size) (λ e. absurd (omega (arith, l, rw (attribute_from, e) at h))) (λ e. by_first j g e (from_none (m + 1) xs (omega arith) (rw (attribute_from, e) at h)))
    where
      by_first : (j : ℕ) → j < suc (length xs) → is_called s a t at size ≡ false → ((j : ℕ) → j < length xs → is_called s (attribute_at xs j) t at size ≡ false) → is_called s (attribute_at (a ∷ xs) j) t at size ≡ false
      by_first zero g e f = e
      by_first (suc j) g e f = f j (omega (arith, g))

  pub of_none : (xs : List Attribute) → attribute_of s xs t at size ≡ 0 → (j : ℕ) → j < length xs → is_called s (attribute_at xs j) t at size ≡ false
  unfolding attribute_of
  of_none xs e = from_none 1 xs (omega arith) e
