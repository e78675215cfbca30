-- A model is ambiguous exactly if it has a pair at fault; where it has none, names decide the places.
use Rattle.std.specs.Prelude.{ℕ, ◌<◌, ◌≡◌, refl, Bool, true, ◌⊎◌}
use Rattle.std.proofs.Common.{ap₂, inl, inr, ⊎_elim, arith}
use mathlib.Core.List.{List, [], ◌∷◌, ◌++◌, append_assoc, append_cancel_left, head-eq_of_cons-eq}
use Rattle.std.proofs.Math.Decide.{ℕ_discrete, dec_lt}
use Rattle.model_sets.specs.Sets.{has}
use Rattle.rules.specs.Walk.{Group, Begins, MayComeNext}
use Rattle.rules.specs.Ambiguity.{SpellSame, none, next, Ambiguous, PairAtFault, FirstPair}
use Rattle.model_sets.specs.Search.{least_unique}
use Rattle.and_laws.specs.Base.{In, mem_head, mem_right}
use Rattle.and_laws.specs.Fold.{begins_less}
use Rattle.and_laws.specs.Only.{begins_in}

module _ (same : ℕ → ℕ → Bool) where
  module _ (g : Group) where
    abbrev pub Faulty : Type 0
    Faulty = (p : ℕ) × (q : ℕ) × PairAtFault same g p q

    module _ (same_sym : (p q : ℕ) → same p q ≡ true → same q p ≡ true) where
      differ_faulty : (s : List ℕ) (p q : ℕ) → (p ≡ q → ⊥) → same p q ≡ true → MayComeNext g s p → MayComeNext g s q → Faulty
      differ_faulty s p q ne e a b = go (dec_lt p q)
        where
          go : Dec (p < q) → Faulty
          go (yes l) = (p, q, (l, e, s, a, b))
          go (no l) = (q, p, (omega arith, same_sym p q e, s, b, a))

      equal_or_faulty : (u : List ℕ) {s t : List ℕ} → SpellSame same s t → Begins g (u ++ s) → Begins g (u ++ t) → (s ≡ t) ⊎ Faulty
      equal_or_faulty u none a b = inl refl
      equal_or_faulty u (next {p} {q} {s} {t} e r) a b = go (ℕ_discrete p q) (equal_or_faulty (u ++ p ∷ []) r)
        where
          go : Dec (p ≡ q) → (Begins g ((u ++ p ∷ []) ++ s) → Begins g ((u ++ p ∷ []) ++ t) → (s ≡ t) ⊎ Faulty) → (p ∷ s ≡ q ∷ t) ⊎ Faulty
          go (yes pq) f = ⊎_elim (λ st. inl (ap₂ ◌∷◌ pq st)) inr (f (rw append_assoc a) (rw (append_assoc, pq) b))
          go (no ne) f = inr (differ_faulty u p q ne e (begins_less g (u ++ p ∷ []) s (rw append_assoc a)) (begins_less g (u ++ q ∷ []) t (rw append_assoc b)))

      pub ambiguous_pair : Ambiguous same g → Faulty
      ambiguous_pair (s, t, a, b, e, ne) = ⊎_elim (λ st. absurd (ne st)) (λ x. x) (equal_or_faulty [] e a b)

      pub unambiguous_equal : ((p q : ℕ) → PairAtFault same g p q → ⊥) → (s t : List ℕ) → Begins g s → Begins g t → SpellSame same s t → s ≡ t
      unambiguous_equal none_at_fault s t a b e = ⊎_elim (λ st. st) (λ x. absurd (none_at_fault x.0 x.1 x.2)) (equal_or_faulty [] e a b)

    module _ (same_refl : (p : ℕ) → has g p ≡ true → same p p ≡ true) where
      spells : (s x y : List ℕ) → In (has g) s → SpellSame same x y → SpellSame same (s ++ x) (s ++ y)
      spells [] x y i e = e
      spells (p ∷ s) x y i e = next (same_refl p (i p (mem_head p s))) (spells s x y (λ q j. i q (mem_right (p ∷ []) s q j)) e)

      pub pair_ambiguous : (p q : ℕ) → PairAtFault same g p q → Ambiguous same g
      pair_ambiguous p q (l, e, s, a, b) = (s ++ p ∷ [], s ++ q ∷ [], a, b, spells s (p ∷ []) (q ∷ []) (begins_in g s (p ∷ []) a) (next e none), differ)
        where
          differ : s ++ p ∷ [] ≡ s ++ q ∷ [] → ⊥
          differ z = let pq = head-eq_of_cons-eq (append_cancel_left s (p ∷ []) (q ∷ []) z) in omega arith

    -- At most one pair comes first.
    pub first_pair_unique : (p q a b : ℕ) → FirstPair same g p q → FirstPair same g a b → (p ≡ a) × (q ≡ b)
    first_pair_unique p q a b (x, f) (y, k) = least_unique p q a b (f a b y) (k p q x)
