-- The first pair at fault of a numbered model is the first pair of one name that clashes, found by a search in order; two places that clash are both in some row.
use Rattle.std.specs.Prelude.{ℕ, zero, suc, ◌+◌, ◌≤◌, ◌<◌, ◌≡◌, Bool, true, ◌&&◌, List, [], ◌∷◌, ◌++◌}
use Rattle.std.proofs.Common.{sym, ◌∙◌, subst, arith}
use Rattle.basic_laws.specs.Truth.{and_left, and_right, and_both}
use Rattle.model_sets.specs.Sets.{has, size, Numbered, next_in}
use Rattle.model_sets.specs.Search.{search_pair, NoPair, IsFirst, search_pair_none, search_pair_some}
use Rattle.rules.specs.Walk.{Group, Begins, MayComeNext}
use Rattle.rules.specs.Ambiguity.{PairAtFault, FirstPair}
use Rattle.and_laws.specs.Base.{mem, mem_left, Ends, ends_mem}
use Rattle.and_laws.specs.Sets.{held, Good, walk_in}
use Rattle.and_laws.specs.Left.{Agrees}
use Rattle.and_laws.specs.Fold.{Both, clash, clash_both, begins_less}
use Rattle.and_laws.specs.Exact.{begins_first}
use Rattle.and_laws.specs.Only.{ends_of}
use Rattle.and_laws.specs.Pairs.{fault_clash, clash_fault}
use Rattle.and_laws.specs.Decide.{next_fold}
use Rattle.and_laws.specs.Numbers.{Guarded, has_range, numbered_good}
use Rattle.and_laws.specs.Rows.{fit_row}
use Rattle.and_laws.specs.Begun.{next_range}

module _ (same : ℕ → ℕ → Bool) (g : Group) (numbered : Numbered g 1) (guarded : Guarded g) where
  good : Good g
  good = numbered_good g 1 numbered guarded

  abbrev pub fault : ℕ → ℕ → Bool
  fault p q = same p q && clash g p q

  fault_pair : (p q : ℕ) → p < q → fault p q ≡ true → PairAtFault same g p q
  fault_pair p q l e = clash_fault same g p q l (and_left (same p q) _ e) (and_right (same p q) _ e)

  pair_fault : (p q : ℕ) → PairAtFault same g p q → (1 ≤ p) × (p < q) × (q ≤ size g) × (fault p q ≡ true)
  pair_fault p q f =
      let (l, e, c) = fault_clash same g good p q f in
      let (m, n, s, a, b) = f in
      let (x, y) = next_range g numbered guarded s p a in
      let (v, w) = next_range g numbered guarded s q b in
      (x, l, w, and_both e c)

  -- The first pair that the search finds is the first pair at fault.
  pub first_pair : (p q : ℕ) → IsFirst fault (size g) p q → FirstPair same g p q
  first_pair p q (l, m, n, e, f) = (fault_pair p q m e, λ a b x. let (i, j, k, y) = pair_fault a b x in f a b i j k y)

  -- Where it finds none, there is none.
  pub no_pair : NoPair fault (size g) → (p q : ℕ) → PairAtFault same g p q → ⊥
  no_pair f p q x = let (i, j, k, y) = pair_fault p q x in f p q i j k y

  -- Two places that can both come next after one beginning are both in the row of its last place.
  pub clash_row : (p q : ℕ) → clash g p q ≡ true → (u : ℕ) × (u ≤ size g) × (next_in g u p ≡ true) × (next_in g u q ≡ true)
  clash_row p q e = go (clash_both g p q e)
    where
      after : (u : ℕ) (s : List ℕ) → Ends s u → 1 ≤ u → u ≤ size g → MayComeNext g s p → MayComeNext g s q → (u : ℕ) × (u ≤ size g) × (next_in g u p ≡ true) × (next_in g u q ≡ true)
      after zero s x l m a b = absurd (omega arith)
      after (suc u) s x l m a b =
          let same_set : Agrees (held g) s (mem s) = λ v i. (λ j. j, λ j. j) in
          let begun : Begins g s = begins_less g s (p ∷ []) a in
          let i = walk_in g (s ++ begun.0) begun.1 (suc u) (mem_left s begun.0 (suc u) (ends_mem s (suc u) x)) in
          let t = ends_mem s (suc u) x in
          let next : (r : ℕ) → MayComeNext g s r → next_in g (suc u) r ≡ true = λ r y.
          and_left (next_in g (suc u) r) _ (sym (fit_row (suc u) (mem s) t r g good i) ∙ (next_fold g good (suc u) (mem s) s x same_set begun r).1 y) in
          (suc u, m, next p a, next q b)

      go : Both g p q → (u : ℕ) × (u ≤ size g) × (next_in g u p ≡ true) × (next_in g u q ≡ true)
      go ([], a, b) = (0, omega arith, begins_first g p a, begins_first g q b)
      go (r ∷ s, a, b) =
          let (u, x) = ends_of r s in
          let begun : Begins g (r ∷ s) = begins_less g (r ∷ s) (p ∷ []) a in
          let i = walk_in g ((r ∷ s) ++ begun.0) begun.1 u (mem_left (r ∷ s) begun.0 u (ends_mem (r ∷ s) u x)) in
          let (l, m) = has_range g 1 numbered u i in
          after u (r ∷ s) x l (omega (arith, m)) a b

-- The first pair at fault, (0, 0) if there is none.
abbrev pub first_pair_of : (ℕ → ℕ → Bool) → Group → ℕ × ℕ
first_pair_of same g = search_pair (λ p q. same p q && clash g p q) (size g)

module _ (same : ℕ → ℕ → Bool) (g : Group) (numbered : Numbered g 1) (guarded : Guarded g) where
  -- Where the search finds none, no pair is at fault.
  pub first_pair_of_none : (first_pair_of same g).0 ≡ 0 → (p q : ℕ) → PairAtFault same g p q → ⊥
  first_pair_of_none e p q f = no_pair same g numbered guarded (search_pair_none (λ a b. same a b && clash g a b) (size g) e) p q f

  -- What the search finds is the first pair at fault.
  pub first_pair_of_first : 1 ≤ (first_pair_of same g).0 → FirstPair same g (first_pair_of same g).0 (first_pair_of same g).1
  first_pair_of_first l = first_pair same g numbered guarded (first_pair_of same g).0 (first_pair_of same g).1 (search_pair_some (λ a b. same a b && clash g a b) (size g) l)

  -- A pair that the search gives by its numbers is the first pair at fault.
  pub first_pair_of_is : (p q : ℕ) → first_pair_of same g ≡ (p, q) → 1 ≤ p → FirstPair same g p q
  first_pair_of_is p q e l = subst (λ (r : ℕ × ℕ). 1 ≤ r.0 → FirstPair same g r.0 r.1) e first_pair_of_first l
