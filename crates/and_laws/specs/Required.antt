-- RequiredBy, with the clause of request twelve, as a fold, exact over walks.
use Rattle.std.specs.Prelude.{ℕ, ◌≡◌, refl, Bool, true, false, ◌&&◌, ◌||◌, not, ◌⊎◌, ◌↔◌, eqb}
use Rattle.std.proofs.Common.{sym, ◌∙◌, subst, inl, inr, eqb-true, eq-eqb}
use Rattle.std.proofs.lemmas.Bool.{false≢true}
use mathlib.Core.List.Memᴰ
use mathlib.Core.List.{List, [], ◌∷◌, ◌++◌, Memᴰ}
use Rattle.basic_laws.specs.Truth.{or_left, or_right, or_cases, and_left, and_right, and_both, not_true, not_both, bool_cases}
use Rattle.model_sets.specs.Sets.{has, has_m, first}
use Rattle.rules.specs.Walk.{Group, place, seq, alt, opt, plus, and, Members, one, also, Walk, Begins, MayComeNext, IsMember}
use Rattle.and_laws.specs.Base.{mem, Ends}
use Rattle.and_laws.specs.Sets.{held, meets, Good, meets_common, common_meets, held_has}
use Rattle.and_laws.specs.Left.{Agrees}
use Rattle.and_laws.specs.Rest.{any_m}
use Rattle.and_laws.specs.Decide.{passes, fit, passes_after, next_fold, required_first_fold, next_start, required_first_start}

-- "A place is required if it may come next and every walk that continues the places taken passes it from here on."
abbrev pub Forced : Group → List ℕ → ℕ → Type 0
Forced g s p = MayComeNext g s p × ((t : List ℕ) → Walk g (s ++ t) → Memᴰ p t)

-- The group h is another member of an "&" group in which a member has p.
abbrev mutual
  pub Other : Group → ℕ → Group → Type 0
  Other (place n) p h = ⊥
  Other (seq g k) p h = Other g p h ⊎ Other k p h
  Other (alt g k) p h = Other g p h ⊎ Other k p h
  Other (opt g) p h = Other g p h
  Other (plus g) p h = Other g p h
  Other (and m) p h = OtherM m p h

  pub OtherM : Members → ℕ → Group → Type 0
  OtherM (one g) p h = Other g p h
  OtherM (also m g) p h = (OtherM m p h ⊎ Other g p h) ⊎ (((has g p ≡ true) × IsMember m h) ⊎ ((has_m m p ≡ true) × (h ≡ g)))

-- The member has not begun: no place of it is taken.
abbrev pub Unbegun : Group → List ℕ → Type 0
Unbegun h s = meets h (mem s) ≡ false

-- "No place in a member of an "&" group is required while another member may still begin": none of its places was taken, and one may come next.
abbrev pub RequiredBy : Group → List ℕ → ℕ → Type 0
RequiredBy g s p = Forced g s p × ((h : Group) → Other g p h → Unbegun h s → (q : ℕ) → has h q ≡ true → MayComeNext g s q → ⊥)

-- Some other member passes the test.
abbrev mutual
  pub hinders : (Group → Bool) → Group → ℕ → Bool
  hinders t (place n) p = false
  hinders t (seq g k) p = hinders t g p || hinders t k p
  hinders t (alt g k) p = hinders t g p || hinders t k p
  hinders t (opt g) p = hinders t g p
  hinders t (plus g) p = hinders t g p
  hinders t (and m) p = hinders_m t m p

  pub hinders_m : (Group → Bool) → Members → ℕ → Bool
  hinders_m t (one g) p = hinders t g p
  hinders_m t (also m g) p = (hinders_m t m p || hinders t g p) || ((has g p && any_m t m) || (has_m m p && t g))

pub any_member : (t : Group → Bool) (m : Members) → any_m t m ≡ true → (h : Group) × IsMember m h × (t h ≡ true)
any_member t (one g) e = (g, refl, e)
any_member t (also m g) e = or_cases (any_m t m) _ (λ i. let (h, x, y) = any_member t m i in (h, inl x, y)) (λ i. (g, inr refl, i)) e

-- A place of a member is one of the members'.
pub member_has : (m : Members) (h : Group) (q : ℕ) → IsMember m h → has h q ≡ true → has_m m q ≡ true
member_has (one g) h q i e = subst (λ (k : Group). has k q ≡ true) i e
member_has (also m g) h q (inl i) e = or_left _ (member_has m h q i e)
member_has (also m g) h q (inr i) e = or_right (has_m m q) (subst (λ (k : Group). has k q ≡ true) i e)

mutual
  pub other_held : (g : Group) (p : ℕ) (h : Group) (q : ℕ) → Other g p h → has h q ≡ true → held g q ≡ true
  other_held (place n) p h q o e = absurd o
  other_held (seq g k) p h q (inl o) e = or_left _ (other_held g p h q o e)
  other_held (seq g k) p h q (inr o) e = or_right (held g q) (other_held k p h q o e)
  other_held (alt g k) p h q (inl o) e = or_left _ (other_held g p h q o e)
  other_held (alt g k) p h q (inr o) e = or_right (held g q) (other_held k p h q o e)
  other_held (opt g) p h q o e = other_held g p h q o e
  other_held (plus g) p h q o e = other_held g p h q o e
  other_held (and m) p h q o e = other_m_has m p h q o e

  pub other_m_has : (m : Members) (p : ℕ) (h : Group) (q : ℕ) → OtherM m p h → has h q ≡ true → has_m m q ≡ true
  other_m_has (one g) p h q o e = held_has g q (other_held g p h q o e)
  other_m_has (also m g) p h q (inl (inl o)) e = or_left _ (other_m_has m p h q o e)
  other_m_has (also m g) p h q (inl (inr o)) e = or_right (has_m m q) (held_has g q (other_held g p h q o e))
  other_m_has (also m g) p h q (inr (inl (i, o))) e = or_left _ (member_has m h q o e)
  other_m_has (also m g) p h q (inr (inr (i, o))) e = or_right (has_m m q) (subst (λ (k : Group). has k q ≡ true) o e)

-- The fold goes by the last place and the set of the places taken.

abbrev pub ready : (ℕ → Bool) → (ℕ → Bool) → Group → Bool
ready S N h = not (meets h S) && meets h N

abbrev pub required : Group → ℕ → (ℕ → Bool) → ℕ → Bool
required g u S p = (fit g u S p && passes_after g u S p) && not (hinders (ready S (fit g u S)) g p)

pub mem_memᴰ : (t : List ℕ) (p : ℕ) → mem t p ≡ true → Memᴰ p t
mem_memᴰ [] p e = absurd (false≢true e)
mem_memᴰ (q ∷ t) p e = or_cases (eqb q p) _ (λ i. Memᴰ.head (sym (eqb-true q p i))) (λ i. Memᴰ.tail (mem_memᴰ t p i)) e

pub memᴰ-mem : (t : List ℕ) (p : ℕ) → Memᴰ p t → mem t p ≡ true
memᴰ-mem [] p m = absurd (Memᴰ.not-nil m)
memᴰ-mem (q ∷ t) p m = go (Memᴰ.cases_cons m) (memᴰ-mem t p)
  where
    go : (p ≡ q) ⊎ Memᴰ p t → (Memᴰ p t → mem t p ≡ true) → mem (q ∷ t) p ≡ true
    go (inl e) f = or_left _ (eq-eqb q p (sym e))
    go (inr m) f = or_right (eqb q p) (f m)

module _ (g : Group) (good : Good g) (u : ℕ) (S : ℕ → Bool) (s : List ℕ) (e : Ends s u) (agree : Agrees (held g) s S) (begun : Begins g s) (p : ℕ) where
  -- Another member has begun by S exactly if by s.
  pub same_begun : (h : Group) → Other g p h → meets h S ≡ meets h (mem s)
  same_begun h o =
      bool_cases
      (meets h S)
      (λ i. let (q, x, y) = meets_common h S i in i ∙ sym (common_meets h (mem s) q x ((agree q (other_held g p h q o x)).0 y)))
      (λ i. i ∙ sym (not_true (meets h (mem s)) (λ j. let (q, x, y) = meets_common h (mem s) j in not_both i (common_meets h S q x ((agree q (other_held g p h q o x)).1 y)))))

  pub forced_fold : (fit g u S p && passes_after g u S p ≡ true) ↔ Forced g s p
  forced_fold = (
    λ i. ((next_fold g good u S s e agree begun p).0 (and_left (fit g u S p) _ i), λ t w. mem_memᴰ t p ((required_first_fold g good u S s e agree begun p).0 (and_right (fit g u S p) _ i) t w)),
    λ (x, f). and_both ((next_fold g good u S s e agree begun p).1 x) ((required_first_fold g good u S s e agree begun p).1 (λ t w. memᴰ-mem t p (f t w))),
  )

module _ (g : Group) (p : ℕ) where
  pub none_begun : (h : Group) → Unbegun h []
  none_begun h = not_true (meets h (mem [])) (λ i. let (q, x, y) = meets_common h (mem []) i in false≢true y)

  pub forced_start : (first g p && passes g p ≡ true) ↔ Forced g [] p
  forced_start = (
    λ i. ((next_start g p).0 (and_left (first g p) _ i), λ t w. mem_memᴰ t p ((required_first_start g p).0 (and_right (first g p) _ i) t w)),
    λ (x, f). and_both ((next_start g p).1 x) ((required_first_start g p).1 (λ t w. memᴰ-mem t p (f t w))),
  )
