-- The "&" groups of a model: a number has one group, and a group that has a place is one of those around it.
use Rattle.std.specs.Prelude.{ℕ, suc, ◌+◌, ◌≤◌, ◌<◌, ◌≡◌, refl, true, false, ◌⊎◌, List, [], ◌∷◌, ◌++◌}
use Rattle.std.proofs.Common.{sym, ◌∙◌, subst, inl, inr, arith}
use Rattle.rules.specs.Walk.{Group, place, seq, alt, opt, plus, and, Members, one, also}
use Rattle.basic_laws.specs.Truth.{or_left, or_right, not_true, bool_cases}
use Rattle.model_sets.specs.Sets.{has, has_m}
use Rattle.and_laws.specs.Sets.{Plain, Good, GoodM}
use Rattle.and_laws.specs.Decide.{or_only}
use Rattle.and_laws.specs.Ranked.{count, count_m, Level, levels, levels_m}

-- The group is one of the model's, where b groups come before.
abbrev mutual
  pub IsLevel : Group → ℕ → Level → Type 0
  IsLevel (place n) b l = ⊥
  IsLevel (seq g h) b l = IsLevel g b l ⊎ IsLevel h (b + count g) l
  IsLevel (alt g h) b l = IsLevel g b l ⊎ IsLevel h (b + count g) l
  IsLevel (opt g) b l = IsLevel g b l
  IsLevel (plus g) b l = ⊥
  IsLevel (and m) b l = IsLevelM m b l ⊎ ((l.number ≡ suc (b + count_m m)) × (l.members ≡ m))

  pub IsLevelM : Members → ℕ → Level → Type 0
  IsLevelM (one g) b l = IsLevel g b l
  IsLevelM (also m g) b l = IsLevelM m b l ⊎ IsLevel g (b + count_m m) l

mutual
  level_range : (g : Group) (b : ℕ) (l : Level) → IsLevel g b l → (b < l.number) × (l.number ≤ b + count g)
  level_range (place n) b l i = absurd i
  level_range (seq g h) b l (inl i) = omega (arith, level_range g b l i)
  level_range (seq g h) b l (inr i) = omega (arith, level_range h (b + count g) l i)
  level_range (alt g h) b l (inl i) = omega (arith, level_range g b l i)
  level_range (alt g h) b l (inr i) = omega (arith, level_range h (b + count g) l i)
  level_range (opt g) b l i = level_range g b l i
  level_range (plus g) b l i = absurd i
  level_range (and m) b l (inl i) = omega (arith, level_m_range m b l i)
  level_range (and m) b l (inr (e, d)) = omega arith

  level_m_range : (m : Members) (b : ℕ) (l : Level) → IsLevelM m b l → (b < l.number) × (l.number ≤ b + count_m m)
  level_m_range (one g) b l i = level_range g b l i
  level_m_range (also m g) b l (inl i) = omega (arith, level_m_range m b l i)
  level_m_range (also m g) b l (inr i) = omega (arith, level_range g (b + count_m m) l i)

mutual
  -- Two groups of one number are the same.
  pub level_once : (g : Group) (b : ℕ) (l k : Level) → IsLevel g b l → IsLevel g b k → l.number ≡ k.number → l.members ≡ k.members
  level_once (place n) b l k i j e = absurd i
  level_once (seq g h) b l k (inl i) (inl j) e = level_once g b l k i j e
  level_once (seq g h) b l k (inl i) (inr j) e = absurd (omega (arith, level_range g b l i, level_range h (b + count g) k j))
  level_once (seq g h) b l k (inr i) (inl j) e = absurd (omega (arith, level_range h (b + count g) l i, level_range g b k j))
  level_once (seq g h) b l k (inr i) (inr j) e = level_once h (b + count g) l k i j e
  level_once (alt g h) b l k (inl i) (inl j) e = level_once g b l k i j e
  level_once (alt g h) b l k (inl i) (inr j) e = absurd (omega (arith, level_range g b l i, level_range h (b + count g) k j))
  level_once (alt g h) b l k (inr i) (inl j) e = absurd (omega (arith, level_range h (b + count g) l i, level_range g b k j))
  level_once (alt g h) b l k (inr i) (inr j) e = level_once h (b + count g) l k i j e
  level_once (opt g) b l k i j e = level_once g b l k i j e
  level_once (plus g) b l k i j e = absurd i
  level_once (and m) b l k (inl i) (inl j) e = level_m_once m b l k i j e
  level_once (and m) b l k (inl i) (inr (x, y)) e = absurd (omega (arith, level_m_range m b l i))
  level_once (and m) b l k (inr (x, y)) (inl j) e = absurd (omega (arith, level_m_range m b k j))
  level_once (and m) b l k (inr (x, y)) (inr (v, w)) e = y ∙ sym w

  level_m_once : (m : Members) (b : ℕ) (l k : Level) → IsLevelM m b l → IsLevelM m b k → l.number ≡ k.number → l.members ≡ k.members
  level_m_once (one g) b l k i j e = level_once g b l k i j e
  level_m_once (also m g) b l k (inl i) (inl j) e = level_m_once m b l k i j e
  level_m_once (also m g) b l k (inl i) (inr j) e = absurd (omega (arith, level_m_range m b l i, level_range g (b + count_m m) k j))
  level_m_once (also m g) b l k (inr i) (inl j) e = absurd (omega (arith, level_range g (b + count_m m) l i, level_m_range m b k j))
  level_m_once (also m g) b l k (inr i) (inr j) e = level_once g (b + count_m m) l k i j e

mutual
  -- Their places are the model's.
  pub level_has : (g : Group) (b : ℕ) (l : Level) → IsLevel g b l → (q : ℕ) → has_m l.members q ≡ true → has g q ≡ true
  level_has (place n) b l i q h = absurd i
  level_has (seq g h) b l (inl i) q x = or_left _ (level_has g b l i q x)
  level_has (seq g h) b l (inr i) q x = or_right (has g q) (level_has h (b + count g) l i q x)
  level_has (alt g h) b l (inl i) q x = or_left _ (level_has g b l i q x)
  level_has (alt g h) b l (inr i) q x = or_right (has g q) (level_has h (b + count g) l i q x)
  level_has (opt g) b l i q x = level_has g b l i q x
  level_has (plus g) b l i q x = absurd i
  level_has (and m) b l (inl i) q x = level_m_has m b l i q x
  level_has (and m) b l (inr (e, d)) q x = rw d at x

  level_m_has : (m : Members) (b : ℕ) (l : Level) → IsLevelM m b l → (q : ℕ) → has_m l.members q ≡ true → has_m m q ≡ true
  level_m_has (one g) b l i q x = level_has g b l i q x
  level_m_has (also m g) b l (inl i) q x = or_left _ (level_m_has m b l i q x)
  level_m_has (also m g) b l (inr i) q x = or_right (has_m m q) (level_has g (b + count_m m) l i q x)

mutual
  pub level_good : (g : Group) (b : ℕ) (l : Level) → IsLevel g b l → Good g → GoodM l.members
  level_good (place n) b l i d = absurd i
  level_good (seq g h) b l (inl i) (d, k, a) = level_good g b l i d
  level_good (seq g h) b l (inr i) (d, k, a) = level_good h (b + count g) l i k
  level_good (alt g h) b l (inl i) (d, k, a) = level_good g b l i d
  level_good (alt g h) b l (inr i) (d, k, a) = level_good h (b + count g) l i k
  level_good (opt g) b l i d = level_good g b l i d
  level_good (plus g) b l i d = absurd i
  level_good (and m) b l (inl i) d = level_m_good m b l i d
  level_good (and m) b l (inr (e, z)) d = subst GoodM (sym z) d

  level_m_good : (m : Members) (b : ℕ) (l : Level) → IsLevelM m b l → GoodM m → GoodM l.members
  level_m_good (one g) b l i d = level_good g b l i d
  level_m_good (also m g) b l (inl i) (d, k, a) = level_m_good m b l i d
  level_m_good (also m g) b l (inr i) (d, k, a) = level_good g (b + count_m m) l i k

-- These laws are of the groups around a place.

-- P holds of each of them.
abbrev pub EachLevel : (Level → Type 0) → List Level → Type 0
EachLevel P [] = true ≡ true
EachLevel P (l ∷ ls) = P l × EachLevel P ls

pub each_level : (P Q : Level → Type 0) → ((l : Level) → P l → Q l) → (ls : List Level) → EachLevel P ls → EachLevel Q ls
each_level P Q f [] x = refl
each_level P Q f (l ∷ ls) (x, y) = (f l x, each_level P Q f ls y)

each_append : (P : Level → Type 0) (ls : List Level) (l : Level) → EachLevel P ls → P l → EachLevel P (ls ++ l ∷ [])
each_append P [] l x y = (y, refl)
each_append P (k ∷ ls) l (v, x) y = (v, each_append P ls l x y)

-- It is one of the model's, and has the place.
abbrev pub IsAround : Group → ℕ → ℕ → Level → Type 0
IsAround g b u l = IsLevel g b l × (has_m l.members u ≡ true)

mutual
  pub levels_are : (g : Group) (b u : ℕ) → has g u ≡ true → EachLevel (IsAround g b u) (levels g b u)
  levels_are (place n) b u i = refl
  levels_are (seq g h) b u i =
      bool_cases
      (has h u)
      (λ j. rw j (each_level (IsAround h (b + count g) u) (IsAround (seq g h) b u) (λ l x. (inr x.0, x.1)) (levels h (b + count g) u) (levels_are h (b + count g) u j)))
      (λ j. rw j (each_level (IsAround g b u) (IsAround (seq g h) b u) (λ l x. (inl x.0, x.1)) (levels g b u) (levels_are g b u (or_only (has g u) (has h u) j i))))
  levels_are (alt g h) b u i =
      bool_cases
      (has h u)
      (λ j. rw j (each_level (IsAround h (b + count g) u) (IsAround (alt g h) b u) (λ l x. (inr x.0, x.1)) (levels h (b + count g) u) (levels_are h (b + count g) u j)))
      (λ j. rw j (each_level (IsAround g b u) (IsAround (alt g h) b u) (λ l x. (inl x.0, x.1)) (levels g b u) (levels_are g b u (or_only (has g u) (has h u) j i))))
  levels_are (opt g) b u i = levels_are g b u i
  levels_are (plus g) b u i = refl
  levels_are (and m) b u i =
      each_append
      (IsAround (and m) b u)
      (levels_m m b u)
      (record { number = suc (b + count_m m); members = m })
      (each_level (λ (l : Level). IsLevelM m b l × (has_m l.members u ≡ true)) (IsAround (and m) b u) (λ l x. (inl x.0, x.1)) (levels_m m b u) (levels_m_are m b u i))
      (inr (refl, refl), i)

  levels_m_are : (m : Members) (b u : ℕ) → has_m m u ≡ true → EachLevel (λ (l : Level). IsLevelM m b l × (has_m l.members u ≡ true)) (levels_m m b u)
  levels_m_are (one g) b u i = levels_are g b u i
  levels_m_are (also m g) b u i =
      bool_cases
      (has g u)
      (λ j. rw j (each_level (IsAround g (b + count_m m) u) (λ (l : Level). IsLevelM (also m g) b l × (has_m l.members u ≡ true)) (λ l x. (inr x.0, x.1)) (levels g (b + count_m m) u) (levels_are g (b + count_m m) u j)))
      (λ j. rw j (each_level (λ (l : Level). IsLevelM m b l × (has_m l.members u ≡ true)) (λ (l : Level). IsLevelM (also m g) b l × (has_m l.members u ≡ true)) (λ l x. (inl x.0, x.1)) (levels_m m b u) (levels_m_are m b u (or_only (has_m m u) (has g u) j i))))

-- Each of them has the place u.
abbrev pub Have : ℕ → List Level → Type 0
Have u ls = EachLevel (λ (l : Level). has_m l.members u ≡ true) ls

-- Without "&" there is none.
pub plain_levels : (g : Group) → Plain g → (b u : ℕ) → levels g b u ≡ []
plain_levels (place n) d b u = refl
plain_levels (seq g h) (d, k) b u = bool_cases (has h u) (λ j. rw j (plain_levels h k (b + count g) u)) (λ j. rw j (plain_levels g d b u))
plain_levels (alt g h) (d, k) b u = bool_cases (has h u) (λ j. rw j (plain_levels h k (b + count g) u)) (λ j. rw j (plain_levels g d b u))
plain_levels (opt g) d b u = plain_levels g d b u
plain_levels (plus g) d b u = refl
plain_levels (and m) d b u = absurd d

-- It holds of one of them.
abbrev pub AnyLevel : (Level → Type 0) → List Level → Type 0
AnyLevel P [] = ⊥
AnyLevel P (l ∷ ls) = P l ⊎ AnyLevel P ls

any_append : (P : Level → Type 0) (ls : List Level) (l : Level) → AnyLevel P ls → AnyLevel P (ls ++ l ∷ [])
any_append P [] l x = absurd x
any_append P (k ∷ ls) l (inl x) = inl x
any_append P (k ∷ ls) l (inr x) = inr (any_append P ls l x)

any_last : (P : Level → Type 0) (ls : List Level) (l : Level) → P l → AnyLevel P (ls ++ l ∷ [])
any_last P [] l x = inl x
any_last P (k ∷ ls) l x = inr (any_last P ls l x)

-- It is the same group under the same number.
abbrev pub IsSame : Level → Level → Type 0
IsSame l k = (k.number ≡ l.number) × (k.members ≡ l.members)

mutual
  -- A group that has the place is one of those around it.
  pub level_around : (g : Group) (b : ℕ) (l : Level) → IsLevel g b l → Good g → (p : ℕ) → has_m l.members p ≡ true → AnyLevel (IsSame l) (levels g b p)
  level_around (place n) b l i d p h = absurd i
  level_around (seq g h) b l (inl i) (d, k, a) p x = let j : has h p ≡ false = not_true (has h p) (a p (level_has g b l i p x)) in rw j (level_around g b l i d p x)
  level_around (seq g h) b l (inr i) (d, k, a) p x = let j : has h p ≡ true = level_has h (b + count g) l i p x in rw j (level_around h (b + count g) l i k p x)
  level_around (alt g h) b l (inl i) (d, k, a) p x = let j : has h p ≡ false = not_true (has h p) (a p (level_has g b l i p x)) in rw j (level_around g b l i d p x)
  level_around (alt g h) b l (inr i) (d, k, a) p x = let j : has h p ≡ true = level_has h (b + count g) l i p x in rw j (level_around h (b + count g) l i k p x)
  level_around (opt g) b l i d p x = level_around g b l i d p x
  level_around (plus g) b l i d p x = absurd i
  level_around (and m) b l (inl i) d p x = any_append (IsSame l) (levels_m m b p) _ (level_m_around m b l i d p x)
  level_around (and m) b l (inr (e, f)) d p x = any_last (IsSame l) (levels_m m b p) (record { number = suc (b + count_m m); members = m }) (sym e, sym f)

  level_m_around : (m : Members) (b : ℕ) (l : Level) → IsLevelM m b l → GoodM m → (p : ℕ) → has_m l.members p ≡ true → AnyLevel (IsSame l) (levels_m m b p)
  level_m_around (one g) b l i d p x = level_around g b l i d p x
  level_m_around (also m g) b l (inl i) (d, k, a) p x = let j : has g p ≡ false = not_true (has g p) (a p (level_m_has m b l i p x)) in rw j (level_m_around m b l i d p x)
  level_m_around (also m g) b l (inr i) (d, k, a) p x = let j : has g p ≡ true = level_has g (b + count_m m) l i p x in rw j (level_around g (b + count_m m) l i k p x)
