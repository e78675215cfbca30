-- The "&" groups of a model by number, in the order of their ")": those around a place have rising numbers.
use Rattle.std.specs.Prelude.{ℕ, suc, ◌+◌, ◌≤◌, ◌<◌, ◌≡◌, refl, cond, List, [], ◌∷◌, ◌++◌}
use Rattle.std.proofs.Common.{◌∙◌, ap, arith}
use Rattle.basic_laws.specs.Truth.{bool_cases}
use Rattle.model_sets.specs.Sets.{has}
use Rattle.rules.specs.Walk.{Group, place, seq, alt, opt, plus, and, Members, one, also}
use Rattle.and_laws.specs.Levels.{around, around_m}

-- This is how many "&" groups there are; within "+" there is none.
abbrev mutual
  pub count : Group → ℕ
  count (place n) = 0
  count (seq g h) = count g + count h
  count (alt g h) = count g + count h
  count (opt g) = count g
  count (plus g) = 0
  count (and m) = suc (count_m m)

  pub count_m : Members → ℕ
  count_m (one g) = count g
  count_m (also m g) = count_m m + count g

-- A group goes with its number.
pub record Level : Type 0 where
  pub number : ℕ
  pub members : Members

-- These are the groups around u with their numbers, where b groups come before; an inner one comes before those around it.
abbrev mutual
  pub levels : Group → ℕ → ℕ → List Level
  levels (place n) b u = []
  levels (seq g h) b u = cond (has h u) (levels h (b + count g) u) (levels g b u)
  levels (alt g h) b u = cond (has h u) (levels h (b + count g) u) (levels g b u)
  levels (opt g) b u = levels g b u
  levels (plus g) b u = []
  levels (and m) b u = levels_m m b u ++ record { number = suc (b + count_m m); members = m } ∷ []

  pub levels_m : Members → ℕ → ℕ → List Level
  levels_m (one g) b u = levels g b u
  levels_m (also m g) b u = cond (has g u) (levels g (b + count_m m) u) (levels_m m b u)

abbrev pub groups_of : List Level → List Members
groups_of [] = []
groups_of (l ∷ ls) = l.members ∷ groups_of ls

groups_append : (xs : List Level) (l : Level) → groups_of (xs ++ l ∷ []) ≡ groups_of xs ++ l.members ∷ []
groups_append [] l = refl
groups_append (x ∷ xs) l = ap (◌∷◌ x.members) (groups_append xs l)

mutual
  -- They are the groups around u.
  pub levels_around : (g : Group) (b u : ℕ) → groups_of (levels g b u) ≡ around g u
  levels_around (place n) b u = refl
  levels_around (seq g h) b u = bool_cases (has h u) (λ j. rw j (levels_around h (b + count g) u)) (λ j. rw j (levels_around g b u))
  levels_around (alt g h) b u = bool_cases (has h u) (λ j. rw j (levels_around h (b + count g) u)) (λ j. rw j (levels_around g b u))
  levels_around (opt g) b u = levels_around g b u
  levels_around (plus g) b u = refl
  levels_around (and m) b u = groups_append (levels_m m b u) _ ∙ ap (λ (z : List Members). z ++ m ∷ []) (levels_m_around m b u)

  levels_m_around : (m : Members) (b u : ℕ) → groups_of (levels_m m b u) ≡ around_m m u
  levels_m_around (one g) b u = levels_around g b u
  levels_m_around (also m g) b u = bool_cases (has g u) (λ j. rw j (levels_around g (b + count_m m) u)) (λ j. rw j (levels_m_around m b u))

-- Every number is above a and at most c, and they rise.
abbrev pub Rising : ℕ → ℕ → List Level → Type 0
Rising a c [] = a ≤ c
Rising a c (l ∷ ls) = (a < l.number) × Rising l.number c ls

rising_wide : (a d c e : ℕ) (ls : List Level) → a ≤ d → c ≤ e → Rising d c ls → Rising a e ls
rising_wide a d c e [] x y r = omega arith
rising_wide a d c e (l ∷ ls) x y (i, r) = (omega arith, rising_wide l.number l.number c e ls (omega arith) y r)

rising_append : (a c n : ℕ) (m : Members) (ls : List Level) → c < n → Rising a c ls → Rising a n (ls ++ record { number = n; members = m } ∷ [])
rising_append a c n m [] x r = (omega arith, omega arith)
rising_append a c n m (l ∷ ls) x (i, r) = (i, rising_append l.number c n m ls x r)

mutual
  pub levels_rise : (g : Group) (b u : ℕ) → Rising b (b + count g) (levels g b u)
  levels_rise (place n) b u = omega arith
  levels_rise (seq g h) b u =
      bool_cases
      (has h u)
      (λ j. rw j (rising_wide b (b + count g) (b + count g + count h) (b + (count g + count h)) (levels h (b + count g) u) (omega arith) (omega arith) (levels_rise h (b + count g) u)))
      (λ j. rw j (rising_wide b b (b + count g) (b + (count g + count h)) (levels g b u) (omega arith) (omega arith) (levels_rise g b u)))
  levels_rise (alt g h) b u =
      bool_cases
      (has h u)
      (λ j. rw j (rising_wide b (b + count g) (b + count g + count h) (b + (count g + count h)) (levels h (b + count g) u) (omega arith) (omega arith) (levels_rise h (b + count g) u)))
      (λ j. rw j (rising_wide b b (b + count g) (b + (count g + count h)) (levels g b u) (omega arith) (omega arith) (levels_rise g b u)))
  levels_rise (opt g) b u = levels_rise g b u
  levels_rise (plus g) b u = omega arith
  levels_rise (and m) b u = rising_wide b b (suc (b + count_m m)) (b + suc (count_m m)) (levels (and m) b u) (omega arith) (omega arith) (rising_append b (b + count_m m) (suc (b + count_m m)) m (levels_m m b u) (omega arith) (levels_m_rise m b u))

  levels_m_rise : (m : Members) (b u : ℕ) → Rising b (b + count_m m) (levels_m m b u)
  levels_m_rise (one g) b u = levels_rise g b u
  levels_m_rise (also m g) b u =
      bool_cases
      (has g u)
      (λ j. rw j (rising_wide b (b + count_m m) (b + count_m m + count g) (b + (count_m m + count g)) (levels g (b + count_m m) u) (omega arith) (omega arith) (levels_rise g (b + count_m m) u)))
      (λ j. rw j (rising_wide b b (b + count_m m) (b + (count_m m + count g)) (levels_m m b u) (omega arith) (omega arith) (levels_m_rise m b u)))
