-- Which places can begin a group, end it, follow one another or are required, by recursion on the group. Of an "&" group this is what can be for some beginning that
-- ends in a place: what has begun of it takes more away (and_laws).
use Rattle.std.specs.Prelude.{ℕ, zero, suc, ◌+◌, ◌≡◌, Bool, true, false, ◌&&◌, ◌||◌, not, cond, eqb}
use Rattle.rules.specs.Walk.{Group, place, seq, alt, opt, plus, and, Members, one, also}

-- This is how many places a group has.
abbrev mutual
  pub size : Group → ℕ
  size (place n) = 1
  size (seq g h) = size g + size h
  size (alt g h) = size g + size h
  size (opt g) = size g
  size (plus g) = size g
  size (and m) = size_m m

  pub size_m : Members → ℕ
  size_m (one g) = size g
  size_m (also m g) = size_m m + size g

-- This is how many members there are.
abbrev pub amount : Members → ℕ
amount (one g) = 1
amount (also m g) = amount m + 1

-- The places of a group are numbered from `lo`, left to right.
abbrev mutual
  pub Numbered : Group → ℕ → Type 0
  Numbered (place n) lo = n ≡ lo
  Numbered (seq g h) lo = Numbered g lo × Numbered h (lo + size g)
  Numbered (alt g h) lo = Numbered g lo × Numbered h (lo + size g)
  Numbered (opt g) lo = Numbered g lo
  Numbered (plus g) lo = Numbered g lo
  Numbered (and m) lo = NumberedM m lo

  pub NumberedM : Members → ℕ → Type 0
  NumberedM (one g) lo = Numbered g lo
  NumberedM (also m g) lo = NumberedM m lo × Numbered g (lo + size_m m)

abbrev mutual
  pub has : Group → ℕ → Bool
  has (place n) p = eqb n p
  has (seq g h) p = has g p || has h p
  has (alt g h) p = has g p || has h p
  has (opt g) p = has g p
  has (plus g) p = has g p
  has (and m) p = has_m m p

  pub has_m : Members → ℕ → Bool
  has_m (one g) p = has g p
  has_m (also m g) p = has_m m p || has g p

-- The group has a walk of no place.
abbrev mutual
  pub nullable : Group → Bool
  nullable (place n) = false
  nullable (seq g h) = nullable g && nullable h
  nullable (alt g h) = nullable g || nullable h
  nullable (opt g) = true
  nullable (plus g) = nullable g
  nullable (and m) = nullable_m m

  pub nullable_m : Members → Bool
  nullable_m (one g) = nullable g
  nullable_m (also m g) = nullable_m m && nullable g

-- The place can begin a walk.
abbrev mutual
  pub first : Group → ℕ → Bool
  first (place n) p = eqb n p
  first (seq g h) p = first g p || (nullable g && first h p)
  first (alt g h) p = first g p || first h p
  first (opt g) p = first g p
  first (plus g) p = first g p
  first (and m) p = first_m m p

  pub first_m : Members → ℕ → Bool
  first_m (one g) p = first g p
  first_m (also m g) p = first_m m p || first g p

-- The place can end a walk.
abbrev mutual
  pub last : Group → ℕ → Bool
  last (place n) p = eqb n p
  last (seq g h) p = last h p || (nullable h && last g p)
  last (alt g h) p = last g p || last h p
  last (opt g) p = last g p
  last (plus g) p = last g p
  last (and m) p = last_m m p

  pub last_m : Members → ℕ → Bool
  last_m (one g) p = last g p
  last_m (also m g) p = last_m m p || last g p

-- The place p can stand directly after u in a walk.
abbrev mutual
  pub follow : Group → ℕ → ℕ → Bool
  follow (place n) u p = false
  follow (seq g h) u p = follow g u p || (follow h u p || (last g u && first h p))
  follow (alt g h) u p = follow g u p || follow h u p
  follow (opt g) u p = follow g u p
  follow (plus g) u p = follow g u p || (last g u && first g p)
  follow (and m) u p = follow_m m u p

  pub follow_m : Members → ℕ → ℕ → Bool
  follow_m (one g) u p = follow g u p
  follow_m (also m g) u p = (follow_m m u p || follow g u p) || ((last_m m u && first g p) || (last g u && first_m m p))

-- This is the place required at the start, and 0 if there is none.
abbrev mutual
  pub required_first : Group → ℕ
  required_first (place n) = n
  required_first (seq g h) = cond (nullable g) (required_first h) (required_first g)
  required_first (alt g h) = 0
  required_first (opt g) = 0
  required_first (plus g) = required_first g
  required_first (and m) = required_first_m m

  pub required_first_m : Members → ℕ
  required_first_m (one g) = required_first g
  required_first_m (also m g) = 0

-- This is the place that would be required once u was the last taken, were every "&" group around u whole, and 0 if there is none.
abbrev mutual
  pub required_after : Group → ℕ → ℕ
  required_after (place n) u = 0
  required_after (seq g h) u = cond (has h u) (required_after h u) (cond (last g u && not (nullable h)) (required_first h) (required_after g u))
  required_after (alt g h) u = cond (has h u) (required_after h u) (required_after g u)
  required_after (opt g) u = required_after g u
  required_after (plus g) u = required_after g u
  required_after (and m) u = required_after_m m u

  pub required_after_m : Members → ℕ → ℕ
  required_after_m (one g) u = required_after g u
  required_after_m (also m g) u = cond (has g u) (required_after g u) (required_after_m m u)

-- The three as rows: row 0 is the start, row u > 0 is after the place u.
abbrev pub next_in : Group → ℕ → ℕ → Bool
next_in g zero p = first g p
next_in g (suc u) p = follow g (suc u) p

abbrev pub complete_in : Group → ℕ → Bool
complete_in g zero = nullable g
complete_in g (suc u) = last g (suc u)

abbrev pub required_in : Group → ℕ → ℕ
required_in g zero = required_first g
required_in g (suc u) = required_after g (suc u)
