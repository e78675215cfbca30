-- The members of a model's "&" groups by number, as the table of a type has them (`Told`), and which of them have begun (`Standing`). The crates member_table and
-- member_sets fill the table, and_groups and and_next ask it.
use Rattle.std.specs.Prelude.{ℕ, ◌+◌, ◌-◌, ◌*◌, ◌/◌, ◌%◌, ◌^◌, ◌≤◌, ◌<◌, ◌≡◌, Bool, true, false, ◌&&◌, ◌||◌, cond, ◌⊎◌, List, [], ◌∷◌, length, get_or, eqb, ltb, leb}
use Rattle.rules.specs.Bytes.{GRPCNT}
use Rattle.rules.specs.Walk.{Group, place, seq, alt, opt, plus, and, Members, one, also}
use Rattle.layout.specs.Sizes.{POSITIONS, AND_GROUPS, GROUP, REACHES, NEEDED, MEMBER_BITS, SETS, MEMBER, MEMBERS, BEGUN_WORDS, ENDING}
use Rattle.model_sets.specs.Sets.{has, nullable, last_m, required_first, amount}
use Rattle.and_laws.specs.Base.{mem}
use Rattle.and_laws.specs.Sets.{meets}
use Rattle.and_laws.specs.Ranked.{Level, levels}
use Rattle.and_laws.specs.Taken.{IsLast}

-- Members have numbers.

-- How many members cannot be nothing, and how many can.
abbrev pub needs : Members → ℕ
needs (one g) = cond (nullable g) 0 1
needs (also m g) = needs m + cond (nullable g) 0 1

abbrev pub spares : Members → ℕ
spares (one g) = cond (nullable g) 1 0
spares (also m g) = spares m + cond (nullable g) 1 0

-- Members are numbered from `first`, those that cannot be nothing before the others: the number of g, before which n cannot be nothing and k can.
abbrev pub number_for : (first needed n k : ℕ) → Group → ℕ
number_for first needed n k g = cond (nullable g) (first + needed + k) (first + n)

-- This is the number of the member that has the place u.
abbrev pub number_in : (first needed : ℕ) → Members → ℕ → ℕ
number_in first needed (one g) u = number_for first needed 0 0 g
number_in first needed (also m g) u = cond (has g u) (number_for first needed (needs m) (spares m) g) (number_in first needed m u)

-- P holds of each member and its number.
abbrev pub Each : (ℕ → Group → Type 0) → (first needed : ℕ) → Members → Type 0
Each P first needed (one g) = P (number_for first needed 0 0 g) g
Each P first needed (also m g) = Each P first needed m × P (number_for first needed (needs m) (spares m) g) g

-- How large groups may be: every "&" group has two to 32 members, and there are at most so many in all.

abbrev mutual
  pub total : Group → ℕ
  total (place n) = 0
  total (seq g h) = total g + total h
  total (alt g h) = total g + total h
  total (opt g) = total g
  total (plus g) = total g
  total (and m) = total_m m + amount m

  pub total_m : Members → ℕ
  total_m (one g) = total g
  total_m (also m g) = total_m m + total g

abbrev mutual
  pub Sized : Group → Type 0
  Sized (place n) = n ≡ n
  Sized (seq g h) = Sized g × Sized h
  Sized (alt g h) = Sized g × Sized h
  Sized (opt g) = Sized g
  Sized (plus g) = Sized g
  Sized (and m) = SizedM m × (2 ≤ amount m) × (amount m ≤ GRPCNT)

  pub SizedM : Members → Type 0
  SizedM (one g) = Sized g
  SizedM (also m g) = SizedM m × Sized g

-- The table keeps numbers for each element.

-- Whether the bit of the member h is set among those that stand from i on.
abbrev pub bit_at : (M : List ℕ) (i h : ℕ) → Bool
bit_at M i h = eqb (get_or M (i + (h - 1) / 8) 0 / 2 ^ ((h - 1) % 8) % 2) 1

module _ (M : List ℕ) (e : ℕ) where
  -- The innermost member that holds the place p, and `ENDING` more where p can end it; 0 if none does.
  abbrev pub holder_at : ℕ → ℕ
  holder_at p = get_or M (e * MEMBER + p) 0

  -- The group of the member h, and the place that this member requires at its start, or 0.
  abbrev pub group_at : ℕ → ℕ
  group_at h = get_or M (e * MEMBER + POSITIONS + h) 0

  abbrev pub due_at : ℕ → ℕ
  due_at h = get_or M (e * MEMBER + 2 * POSITIONS + h) 0

  -- Of the group n the first member, how many cannot be nothing, how many there are, and the innermost member that holds it, with `ENDING` more where that
  -- can end with the group.
  abbrev pub record_at : ℕ → ℕ
  record_at n = e * MEMBER + 3 * POSITIONS + n * GROUP

  abbrev pub first_at : ℕ → ℕ
  first_at n = get_or M (record_at n) 0

  abbrev pub needed_at : ℕ → ℕ
  needed_at n = get_or M (record_at n + 1) 0

  abbrev pub size_at : ℕ → ℕ
  size_at n = get_or M (record_at n + 2) 0

  abbrev pub outer_at : ℕ → ℕ
  outer_at n = get_or M (record_at n + 3) 0

  -- The outermost group around the group n that can end with it, each of those between with it.
  abbrev pub reach_at : ℕ → ℕ
  reach_at n = get_or M (e * MEMBER + REACHES + n) 0

  -- The table keeps sets of members.

  -- The member h cannot be nothing; it holds the group n; it is one of the group n or of a group around it.
  abbrev pub is_needed : ℕ → Bool
  is_needed h = bit_at M (e * MEMBER + NEEDED) h

  abbrev pub holds_at : (n h : ℕ) → Bool
  holds_at n h = bit_at M (e * MEMBER + SETS + n * (2 * MEMBER_BITS)) h

  abbrev pub among_at : (n h : ℕ) → Bool
  among_at n h = bit_at M (e * MEMBER + SETS + n * (2 * MEMBER_BITS) + MEMBER_BITS) h

  -- The member h is one of the group n.
  abbrev pub is_own : (n h : ℕ) → Bool
  is_own n h = leb (first_at n) h && ltb h (first_at n + size_at n)

  -- No member holds the group n: it has its own members, and reaches itself.
  pub record Outermost (n : ℕ) : Type 0 where
    pub holds : (h : ℕ) → 1 ≤ h → h < POSITIONS → holds_at n h ≡ false
    pub among : (h : ℕ) → 1 ≤ h → h < POSITIONS → among_at n h ≡ is_own n h
    pub reach : reach_at n ≡ n

  -- The innermost member that holds the group n, `outer`, is one of the group f: it holds n besides those that hold f, the members of n come to those around f, and n
  -- reaches as far as f does where `ends` says that this member can end with n, else itself.
  pub record Within (n outer f : ℕ) (ends : Bool) : Type 0 where
    pub holds : (h : ℕ) → 1 ≤ h → h < POSITIONS → holds_at n h ≡ eqb h outer || holds_at f h
    pub among : (h : ℕ) → 1 ≤ h → h < POSITIONS → among_at n h ≡ is_own n h || among_at f h
    pub reach : reach_at n ≡ cond ends (reach_at f) n

  -- The sets of the group n are those of the group around it with what it adds.
  pub record Around (n : ℕ) : Type 0 where
    pub none : outer_at n % ENDING ≡ 0 → Outermost n
    pub some : 1 ≤ outer_at n % ENDING → outer_at n % ENDING < POSITIONS → n < group_at (outer_at n % ENDING) → group_at (outer_at n % ENDING) ≤ AND_GROUPS → Within n (outer_at n % ENDING) (group_at (outer_at n % ENDING)) (ltb ENDING (outer_at n))

  -- The sets of all groups that have members, and of the members that cannot be nothing.
  pub record AllSets : Type 0 where
    pub around : (n : ℕ) → 1 ≤ n → n ≤ AND_GROUPS → 1 ≤ first_at n → Around n
    pub needed : (h : ℕ) → 1 ≤ h → h < POSITIONS → group_at h ≤ AND_GROUPS → is_needed h ≡ ltb h (first_at (group_at h) + needed_at (group_at h))

  -- Members count in the order of their groups.
  abbrev pub Ordered : Type 0
  Ordered = (n m : ℕ) → 1 ≤ n → n < m → m ≤ AND_GROUPS → 1 ≤ first_at m → first_at n + size_at n ≤ first_at m

  -- What is kept of a group and of its members.
  pub record Grouped (l : Level) : Type 0 where
    pub within : l.number ≤ AND_GROUPS
    pub some : 1 ≤ first_at l.number
    pub room : first_at l.number + amount l.members ≤ POSITIONS
    pub few : amount l.members ≤ GRPCNT
    pub needed : needed_at l.number ≡ needs l.members
    pub size : size_at l.number ≡ amount l.members
    pub members : Each (λ (n : ℕ) (g : Group). (group_at n ≡ l.number) × (due_at n ≡ required_first g)) (first_at l.number) (needs l.members) l.members

  -- From a holder outwards the table has these groups around the place u. Whether a member can end is told as long as u can end those within it.
  abbrev pub Chain : (u : ℕ) (ends : Bool) (holder : ℕ) → List Level → Type 0
  Chain u ends h [] = h ≡ 0
  Chain u ends h (l ∷ ls) =
      Grouped l
      × (flag : Bool)
      × (h ≡ number_in (first_at l.number) (needs l.members) l.members u + cond flag ENDING 0)
      × (ends ≡ true → flag ≡ last_m l.members u)
      × Chain u (ends && last_m l.members u) (outer_at l.number) ls

  -- The table tells the members of the "&" groups of g, the model of the element e.
  pub record Told (g : Group) : Type 0 where
    pub start : holder_at 0 ≡ 0
    pub places : (u : ℕ) → has g u ≡ true → Chain u true (holder_at u) (levels g 0 u)
    pub sets : AllSets
    pub order : Ordered
    pub whole : (u : ℕ) → has g u ≡ true → (levels g 0 u ≡ []) ⊎ (MEMBERS ≤ length M)

-- What has begun is kept by bits.

module _ (begun : List ℕ) (level : ℕ) where
  abbrev pub word_at : ℕ → ℕ
  word_at k = get_or begun (level * BEGUN_WORDS + k) 0

  -- Whether the bit of the member h is set.
  abbrev pub begun_at : ℕ → Bool
  begun_at h = eqb (word_at ((h - 1) / 32) / 2 ^ ((h - 1) % 32) % 2) 1

  module _ (M : List ℕ) (e : ℕ) (S : ℕ → Bool) where
    -- The bits of the group's members are set of which a place was taken.
    abbrev pub Marked : Level → Type 0
    Marked l = Each (λ (n : ℕ) (g : Group). begun_at n ≡ meets g S) (first_at M e l.number) (needs l.members) l.members

    -- In each of these groups the bits are set of the members of which a place was taken.
    abbrev pub AllMarked : List Level → Type 0
    AllMarked [] = true ≡ true
    AllMarked (l ∷ ls) = Marked l × AllMarked ls

  -- The bits of the level are those of the places taken in the element e, whose model is g, after the place u. At its start they are anything.
  pub record Standing (M : List ℕ) (e : ℕ) (g : Group) (u : ℕ) (taken : List ℕ) : Type 0 where
    pub last : IsLast taken u
    pub marked : 1 ≤ u → (p : ℕ) → has g p ≡ true → AllMarked M e (mem taken) (levels g 0 p)

-- The bits of every other level are as they were.
abbrev pub Elsewhere : (level : ℕ) (before after : List ℕ) → Type 0
Elsewhere level before after = (k j : ℕ) → (k ≡ level → ⊥) → j < BEGUN_WORDS → word_at after k j ≡ word_at before k j
