-- The members of an "&" group, put one after the other: what the table then has of each.
use Rattle.std.specs.Prelude.{ℕ, suc, ◌+◌, ◌-◌, ◌*◌, ◌≤◌, ◌<◌, ◌≡◌, refl, Bool, true, false, cond, ◌⊎◌, List, eqb, length, get_or}
use Rattle.std.proofs.Common.{◌∙◌, ap, inl, inr, ⊎_elim, arith, ne_eqb}
use Rattle.std.proofs.Math.Bool.{or-false}
use Rattle.rules.specs.Walk.{Group, Members, one, also}
use Rattle.rules.specs.Bytes.{GRPGTCNT}
use Rattle.layout.specs.Sizes.{POSITIONS, MODEL_ROW, AND_GROUPS, ENDING, REACHES}
use Rattle.basic_laws.specs.Truth.{bool_cases, not_both, or_none, no_from}
use Rattle.model_sets.specs.Sets.{has, has_m, size, size_m, Numbered, NumberedM, nullable, last_m, required_first, amount}
use Rattle.and_laws.specs.Base.{Apart}
use Rattle.and_laws.specs.Sets.{GoodM}
use Rattle.and_laws.specs.Decide.{or_only}
use Rattle.and_laws.specs.Rows.{last_has, last_m_has}
use Rattle.and_laws.specs.Numbers.{has_range}
use Rattle.member_laws.specs.Members.{needs, spares, number_for, number_in, Each}
use Rattle.member_laws.specs.Numbered.{amount_both}
use Rattle.member_entries.specs.Entries.{record_from}
use Rattle.member_entries.specs.Slots.{Slot, Kept, Put, puts}
use Rattle.member_table.specs.declared.Piece.{Piece}
use Rattle.member_table.specs.Filling.{piece_at, needed_in, number_at, other_at, put_one, put_ones}
use Rattle.member_table.specs.Putting.{ones_first, ones_last}
use Rattle.member_table.specs.Beside.{Marks, EachMarks, not_left}
use Rattle.model_sets.specs.Numbering.{size_one, amount_one, has_inside}

-- Pieces lie on the stack.

-- What is on the stack of a group whose places begin at `lo`; the members of a group on the stack.
abbrev pub piece_of : Group → ℕ → Piece
piece_of g lo = record { lo = lo; last = lo + size g - 1; null = nullable g; required = required_first g }

abbrev pub Pieces : List Piece → (first : ℕ) → Members → ℕ → Type 0
Pieces stack first (one g) lo = piece_at stack (first + 0) ≡ piece_of g lo
Pieces stack first (also m g) lo = Pieces stack first m lo × (piece_at stack (first + amount m) ≡ piece_of g (lo + size_m m))

pub amount_size : (m : Members) → amount m ≤ size_m m
amount_size (one g) = size_one g
amount_size (also m g) = omega (arith, amount_size m, size_one g)

module _ (stack : List Piece) (first : ℕ) where
  pub needed_is : (m : Members) (lo : ℕ) → Pieces stack first m lo → needed_in stack first (amount m) ≡ needs m
  needed_is (one g) lo p = ap (λ (a : Piece). 0 + cond a.null 0 1) p ∙ bool_cases (nullable g) (λ e. rw e) (λ e. rw e)
  needed_is (also m g) lo (p, q) =
      let e : amount m + 1 ≡ suc (amount m) = omega arith in
      rw e (ap (λ (n : ℕ). n + cond (piece_at stack (first + amount m)).null 0 1) (needed_is m lo p) ∙ ap (λ (a : Piece). needs m + cond a.null 0 1) q)

  -- The number that the next member gets.
  pub number_is : (own needed : ℕ) (m : Members) (g : Group) (lo : ℕ) → Pieces stack first (also m g) lo → number_at stack first own needed (amount m) ≡ number_for own needed (needs m) (spares m) g
  number_is own needed m g lo (p, q) =
      let e : amount m - needed_in stack first (amount m) ≡ spares m = omega (arith, amount_both m, needed_is m lo p) in
      rw (e, needed_is m lo p) (ap (λ (a : Piece). cond a.null (own + needed + spares m) (own + needs m)) q)

-- Members have numbers.

abbrev pub InRange : (own needed a b n : ℕ) → Type 0
InRange own needed a b n = ((own ≤ n) × (n < own + a)) ⊎ ((own + needed ≤ n) × (n < own + needed + b))

number_range : (own needed a b : ℕ) (g : Group) → InRange own needed (a + cond (nullable g) 0 1) (b + cond (nullable g) 1 0) (number_for own needed a b g)
number_range own needed a b g = bool_cases (nullable g) (λ e. rw e (inr (omega arith, omega arith))) (λ e. rw e (inl (omega arith, omega arith)))

range_one : (own needed : ℕ) (g : Group) → InRange own needed (cond (nullable g) 0 1) (cond (nullable g) 1 0) (number_for own needed 0 0 g)
range_one own needed g = bool_cases (nullable g) (λ e. rw e (inr (omega arith, omega arith))) (λ e. rw e (inl (omega arith, omega arith)))

pub each_map : {P Q : ℕ → Group → Type 0} (own needed : ℕ) (m : Members) → ((n : ℕ) (g : Group) → InRange own needed (needs m) (spares m) n → P n g → Q n g) → Each P own needed m → Each Q own needed m
each_map own needed (one g) f p = f (number_for own needed 0 0 g) g (range_one own needed g) p
each_map own needed (also m g) f (e, p) = (
  each_map own needed m (λ n x r. f n x (⊎_elim (λ i. inl (i.0, omega (arith, i.1))) (λ i. inr (i.0, omega (arith, i.1))) r)) e,
  f (number_for own needed (needs m) (spares m) g) g (number_range own needed (needs m) (spares m) g) p,
)

-- The next number is none of those before.
number_new : (own needed a b : ℕ) (g : Group) (n : ℕ) → a + cond (nullable g) 0 1 ≤ needed → InRange own needed a b n → n ≡ number_for own needed a b g → ⊥
number_new own needed a b g n l (inl (i, j)) = bool_cases (nullable g) (λ e. rw e (λ x. omega (arith, (rw e at l)))) (λ e. rw e (λ x. omega arith))
number_new own needed a b g n l (inr (i, j)) = bool_cases (nullable g) (λ e. rw e (λ x. omega arith)) (λ e. rw e (λ x. omega (arith, (rw e at l))))

pub number_from_lem : (own needed a b : ℕ) (g : Group) → own ≤ number_for own needed a b g
number_from_lem own needed a b g = bool_cases (nullable g) (λ e. rw e (omega arith)) (λ e. rw e (omega arith))

number_to : (own needed a b : ℕ) (g : Group) → a + cond (nullable g) 0 1 ≤ needed → own + needed + (b + cond (nullable g) 1 0) ≤ POSITIONS → number_for own needed a b g ≤ GRPGTCNT
number_to own needed a b g l r = bool_cases (nullable g) (λ e. rw e (omega (arith, (rw e at r)))) (λ e. rw e (omega (arith, (rw e at l), (rw e at r))))

-- The members have been put into a table.

-- This is what the rows of the model's table tell.
abbrev pub rows_of : List ℕ → ℕ → ℕ → Bool
rows_of T u w = eqb (get_or T (u * MODEL_ROW + w) 0) 1

pub record Joined (base : ℕ) (lasts : List ℕ) (groups own needed : ℕ) (m : Members) (M S : List ℕ) : Type 0 where
  pub len : length S ≡ length M
  pub put : (s v : ℕ) → Slot base lasts groups s v → has_m m v ≡ true → get_or M s 0 ≡ 0 → get_or S s 0 ≡ number_in own needed m v + cond (last_m m v) ENDING 0
  pub other : (s v : ℕ) → Slot base lasts groups s v → has_m m v ≡ false → get_or S s 0 ≡ get_or M s 0
  pub kept : Kept base lasts groups M S
  pub each : Each (λ (n : ℕ) (g : Group). (get_or S (base + POSITIONS + n) 0 ≡ groups + 1) × (get_or S (base + 2 * POSITIONS + n) 0 ≡ required_first g)) own needed m
  pub rest :
      (k : ℕ)
      → ((u : ℕ) → u ≤ GRPGTCNT → k ≡ base + u → ⊥)
      → ((n : ℕ) → 1 ≤ n → n ≤ groups → k ≡ record_from base n + 3 → ⊥)
      → ((n : ℕ) → own ≤ n → n ≤ GRPGTCNT → k ≡ base + POSITIONS + n → ⊥)
      → ((n : ℕ) → own ≤ n → n ≤ GRPGTCNT → k ≡ base + 2 * POSITIONS + n → ⊥)
      → get_or S k 0 ≡ get_or M k 0

module _ (base : ℕ) (T lasts : List ℕ) (groups own needed : ℕ) where
  -- The first member is put.
  joined_first :
      (g : Group) (lo w : ℕ)
      → Numbered g lo
      → Marks (rows_of T) w g
      → number_for own needed 0 0 g ≤ GRPGTCNT
      → (M S : List ℕ)
      → Put base T lasts groups w (number_for own needed 0 0 g) lo (lo + size g) (required_first g) M S
      → Joined base lasts groups own needed (one g) M S
  joined_first g lo w n marks to M S p =
      record {
        len = p.len;
        put = λ s v is i z.
            let r = has_range g lo n v i in
            p.taken s v is r.0 r.1 z ∙ ap (λ (b : Bool). number_for own needed 0 0 g + cond b ENDING 0) (marks v i);
        other = λ s v is i. p.other s v is (λ a b. not_both i (has_inside g lo v n a b));
        kept = p.kept;
        each = (p.group, p.due);
        rest = λ k a b c d. p.rest k a b (c (number_for own needed 0 0 g) (number_from_lem own needed 0 0 g) to) (d (number_for own needed 0 0 g) (number_from_lem own needed 0 0 g) to);
      }

  -- One member more is put.
  joined_more :
      (m : Members) (g : Group) (lo w : ℕ)
      → Numbered g lo
      → Apart (has_m m) (has g)
      → Marks (rows_of T) w g
      → needs m + cond (nullable g) 0 1 ≤ needed
      → own + needed + (spares m + cond (nullable g) 1 0) ≤ POSITIONS
      → (M R S : List ℕ)
      → Joined base lasts groups own needed m M R
      → Put base T lasts groups w (number_for own needed (needs m) (spares m) g) lo (lo + size g) (required_first g) R S
      → Joined base lasts groups own needed (also m g) M S
  joined_more m g lo w n a marks l room M R S j p =
      let to = number_to own needed (needs m) (spares m) g l room in
      record {
        len = p.len ∙ j.len;
        put = λ s v is i z.
            bool_cases
            (has g v)
            (λ y.
            let r = has_range g lo n v y in
            rw (y, no_from (last_m_has m v) (not_left a y))
            (p.taken s v is r.0 r.1 (j.other s v is (not_left a y) ∙ z) ∙ ap (λ (b : Bool). number_for own needed (needs m) (spares m) g + cond b ENDING 0) (marks v y)))
            (λ y.
            let x = or_only (has_m m v) (has g v) y i in
            rw (y, no_from (last_has g v) y, or-false (last_m m v))
            (p.other s v is (λ c d. not_both y (has_inside g lo v n c d)) ∙ j.put s v is x z));
        other = λ s v is i.
            let (x, y) = or_none (has_m m v) (has g v) i in
            p.other s v is (λ c d. not_both y (has_inside g lo v n c d)) ∙ j.other s v is x;
        kept = λ s v is some.
            let e = j.kept s v is some in
            p.kept s v is (omega (arith, e)) ∙ e;
        each = (each_map {P = λ (n : ℕ) (x : Group). (get_or R (base + POSITIONS + n) 0 ≡ groups + 1) × (get_or R (base + 2 * POSITIONS + n) 0 ≡ required_first x)} {Q = λ (n : ℕ) (x : Group). (get_or S (base + POSITIONS + n) 0 ≡ groups + 1) × (get_or S (base + 2 * POSITIONS + n) 0 ≡ required_first x)} own needed m (λ k x r q. ((away k (range_low r) (range_high r) (number_new own needed (needs m) (spares m) g k l r)).0 ∙ q.0, (away k (range_low r) (range_high r) (number_new own needed (needs m) (spares m) g k l r)).1 ∙ q.1)) j.each, (p.group, p.due));
        rest = λ k b c d e.
            p.rest k b c (d (number_for own needed (needs m) (spares m) g) (number_from_lem own needed (needs m) (spares m) g) to) (e (number_for own needed (needs m) (spares m) g) (number_from_lem own needed (needs m) (spares m) g) to)
            ∙ j.rest k b c d e;
      }
    where
      range_low : {k : ℕ} → InRange own needed (needs m) (spares m) k → own ≤ k
      range_low (inl (x, y)) = x
      range_low (inr (x, y)) = omega arith

      range_high : {k : ℕ} → InRange own needed (needs m) (spares m) k → k ≤ GRPGTCNT
      range_high (inl (x, y)) = omega arith
      range_high (inr (x, y)) = omega arith

      away : (k : ℕ) → own ≤ k → k ≤ GRPGTCNT → (k ≡ number_for own needed (needs m) (spares m) g → ⊥) → (get_or S (base + POSITIONS + k) 0 ≡ get_or R (base + POSITIONS + k) 0) × (get_or S (base + 2 * POSITIONS + k) 0 ≡ get_or R (base + 2 * POSITIONS + k) 0)
      away k low high ne =
          let to = number_to own needed (needs m) (spares m) g l room in (
            p.rest (base + POSITIONS + k) (λ u x y. omega arith) (λ q x y z. omega arith) (λ x. ne (omega arith)) (λ x. omega arith),
            p.rest (base + 2 * POSITIONS + k) (λ u x y. omega arith) (λ q x y z. omega arith) (λ x. omega arith) (λ x. ne (omega arith)),
          )

  module _ (stack : List Piece) (first : ℕ) (few : groups ≤ AND_GROUPS) where
    one_put :
        (S : List ℕ) → base + REACHES ≤ length S
        → (j w h : ℕ) (g : Group) (lo : ℕ)
        → piece_at stack (first + j) ≡ piece_of g lo
        → other_at stack first j ≡ w
        → number_at stack first own needed j ≡ h
        → h ≤ GRPGTCNT
        → lo + size g ≤ POSITIONS
        → Put base T lasts groups w h lo (lo + size g) (required_first g) S (put_one S base T lasts groups own stack first needed j)
    unfolding put_one
    one_put S room j w h g lo is other number to high =
        let e : lo + size g - 1 + 1 ≡ lo + size g = omega (arith, size_one g) in
        rw (other, number, is, e) (puts base T lasts groups w h lo (lo + size g) (required_first g) S room few to (omega arith) high)

    pub joins :
        (m : Members) (lo : ℕ)
        → NumberedM m lo
        → GoodM m
        → lo + size_m m ≤ POSITIONS
        → Pieces stack first m lo
        → EachMarks (rows_of T) (piece_at stack first).lo (piece_at stack (first + 1)).lo m
        → needs m ≤ needed
        → own + needed + spares m ≤ POSITIONS
        → (M : List ℕ)
        → base + REACHES ≤ length M
        → Joined base lasts groups own needed m M (put_ones M base T lasts groups own stack first needed 0 (amount m))
    joins (one g) lo n d high p marks l r M room =
        let to = number_to own needed 0 0 g (omega arith) (omega arith) in
        rw (ones_first M base T lasts groups own stack first needed) (joined_first g lo (piece_at stack (first + 1)).lo n marks to M (put_one M base T lasts groups own stack first needed 0) (one_put M room 0 (piece_at stack (first + 1)).lo (number_for own needed 0 0 g) g lo p refl (ap (λ (a : Piece). cond a.null (own + needed + 0) (own + 0)) p) to high))
    joins (also m g) lo (n, k) (d, c, a) high (p, q) (marks, mark) l r M room =
        let R = put_ones M base T lasts groups own stack first needed 0 (amount m) in
        let J : Joined base lasts groups own needed m M R = joins m lo n d (omega arith) p marks (omega arith) (omega arith) M room in
        let to = number_to own needed (needs m) (spares m) g l r in
        let away : other_at stack first (amount m) ≡ (piece_at stack first).lo = rw (ne_eqb (amount m) 0 (λ e. omega (arith, amount_one m, e))) in
        rw (ones_last M base T lasts groups own stack first needed (amount m)) (joined_more m g (lo + size_m m) (piece_at stack first).lo k a mark l r M R (put_one R base T lasts groups own stack first needed (amount m)) J
        (one_put R (omega (arith, J.len, room)) (amount m) (piece_at stack first).lo (number_for own needed (needs m) (spares m) g) g (lo + size_m m) q away (number_is stack first own needed m g lo (p, q)) to (omega arith)))
