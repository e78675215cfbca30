-- How many pieces cannot be nothing, and that the members of a group have numbers in its range.
use Rattle.std.specs.Prelude.{ℕ, zero, suc, ◌+◌, ◌-◌, ◌≤◌, ◌<◌, ◌≡◌, Bool, true, false, cond, List}
use Rattle.std.proofs.Common.{sym, subst, arith}
use Rattle.layout.specs.Sizes.{POSITIONS}
use Rattle.basic_laws.specs.Truth.{bool_cases}
use Rattle.member_table.specs.declared.Piece.{Piece}
use Rattle.member_table.specs.Filling.{piece_at, needed_in, number_at}

module _ (stack : List Piece) (first : ℕ) where
  one_most : (b : Bool) → cond b 0 1 ≤ 1
  one_most true = omega arith
  one_most false = omega arith

  pub needed_below : (k : ℕ) → needed_in stack first k ≤ k
  needed_below zero = omega arith
  needed_below (suc k) = omega (arith, needed_below k, one_most (piece_at stack (first + k)).null)

  needed_more : (j k : ℕ) → needed_in stack first (k + j) ≤ needed_in stack first j + k
  needed_more j zero = let e : 0 + j ≡ j = omega arith in rw e (omega arith)
  needed_more j (suc k) = let e : suc k + j ≡ suc (k + j) = omega arith in rw e (omega (arith, needed_more j k, one_most (piece_at stack (first + (k + j))).null))

  -- The k members from `own` on have numbers below `own + k`.
  pub number_below : (own j k : ℕ) → j < k → number_at stack first own (needed_in stack first k) j < own + k
  number_below own j k less =
      let e : k - suc j + suc j ≡ k = omega arith in
      let most : needed_in stack first k ≤ needed_in stack first (suc j) + (k - suc j) = subst (λ (n : ℕ). needed_in stack first n ≤ needed_in stack first (suc j) + (k - suc j)) e (needed_more (suc j) (k - suc j)) in
      bool_cases
      (piece_at stack (first + j)).null
      (λ (n : (piece_at stack (first + j)).null ≡ true).
      let step : needed_in stack first (suc j) ≡ needed_in stack first j = rw n (omega arith) in
      rw n (omega (arith, most, step, needed_below j)))
      (λ n. rw n (omega (arith, needed_below j)))

-- One piece more is counted.
module _ (stack : List Piece) (first j n : ℕ) (so : n ≡ needed_in stack first j) where
  pub needed_one : (piece_at stack (first + j)).null ≡ false → n + 1 ≡ needed_in stack first (j + 1)
  needed_one e = let s : j + 1 ≡ suc j = omega arith in rw (s, e) (omega (arith, so))

  pub needed_null : (piece_at stack (first + j)).null ≡ true → n ≡ needed_in stack first (j + 1)
  needed_null e = let s : j + 1 ≡ suc j = omega arith in rw (s, e) (omega (arith, so))

-- The number of a member that can be nothing, and of one that cannot.
module _ (stack : List Piece) (first own needed j n : ℕ) (so : n ≡ needed_in stack first j) where
  pub number_null : (piece_at stack (first + j)).null ≡ true → (h : ℕ) → h ≡ own + needed + (j - n) → h ≡ number_at stack first own needed j
  number_null e h is = rw (e, sym so) is

  pub number_needed : (piece_at stack (first + j)).null ≡ false → (h : ℕ) → h ≡ own + n → h ≡ number_at stack first own needed j
  number_needed e h is = rw (e, sym so) is

-- The number of a member of a group that has room is small.
pub number_small : (stack : List Piece) (first own needed j k : ℕ) → needed ≡ needed_in stack first k → j < k → own + k ≤ POSITIONS → number_at stack first own needed j < POSITIONS
number_small stack first own needed j k e l room = let less = number_below stack first own j k l in rw e (omega (arith, less))
