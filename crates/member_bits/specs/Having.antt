-- Which members the two numbers have.
use Rattle.std.specs.Prelude.{ℕ, ◌-◌, ◌/◌, ◌%◌, ◌^◌, ◌≤◌, ◌<◌, ◌≡◌, Bool, true, false, Option, Some, None, cond, eqb, ltb}
use Rattle.layout.specs.Sizes.{POSITIONS}
use Rattle.member_bits.specs.declared.Bits.{Bits}

-- Whether the bit i is set, of which the first number has 64.
abbrev pub bit_in : (low high i : ℕ) → Bool
bit_in low high i = cond (ltb i 64) (eqb (low / 2 ^ i % 2) 1) (eqb (high / 2 ^ (i - 64) % 2) 1)

-- The bits b have the members f, and there are no more bits than members.
pub record Has (b : Bits) (f : ℕ → Bool) : Type 0 where
  pub low : b.low < 2 ^ 64
  pub high : b.high < 2 ^ 32
  pub bits : (n : ℕ) → 1 ≤ n → n < POSITIONS → bit_in b.low b.high (n - 1) ≡ f n

-- The test r says whether there is none.
pub record IsNone (b : Bits) (r : Bool) : Type 0 where
  pub none : r ≡ true → (f : ℕ → Bool) → Has b f → (n : ℕ) → 1 ≤ n → n < POSITIONS → f n ≡ false
  pub some : r ≡ false → (f : ℕ → Bool) → Has b f → (n : ℕ) × (1 ≤ n) × (n < POSITIONS) × (f n ≡ true)

-- The number r is that of the first, or 0 where there is none.
pub data First (f : ℕ → Bool) (r : ℕ) : Type 0 where
  none : r ≡ 0 → ((n : ℕ) → 1 ≤ n → n < POSITIONS → f n ≡ false) → First f r
  some : 1 ≤ r → r < POSITIONS → f r ≡ true → ((n : ℕ) → 1 ≤ n → n < r → f n ≡ false) → First f r

-- A member's number, or 0 for none.
abbrev pub number_of : Option ℕ → ℕ
number_of (Some x) = x
number_of None = 0

-- The lowest bit of y that is set is r.
pub record Lowest (y r : ℕ) : Type 0 where
  pub here : y / 2 ^ r % 2 ≡ 1
  pub lower : (j : ℕ) → j < r → y / 2 ^ j % 2 ≡ 0
