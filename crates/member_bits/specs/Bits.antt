-- Numbers bit by bit: bits set, those of two numbers taken together, a part, two numbers side by side, how many bits are set, and the lowest of them.
use Rattle.std.specs.Prelude.{ℕ, zero, suc, ◌+◌, ◌-◌, ◌*◌, ◌/◌, ◌%◌, ◌^◌, ◌≤◌, ◌<◌, ◌≡◌, refl, Bool, true, false, ◌&&◌, ◌||◌, not, cond, eqb}
use Rattle.std.proofs.Common.{sym, ◌∙◌, ap, pow-suc, mod-lt, arith, eqb-true, shr-shr, pow_mono, shl_exact, w64}
use Rattle.std.proofs.Math.Nat.{div-eq_of_lt}
use Rattle.std.proofs.Math.Decide.{dec_lt}
use Rattle.std.proofs.lemmas.Bool.{eqb-false}
use Rattle.basic_laws.specs.Truth.{bool_cases, eqb_bit}
use Rattle.std.specs.Int.{trailing_zeros}
use Rattle.std.proofs.lemmas.Nat.Bits.{bit_at-trailing_zeros}
use Rattle.std.proofs.lemmas.Nat.{shr_le, and_shr, and_mod, or_shr, or_mod, xor_shr, xor_mod}
use Rattle.std.proofs.Math.Pow.{high, low, field, mod-mod-pow}
use Rattle.std.specs.Int.Bits.{bit_and, bit_or, bit_xor}
use Rattle.member_bits.specs.Having.{Lowest}

-- A number is halved bit by bit.

pub half_shift : (x j : ℕ) → x / 2 ^ suc j ≡ x / 2 / 2 ^ j
half_shift x j = let e : suc j ≡ 1 + j = omega arith in ap (λ (n : ℕ). x / 2 ^ n) e ∙ sym (shr-shr x 1 j)

pub zero_bit : (j : ℕ) → 0 / 2 ^ j ≡ 0
zero_bit j = omega (arith, shr_le 0 j)

double_half : (i : ℕ) → 2 ^ suc i / 2 ≡ 2 ^ i
double_half i = half (2 ^ i) (2 ^ suc i) (pow-suc 2 i)
  where
    half : (p q : ℕ) → q ≡ p * 2 → q / 2 ≡ p
    half p q e = omega arith

pub pow_set : (i : ℕ) → 2 ^ i / 2 ^ i % 2 ≡ 1
pow_set zero = refl
pow_set (suc i) = ap (λ (n : ℕ). n % 2) (half_shift (2 ^ suc i) i ∙ ap (λ (n : ℕ). n / 2 ^ i) (double_half i)) ∙ pow_set i

pow_unset : (i j : ℕ) → (j ≡ i → ⊥) → 2 ^ i / 2 ^ j % 2 ≡ 0
pow_unset zero zero n = absurd (n refl)
pow_unset zero (suc j) n = ap (λ (n : ℕ). n % 2) (half_shift 1 j ∙ zero_bit j)
pow_unset (suc i) zero n = even (2 ^ i) (2 ^ suc i) (pow-suc 2 i)
  where
    even : (p q : ℕ) → q ≡ p * 2 → q / 1 % 2 ≡ 0
    even p q e = omega arith
pow_unset (suc i) (suc j) n = ap (λ (n : ℕ). n % 2) (half_shift (2 ^ suc i) j ∙ ap (λ (n : ℕ). n / 2 ^ j) (double_half i)) ∙ pow_unset i j (λ e. n (ap suc e))

pow_bit : (i j : ℕ) → 2 ^ i / 2 ^ j % 2 ≡ cond (eqb j i) 1 0
pow_bit i j = bool_cases (eqb j i) (λ x. rw (x, eqb-true j i x) (pow_set i)) (λ x. rw x (pow_unset i j (eqb-false j i x)))

-- Two numbers go together bit by bit.

-- An operation on two numbers goes bit by bit as an operation on Booleans does.
module _ (op : ℕ → ℕ → ℕ) (f : Bool → Bool → Bool) (shr : (a b k : ℕ) → op a b / 2 ^ k ≡ op (a / 2 ^ k) (b / 2 ^ k)) (rest : (a b k : ℕ) → op a b % 2 ^ k ≡ op (a % 2 ^ k) (b % 2 ^ k)) (neither : eqb (op 0 0) 1 ≡ f false false) (second : eqb (op 0 1) 1 ≡ f false true) (first : eqb (op 1 0) 1 ≡ f true false) (both : eqb (op 1 1) 1 ≡ f true true) where
  on_bits : (a b : ℕ) → a < 2 → b < 2 → eqb (op a b) 1 ≡ f (eqb a 1) (eqb b 1)
  on_bits zero zero l m = neither
  on_bits zero (suc zero) l m = second
  on_bits (suc zero) zero l m = first
  on_bits (suc zero) (suc zero) l m = both
  on_bits (suc (suc a)) b l m = absurd (omega arith)
  on_bits zero (suc (suc b)) l m = absurd (omega arith)
  on_bits (suc zero) (suc (suc b)) l m = absurd (omega arith)

  bit_by_bit : (w x j : ℕ) → eqb (op w x / 2 ^ j % 2) 1 ≡ f (eqb (w / 2 ^ j % 2) 1) (eqb (x / 2 ^ j % 2) 1)
  bit_by_bit w x j = ap (λ (n : ℕ). eqb (n % 2) 1) (shr w x j) ∙ ap (λ (n : ℕ). eqb n 1) (rest (w / 2 ^ j) (x / 2 ^ j) 1) ∙ on_bits (w / 2 ^ j % 2) (x / 2 ^ j % 2) (mod-lt (w / 2 ^ j) (omega arith)) (mod-lt (x / 2 ^ j) (omega arith))

-- The bits of either are set, those of both, those of only one.
pub or_either : (w x j : ℕ) → eqb (bit_or w x / 2 ^ j % 2) 1 ≡ eqb (w / 2 ^ j % 2) 1 || eqb (x / 2 ^ j % 2) 1
or_either = bit_by_bit bit_or ◌||◌ or_shr or_mod refl refl refl refl

pub and_both : (w x j : ℕ) → eqb (bit_and w x / 2 ^ j % 2) 1 ≡ eqb (w / 2 ^ j % 2) 1 && eqb (x / 2 ^ j % 2) 1
and_both = bit_by_bit bit_and ◌&&◌ and_shr and_mod refl refl refl refl

abbrev pub differs : Bool → Bool → Bool
differs a b = cond a (not b) b

pub xor_one : (w x j : ℕ) → eqb (bit_xor w x / 2 ^ j % 2) 1 ≡ differs (eqb (w / 2 ^ j % 2) 1) (eqb (x / 2 ^ j % 2) 1)
xor_one = bit_by_bit bit_xor differs xor_shr xor_mod refl refl refl refl

-- A bit more is set.
pub or_bit : (w i j : ℕ) → eqb (bit_or w (2 ^ i) / 2 ^ j % 2) 1 ≡ eqb (w / 2 ^ j % 2) 1 || eqb j i
or_bit w i j = or_either w (2 ^ i) j ∙ ap (λ (b : Bool). eqb (w / 2 ^ j % 2) 1 || b) (ap (λ (n : ℕ). eqb n 1) (pow_bit i j) ∙ eqb_bit (eqb j i))

-- One shifted is a power of two.
pub shifted_wide : (k : ℕ) → k ≤ 63 → 1 * 2 ^ k % 2 ^ 64 ≡ 2 ^ k
shifted_wide k l = shl_exact {a = 1} 1 k 64 (omega arith) (omega arith) ∙ one (2 ^ k)
  where
    one : (n : ℕ) → 1 * n ≡ n
    one n = omega arith

-- A bit above all that are set.
pub above_bit : (w x j : ℕ) → x < 2 ^ w → w ≤ j → x / 2 ^ j % 2 ≡ 0
above_bit w x j small l = ap (λ (n : ℕ). n % 2) (div-eq_of_lt (omega (arith, small, pow_mono {i = w} {j = j} l)))

-- A number is cut into parts.

-- The bits of a part are those of the whole.
pub mod_bit : (n k j : ℕ) → j < k → n % 2 ^ k / 2 ^ j % 2 ≡ n / 2 ^ j % 2
mod_bit n k j l =
    let e : k ≡ (k - j) + j = omega arith in
    let d : k - j ≡ (k - j - 1) + 1 = omega arith in
    ap (λ (m : ℕ). n % 2 ^ m / 2 ^ j % 2) e
    ∙ ap (λ (m : ℕ). m % 2) (field n (k - j) j)
    ∙ ap (λ (m : ℕ). n / 2 ^ j % 2 ^ m % 2) d
    ∙ mod-mod-pow (n / 2 ^ j) (k - j - 1) 1

-- Two numbers side by side, the lower one of w bits.
module _ (w lo hi : ℕ) (small : lo < 2 ^ w) where
  pub low_bit : (t : ℕ) → t < w → (hi * 2 ^ w + lo) / 2 ^ t % 2 ≡ lo / 2 ^ t % 2
  low_bit t l = sym (mod_bit (hi * 2 ^ w + lo) w t l) ∙ ap (λ (n : ℕ). n / 2 ^ t % 2) (low hi w small)

  pub high_bit : (t : ℕ) → (hi * 2 ^ w + lo) / 2 ^ (w + t) % 2 ≡ hi / 2 ^ t % 2
  high_bit t = ap (λ (n : ℕ). n % 2) (sym (shr-shr (hi * 2 ^ w + lo) w t) ∙ ap (λ (n : ℕ). n / 2 ^ t) (high hi w small))

-- Every number but 0 has a lowest bit.
pub lowest_of : (y : ℕ) → 1 ≤ y → y < 2 ^ 64 → (trailing_zeros w64 y < 64) × Lowest y (trailing_zeros w64 y)
lowest_of y l m = let (few, here, lower) = bit_at-trailing_zeros w64 y (omega arith) m in (few, record { here = here; lower = lower })

-- The bit of a number below 2 ^ w is below w.
pub bit_below : (w y j : ℕ) → y < 2 ^ w → y / 2 ^ j % 2 ≡ 1 → j < w
bit_below w y j small e = go (dec_lt j w)
  where
    go : Dec (j < w) → j < w
    go (yes l) = l
    go (no n) = absurd (omega (arith, above_bit w y j small (omega arith)))
