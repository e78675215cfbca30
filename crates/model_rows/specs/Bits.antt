-- Eight numbers of a model's table as the bits of one.
use Rattle.std.specs.Prelude.{ℕ, zero, suc, ◌+◌, ◌*◌, ◌/◌, ◌%◌, ◌^◌, ◌≤◌, ◌<◌, ◌≡◌, Bool, true, false, cond, List, get_or, eqb}
use Rattle.std.proofs.Common.{ap, ◌∙◌}
use native.Mathlib.Omega.{arith}
use Rattle.basic_laws.specs.Numbers.{bit_most}
use Rattle.type_tables.specs.Tables.{bit_of}

-- Whether a number of the table is 1, as 1 or 0.
abbrev pub cell_of : List ℕ → ℕ → ℕ
cell_of T i = cond (eqb (get_or T i 0) 1) 1 0

-- A number of eight bits, the first the lowest.
abbrev weigh : (a b c d e f g h : ℕ) → ℕ
weigh a b c d e f g h = a + b * 2 + c * 4 + d * 8 + e * 16 + f * 32 + g * 64 + h * 128

-- Eight numbers of the table from i on as bits.
unfoldable pub packed_of : List ℕ → ℕ → ℕ
packed_of T i =
    weigh (cell_of T i) (cell_of T (i + 1)) (cell_of T (i + 2)) (cell_of T (i + 3)) (cell_of T (i + 4)) (cell_of T (i + 5)) (cell_of T (i + 6)) (cell_of T (i + 7))

-- Each bit of such a number.
module _ (a b c d e f g h : ℕ) (a_to : a ≤ 1) (b_to : b ≤ 1) (c_to : c ≤ 1) (d_to : d ≤ 1) (e_to : e ≤ 1) (f_to : f ≤ 1) (g_to : g ≤ 1) (h_to : h ≤ 1) where
  abbrev Bit : ℕ → ℕ → Type 0
  Bit k x = weigh a b c d e f g h / 2 ^ k % 2 ≡ x

  weighed : Bit 0 a × Bit 1 b × Bit 2 c × Bit 3 d × Bit 4 e × Bit 5 f × Bit 6 g × Bit 7 h
  weighed = omega arith

pub flag_is : (b : Bool) (x : ℕ) → x ≡ cond b 1 0 → eqb x 1 ≡ b
flag_is true x q = rw q
flag_is false x q = rw q

pub cell_most : (T : List ℕ) (i : ℕ) → cell_of T i ≤ 1
cell_most T i = bit_most (eqb (get_or T i 0) 1)

module _ (T : List ℕ) (i : ℕ) where
  most : (k : ℕ) → cell_of T (i + k) ≤ 1
  most k = cell_most T (i + k)

  abbrev At : ℕ → Type 0
  At k = packed_of T i / 2 ^ k % 2 ≡ cell_of T (i + k)

  by_place : (k : ℕ) → k < 8 → At 0 × At 1 × At 2 × At 3 × At 4 × At 5 × At 6 × At 7 → At k
  by_place zero h w = w.0
  by_place (suc zero) h w = w.1
  by_place (suc (suc zero)) h w = w.2
  by_place (suc (suc (suc zero))) h w = w.3
  by_place (suc (suc (suc (suc zero)))) h w = w.4
  by_place (suc (suc (suc (suc (suc zero))))) h w = w.5
  by_place (suc (suc (suc (suc (suc (suc zero)))))) h w = w.6
  by_place (suc (suc (suc (suc (suc (suc (suc zero))))))) h w = w.7
  by_place (suc (suc (suc (suc (suc (suc (suc (suc k)))))))) h w = absurd (omega arith)

  bit_in : (k : ℕ) → k < 8 → At k
  unfolding packed_of
  bit_in k h =
      let z : i + 0 ≡ i = omega arith in
      by_place k h (rw z (weighed _ _ _ _ _ _ _ _ (cell_most T i) (most 1) (most 2) (most 3) (most 4) (most 5) (most 6) (most 7)))

  pub packed_bit : (k : ℕ) → k < 8 → bit_of (packed_of T i) k ≡ eqb (get_or T (i + k) 0) 1
  packed_bit k h = flag_is (eqb (get_or T (i + k) 0) 1) _ (bit_in k h)

-- Bit 0, and the one bit of a number that is no more.
pub lowest_bit : (x : ℕ) → eqb (x % 2) 1 ≡ bit_of x 0
lowest_bit x = let e : x % 2 ≡ x / 2 ^ 0 % 2 = omega arith in ap (λ (y : ℕ). eqb y 1) e

pub single_bit : (T : List ℕ) (i x : ℕ) → x ≡ cell_of T i → bit_of x 0 ≡ eqb (get_or T i 0) 1
single_bit T i x q = let e : x / 2 ^ 0 % 2 ≡ x = omega (arith, cell_most T i) in flag_is (eqb (get_or T i 0) 1) _ (e ∙ q)
