-- Four numbers of the table as one, and three of those as members.
use Rattle.std.specs.Prelude.{ℕ, ◌+◌, ◌-◌, ◌*◌, ◌/◌, ◌%◌, ◌^◌, ◌≤◌, ◌<◌, ◌≡◌, refl, List, get_or, eqb}
use Rattle.std.proofs.Common.{◌∙◌, ap, ap₂, arith}
use Rattle.std.proofs.Math.Decide.{dec_lt}
use Rattle.member_laws.specs.Members.{bit_at}
use Rattle.member_bits.specs.Having.{Has}
use Rattle.member_bits.specs.Bits.{low_bit, high_bit}
use Rattle.member_bits.specs.Operations.{has_words}

-- The bits of r are those of the four numbers from i on, the lowest first.
pub record Word (M : List ℕ) (i r : ℕ) : Type 0 where
  pub bits : (k : ℕ) → k < 32 → r / 2 ^ k % 2 ≡ get_or M (i + k / 8) 0 / 2 ^ (k % 8) % 2
  pub small : r < 4294967296

-- Four bytes stand side by side in a word.

above : (w lo hi : ℕ) → lo < 2 ^ w → (k : ℕ) → w ≤ k → (hi * 2 ^ w + lo) / 2 ^ k % 2 ≡ hi / 2 ^ (k - w) % 2
above w lo hi small k l = let z : k ≡ w + (k - w) = omega arith in ap (λ (n : ℕ). (hi * 2 ^ w + lo) / 2 ^ n % 2) z ∙ high_bit w lo hi small (k - w)

module _ (M : List ℕ) (i a b c d : ℕ) (at_a : a ≡ get_or M i 0) (at_b : b ≡ get_or M (i + 1) 0) (at_c : c ≡ get_or M (i + 2) 0) (at_d : d ≡ get_or M (i + 3) 0) (few_a : a < 256) (few_b : b < 256) (few_c : c < 256) (few_d : d < 256) where
  byte : (j x t k : ℕ) → x ≡ get_or M j 0 → j ≡ i + k / 8 → t ≡ k % 8 → x / 2 ^ t % 2 ≡ get_or M (i + k / 8) 0 / 2 ^ (k % 8) % 2
  byte j x t k read there z = ap (λ (y : ℕ). y / 2 ^ t % 2) (read ∙ ap (λ (n : ℕ). get_or M n 0) there) ∙ ap (λ (n : ℕ). get_or M (i + k / 8) 0 / 2 ^ n % 2) z

  bit_at_lem : (k : ℕ) → k < 32 → Dec (k < 8) → Dec (k < 16) → Dec (k < 24) → ((d * 256 + c) * 65536 + (b * 256 + a)) / 2 ^ k % 2 ≡ get_or M (i + k / 8) 0 / 2 ^ (k % 8) % 2
  bit_at_lem k l (yes x) y z = low_bit 16 (b * 256 + a) (d * 256 + c) (omega arith) k (omega arith) ∙ low_bit 8 a b few_a k x ∙ byte i a k k at_a (omega arith) (omega arith)
  bit_at_lem k l (no x) (yes y) z = low_bit 16 (b * 256 + a) (d * 256 + c) (omega arith) k y ∙ above 8 a b few_a k (omega arith) ∙ byte (i + 1) b (k - 8) k at_b (omega arith) (omega arith)
  bit_at_lem k l (no x) (no y) (yes z) = above 16 (b * 256 + a) (d * 256 + c) (omega arith) k (omega arith) ∙ low_bit 8 c d few_c (k - 16) (omega arith) ∙ byte (i + 2) c (k - 16) k at_c (omega arith) (omega arith)
  bit_at_lem k l (no x) (no y) (no z) = above 16 (b * 256 + a) (d * 256 + c) (omega arith) k (omega arith) ∙ above 8 c d few_c (k - 16) (omega arith) ∙ byte (i + 3) d (k - 16 - 8) k at_d (omega arith) (omega arith)

  word_of : Word M i ((d * 256 + c) * 65536 + (b * 256 + a))
  word_of = record { bits = λ k l. bit_at_lem k l (dec_lt k 8) (dec_lt k 16) (dec_lt k 24); small = omega arith }

-- The four bytes as std reads them.
module _ (M : List ℕ) (i : ℕ) (bytes : (k : ℕ) → get_or M k 0 < 256) where
  pub word_read : (r : ℕ) → r ≡ get_or M i 0 + get_or M (i + 1) 0 * 256 + get_or M (i + 2) 0 * 65536 + get_or M (i + 3) 0 * 16777216 → Word M i r
  word_read r is = rw (sum _ _ _ _ is) (word_of M i _ _ _ _ refl refl refl refl (bytes i) (bytes (i + 1)) (bytes (i + 2)) (bytes (i + 3)))
    where
      sum : (a b c d : ℕ) → r ≡ a + b * 256 + c * 65536 + d * 16777216 → r ≡ (d * 256 + c) * 65536 + (b * 256 + a)
      sum a b c d e = omega arith

-- Three words have the bits of 96 members.
module _ (M : List ℕ) (i : ℕ) where
  in_word : (j r : ℕ) → Word M j r → (n k : ℕ) → k < 32 → j + k / 8 ≡ i + (n - 1) / 8 → k % 8 ≡ (n - 1) % 8 → eqb (r / 2 ^ k % 2) 1 ≡ bit_at M i n
  in_word j r w n k l there bit = ap (λ (x : ℕ). eqb x 1) (w.bits k l) ∙ ap₂ (λ (x y : ℕ). eqb (get_or M x 0 / 2 ^ y % 2) 1) there bit

  pub has_bits : (j k a b c : ℕ) → j ≡ i + 4 → k ≡ i + 8 → Word M i a → Word M j b → Word M k c → Has (record { low = a + b * 4294967296; high = c }) (bit_at M i)
  has_bits j k a b c x y u v w =
      has_words a b c (bit_at M i) u.small v.small w.small
      (λ n l. in_word i a u (n + 1) n l (omega arith) (omega arith))
      (λ n l. in_word j b v (n + 33) n l (omega arith) (omega arith))
      (λ n l. in_word k c w (n + 65) n l (omega arith) (omega arith))
