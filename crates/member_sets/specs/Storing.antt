-- Members put as bits, eight in a number.
use Rattle.std.specs.Int.{bytes_low_first, byte_at, to_le_bytes}
use Rattle.std.proofs.lemmas.List.{get_or-append_right, get_or-drop, get_or-take}
use Rattle.std.proofs.Math.ListN.{get_or-append}
use Rattle.std.specs.Prelude.{ℕ, zero, suc, ◌++◌, take, drop, ◌+◌, ◌-◌, ◌*◌, ◌/◌, ◌%◌, ◌^◌, ◌≤◌, ◌<◌, ◌≡◌, refl, Bool, ◌⊎◌, List, eqb, ltb, length, get_or}
use Rattle.std.proofs.Common.{sym, pow-suc, pow-add, ◌∙◌, ap, inl, inr, arith, w64, length-append, length-drop, length-take-le, shr-shr, ltb-true, ltb-false}
use Rattle.std.proofs.Math.Pow.{field, mod-mod-pow}
use Rattle.layout.specs.Sizes.{POSITIONS, MEMBER_BITS}
use Rattle.basic_laws.specs.Truth.{bool_cases}
use Rattle.member_laws.specs.Members.{bit_at}
use Rattle.member_bits.specs.declared.Bits.{Bits}
use Rattle.member_bits.specs.Having.{Has}

-- The n lowest bytes of x are put from i on.
pub record Stored (M : List ℕ) (i x n : ℕ) (S : List ℕ) : Type 0 where
  pub len : length S ≡ length M
  pub others : (k : ℕ) → (k < i) ⊎ (i + n ≤ k) → get_or S k 0 ≡ get_or M k 0
  pub bytes : (j : ℕ) → j < n → get_or S (i + j) 0 ≡ x / 2 ^ (8 * j) % 256

-- The bytes of a number as std has them.
bytes_read : (x i k j : ℕ) → j < k → get_or (bytes_low_first i k x) j 0 ≡ byte_at (i + j) x
bytes_read x i zero j l = absurd (omega arith)
bytes_read x i (suc k) zero l = let e : i ≡ i + 0 = omega arith in ap (λ (n : ℕ). byte_at n x) e
bytes_read x i (suc k) (suc j) l = let e : suc i + j ≡ i + suc j = omega arith in bytes_read x (suc i) k j (omega arith) ∙ ap (λ (n : ℕ). byte_at n x) e

byte_power : (k : ℕ) → 256 ^ k ≡ 2 ^ (8 * k)
byte_power zero = refl
byte_power (suc k) = let e : 8 * k + 8 ≡ 8 * suc k = omega arith in pow-suc 256 k ∙ ap (λ (n : ℕ). n * 256) (byte_power k) ∙ sym (pow-add 2 (8 * k) 8) ∙ ap (λ (n : ℕ). 2 ^ n) e

byte_is : (j x : ℕ) → byte_at j x ≡ x / 2 ^ (8 * j) % 256
byte_is zero x = let e : x % 256 ≡ x / 1 % 256 = omega arith in e
byte_is (suc j) x = ap (λ (n : ℕ). x / n % 256) (byte_power (suc j))

byte_of_whole : (x j : ℕ) → j < 8 → get_or (to_le_bytes w64 x) j 0 ≡ x / 2 ^ (8 * j) % 256
byte_of_whole x j l = let e : 0 + j ≡ j = omega arith in bytes_read x 0 8 j l ∙ ap (λ (n : ℕ). byte_at n x) e ∙ byte_is j x

pub bytes_whole : (x : ℕ) (bytes : List ℕ) → bytes ≡ to_le_bytes w64 x → (length bytes ≡ 8) × ((j : ℕ) → j < 8 → get_or bytes j 0 ≡ x / 2 ^ (8 * j) % 256)
bytes_whole x bytes e = (ap length e, λ j l. ap (λ (b : List ℕ). get_or b j 0) e ∙ byte_of_whole x j l)

pub bytes_part : (x n : ℕ) (bytes : List ℕ) → n ≤ 8 → bytes ≡ take n (to_le_bytes w64 x) → (length bytes ≡ n) × ((j : ℕ) → j < n → get_or bytes j 0 ≡ x / 2 ^ (8 * j) % 256)
bytes_part x n bytes few e = (ap length e ∙ length-take-le n (to_le_bytes w64 x) few, λ j l. ap (λ (b : List ℕ). get_or b j 0) e ∙ get_or-take n (to_le_bytes w64 x) j 0 l ∙ byte_of_whole x j (omega arith))

-- Bytes are copied to the place i.
module _ (M : List ℕ) (i x n : ℕ) (bytes : List ℕ) (room : i + n ≤ length M) (says : (length bytes ≡ n) × ((j : ℕ) → j < n → get_or bytes j 0 ≡ x / 2 ^ (8 * j) % 256)) where
  before : length (take i M) ≡ i
  before = length-take-le i M (omega arith)

  both : length (take i M ++ bytes) ≡ i + n
  both = length-append (take i M) bytes ∙ omega (arith, before, says.0)

  pub stored : (S : List ℕ) → S ≡ take i M ++ bytes ++ drop (i + length bytes) M → Stored M i x n S
  stored S e = rw e record {
    len = length-append (take i M ++ bytes) (drop (i + length bytes) M) ∙ omega (arith, both, length-drop (i + length bytes) M, says.0);
    others = others;
    bytes = λ j l. get_or-append (take i M ++ bytes) (drop (i + length bytes) M) 0 (i + j) (omega (arith, both)) ∙ get_or-append_right (take i M) bytes i (i + j) 0 before (omega arith) ∙ inner j l;
  }
    where
      inner : (j : ℕ) → j < n → get_or bytes (i + j - i) 0 ≡ x / 2 ^ (8 * j) % 256
      inner j l = let e : i + j - i ≡ j = omega arith in ap (λ (k : ℕ). get_or bytes k 0) e ∙ says.1 j l

      others : (k : ℕ) → (k < i) ⊎ (i + n ≤ k) → get_or (take i M ++ bytes ++ drop (i + length bytes) M) k 0 ≡ get_or M k 0
      others k (inl l) = get_or-append (take i M ++ bytes) (drop (i + length bytes) M) 0 k (omega (arith, both)) ∙ get_or-append (take i M) bytes 0 k (omega (arith, before)) ∙ get_or-take i M k 0 l
      others k (inr l) =
          let e : i + length bytes + (k - (i + n)) ≡ k = omega (arith, says.0) in
          get_or-append_right (take i M ++ bytes) (drop (i + length bytes) M) (i + n) k 0 both l ∙ get_or-drop (i + length bytes) M (k - (i + n)) 0 ∙ ap (λ (m : ℕ). get_or M m 0) e

-- A bit of a byte of x is one of x.
byte_bit : (y r : ℕ) → r < 8 → y % 256 / 2 ^ r % 2 ≡ y / 2 ^ r % 2
byte_bit y r l =
    let e : 8 ≡ 7 - r + 1 + r = omega arith in
    ap (λ (n : ℕ). y % 2 ^ n / 2 ^ r % 2) e ∙ ap (λ (n : ℕ). n % 2) (field y (7 - r + 1) r) ∙ mod-mod-pow (y / 2 ^ r) (7 - r) 1

bit_of_lem : (S : List ℕ) (i x n : ℕ) → ((j : ℕ) → j < n → get_or S (i + j) 0 ≡ x / 2 ^ (8 * j) % 256) → (q : ℕ) → q / 8 < n → eqb (get_or S (i + q / 8) 0 / 2 ^ (q % 8) % 2) 1 ≡ eqb (x / 2 ^ q % 2) 1
bit_of_lem S i x n bytes q l =
    let e : 8 * (q / 8) + q % 8 ≡ q = omega arith in
    ap (λ (v : ℕ). eqb (v / 2 ^ (q % 8) % 2) 1) (bytes (q / 8) l)
    ∙ ap (λ (v : ℕ). eqb v 1) (byte_bit (x / 2 ^ (8 * (q / 8))) (q % 8) (omega arith) ∙ ap (λ (v : ℕ). v % 2) (shr-shr x (8 * (q / 8)) (q % 8) ∙ ap (λ (n : ℕ). x / 2 ^ n) e))

-- The members b are put from i on.
pub record PutBits (M : List ℕ) (i : ℕ) (b : Bits) (S : List ℕ) : Type 0 where
  pub len : length S ≡ length M
  pub others : (k : ℕ) → (k < i) ⊎ (i + MEMBER_BITS ≤ k) → get_or S k 0 ≡ get_or M k 0
  pub bits : (f : ℕ → Bool) → Has b f → (h : ℕ) → 1 ≤ h → h < POSITIONS → bit_at S i h ≡ f h

pub bits_put : (M : List ℕ) (i : ℕ) (b : Bits) (S T : List ℕ) → Stored M i b.low 8 S → Stored S (i + 8) b.high 4 T → PutBits M i b T
bits_put M i b S T v w =
    record {
      len = w.len ∙ v.len;
      others = others;
      bits = λ f has h a z. bool_cases (ltb (h - 1) 64) (λ e. early h (ltb-true (h - 1) 64 e) ∙ (rw e at (has.bits h a z))) (λ e. late h z (ltb-false (h - 1) 64 e) ∙ (rw e at (has.bits h a z)));
    }
  where
    others : (k : ℕ) → (k < i) ⊎ (i + MEMBER_BITS ≤ k) → get_or T k 0 ≡ get_or M k 0
    others k (inl l) = w.others k (inl (omega arith)) ∙ v.others k (inl l)
    others k (inr l) = w.others k (inr (omega arith)) ∙ v.others k (inr (omega arith))

    early : (h : ℕ) → h - 1 < 64 → bit_at T i h ≡ eqb (b.low / 2 ^ (h - 1) % 2) 1
    early h l = bit_of_lem T i b.low 8 (λ j m. w.others (i + j) (inl (omega arith)) ∙ v.bytes j m) (h - 1) (omega arith)

    late : (h : ℕ) → h < POSITIONS → 64 ≤ h - 1 → bit_at T i h ≡ eqb (b.high / 2 ^ (h - 1 - 64) % 2) 1
    late h l m =
        let at : i + (h - 1) / 8 ≡ i + 8 + (h - 1 - 64) / 8 = omega arith in
        let bit : (h - 1) % 8 ≡ (h - 1 - 64) % 8 = omega arith in
        rw (at, bit) (bit_of_lem T (i + 8) b.high 4 w.bytes (h - 1 - 64) (omega arith))

-- Bits stay where their numbers stay.
pub bit_same : (M S : List ℕ) (i : ℕ) → ((k : ℕ) → i ≤ k → k < i + MEMBER_BITS → get_or S k 0 ≡ get_or M k 0) → (h : ℕ) → 1 ≤ h → h < POSITIONS → bit_at S i h ≡ bit_at M i h
bit_same M S i same h a b = ap (λ (x : ℕ). eqb (x / 2 ^ ((h - 1) % 8) % 2) 1) (same (i + (h - 1) / 8) (omega arith) (omega arith))
