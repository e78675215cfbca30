-- What the functions read and write, over plain lists.
use Rattle.std.specs.Prelude.{ℕ, ◌+◌, ◌-◌, ◌*◌, ◌/◌, ◌%◌, ◌^◌, ◌≤◌, ◌<◌, ◌≡◌, Bool, List, length, get_or, set, eqb}
use Rattle.std.proofs.Common.{sym, ◌∙◌, ap, ap₂, arith, length-set, get_or-set_same, get_or-set_other, shr-shr}
use Rattle.std.proofs.Math.Decide.{dec_le}
use Rattle.rules.specs.Bytes.{GRPGTCNT, TAGLVL}
use Rattle.layout.specs.Sizes.{BEGUN, BEGUN_WORDS}
use Rattle.member_laws.specs.Members.{word_at, begun_at, Elsewhere}
use Rattle.member_bits.specs.declared.Bits.{Bits}
use Rattle.member_bits.specs.Having.{Has}
use Rattle.member_bits.specs.Bits.{mod_bit}
use Rattle.member_bits.specs.Operations.{has_low, has_high, has_words}
use Rattle.begun_bits.specs.Levels.{Puts}

-- The three words of a level have its members.
module _ (begun : List ℕ) (level : ℕ) where
  in_word : (i x : ℕ) → x ≡ get_or begun i 0 → (n k : ℕ) → i ≡ level * BEGUN_WORDS + (n - 1) / 32 → k ≡ (n - 1) % 32 → eqb (x / 2 ^ k % 2) 1 ≡ begun_at begun level n
  in_word i x read n k there bit = ap (λ (v : ℕ). eqb (v / 2 ^ k % 2) 1) read ∙ ap₂ (λ (p q : ℕ). eqb (get_or begun p 0 / 2 ^ q % 2) 1) there bit

  pub begun_has : (a b c : ℕ) → a ≡ get_or begun (level * BEGUN_WORDS) 0 → b ≡ get_or begun (level * BEGUN_WORDS + 1) 0 → c ≡ get_or begun (level * BEGUN_WORDS + 2) 0 → a < 4294967296 → b < 4294967296 → c < 4294967296 → Has (record { low = a + b * 4294967296; high = c }) (begun_at begun level)
  begun_has a b c x y z few_a few_b few_c =
      has_words a b c (begun_at begun level) few_a few_b few_c
      (λ n l. in_word (level * BEGUN_WORDS) a x (n + 1) n (omega arith) (omega arith))
      (λ n l. in_word (level * BEGUN_WORDS + 1) b y (n + 33) n (omega arith) (omega arith))
      (λ n l. in_word (level * BEGUN_WORDS + 2) c z (n + 65) n (omega arith) (omega arith))

-- The word w of the level is the only one that is written.
module _ (before : List ℕ) (level w i v : ℕ) (there : i ≡ level * BEGUN_WORDS + w) (fits : i < length before) (within : w < BEGUN_WORDS) where
  stored_elsewhere : Elsewhere level before (set before i v)
  stored_elsewhere k j n l = get_or-set_other before i (k * BEGUN_WORDS + j) v 0 (λ e. n (omega arith))

  stored_here : word_at (set before i v) level w ≡ v
  stored_here = ap (λ (k : ℕ). get_or (set before i v) k 0) (sym there) ∙ get_or-set_same before i v 0 fits

  stored_beside : (j : ℕ) → (j ≡ w → ⊥) → word_at (set before i v) level j ≡ word_at before level j
  stored_beside j n = get_or-set_other before i (level * BEGUN_WORDS + j) v 0 (λ e. n (omega arith))

-- The three words of the level are written one after another.
module _ (before : List ℕ) (level i j k x y z : ℕ) (b : Bits) (a : level ≤ TAGLVL) (whole : length before ≡ BEGUN) (at_i : i ≡ level * BEGUN_WORDS) (at_j : j ≡ level * BEGUN_WORDS + 1) (at_k : k ≡ level * BEGUN_WORDS + 2) (is_x : x ≡ b.low % 4294967296) (is_y : y ≡ b.low / 4294967296 % 4294967296) (is_z : z ≡ b.high % 4294967296) where
  abbrev one : List ℕ
  one = set before i x

  abbrev two : List ℕ
  two = set one j y

  abbrev three : List ℕ
  three = set two k z

  first : length one ≡ length before
  first = length-set before i x

  second : length two ≡ length before
  second = length-set one j y ∙ first

  in_one : i < length before
  in_one = omega arith

  in_two : j < length one
  in_two = omega (arith, first)

  in_three : k < length two
  in_three = omega (arith, second)

  start : i ≡ level * BEGUN_WORDS + 0
  start = omega arith

  word_0 : word_at three level 0 ≡ x
  word_0 = stored_beside two level 2 k z at_k in_three (omega arith) 0 (λ e. omega arith) ∙ stored_beside one level 1 j y at_j in_two (omega arith) 0 (λ e. omega arith) ∙ stored_here before level 0 i x start in_one (omega arith)

  word_1 : word_at three level 1 ≡ y
  word_1 = stored_beside two level 2 k z at_k in_three (omega arith) 1 (λ e. omega arith) ∙ stored_here one level 1 j y at_j in_two (omega arith)

  word_2 : word_at three level 2 ≡ z
  word_2 = stored_here two level 2 k z at_k in_three (omega arith)

  -- This is a bit of the word w, which is v.
  bit_of_lem : (n w t v : ℕ) → (n - 1) / 32 ≡ w → (n - 1) % 32 ≡ t → word_at three level w ≡ v → begun_at three level n ≡ eqb (v / 2 ^ t % 2) 1
  bit_of_lem n w t v d e q = ap₂ (λ (p s : ℕ). eqb (word_at three level p / 2 ^ s % 2) 1) d e ∙ ap (λ (p : ℕ). eqb (p / 2 ^ t % 2) 1) q

  put_bit : (f : ℕ → Bool) → Has b f → (n : ℕ) → 1 ≤ n → n ≤ GRPGTCNT → Dec (n ≤ 32) → Dec (n ≤ 64) → begun_at three level n ≡ f n
  put_bit f w n l m (yes p) q = bit_of_lem n 0 (n - 1) (b.low % 2 ^ 32) (omega arith) (omega arith) (word_0 ∙ is_x) ∙ ap (λ (v : ℕ). eqb v 1) (mod_bit b.low 32 (n - 1) (omega arith)) ∙ has_low b f w n l (omega arith)
  put_bit f w n l m (no p) (yes q) =
      let e : 32 + (n - 33) ≡ n - 1 = omega arith in
      bit_of_lem n 1 (n - 33) (b.low / 2 ^ 32 % 2 ^ 32) (omega arith) (omega arith) (word_1 ∙ is_y)
      ∙ ap (λ (v : ℕ). eqb v 1) (mod_bit (b.low / 2 ^ 32) 32 (n - 33) (omega arith))
      ∙ ap (λ (v : ℕ). eqb (v % 2) 1) (shr-shr b.low 32 (n - 33))
      ∙ ap (λ (v : ℕ). eqb (b.low / 2 ^ v % 2) 1) e
      ∙ has_low b f w n l q
  put_bit f w n l m (no p) (no q) = bit_of_lem n 2 (n - 65) (b.high % 2 ^ 32) (omega arith) (omega arith) (word_2 ∙ is_z) ∙ ap (λ (v : ℕ). eqb v 1) (mod_bit b.high 32 (n - 65) (omega arith)) ∙ has_high b f w n (omega arith) m

  pub puts : Puts level b before (set (set (set before i x) j y) k z)
  puts =
      record {
        whole = length-set two k z ∙ second;
        elsewhere = λ l w n m. stored_elsewhere two level 2 k z at_k in_three (omega arith) l w n m ∙ stored_elsewhere one level 1 j y at_j in_two (omega arith) l w n m ∙ stored_elsewhere before level 0 i x start in_one (omega arith) l w n m;
        bits = λ f w n l m. put_bit f w n l (omega arith) (dec_le n 32) (dec_le n 64);
      }
