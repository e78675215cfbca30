-- What the functions make of the members, over plain numbers.
use Rattle.std.specs.Prelude.{ℕ, ◌+◌, ◌-◌, ◌*◌, ◌/◌, ◌%◌, ◌^◌, ◌≤◌, ◌<◌, ◌≡◌, refl, Bool, true, false, ◌&&◌, ◌||◌, not, cond, eqb, ltb, leb}
use Rattle.std.proofs.Common.{sym, ◌∙◌, ap, ap₂, subst, add-zero, arith, shr-shr, shr_lt, shl_exact, pow_pos, eqb-true, eq-eqb, ne_eqb, lt-ltb, le-ltb, le-leb}
use Rattle.std.proofs.Math.Bool.{or-false, and-false, and-true}
use Rattle.std.proofs.Math.Decide.{ℕ_discrete, dec_lt, dec_le}
use Rattle.std.proofs.Math.Pow.{split, pow-lt}
use Rattle.std.specs.Int.Bits.{bit_and, bit_or, bit_xor, or_add_and}
use Rattle.std.proofs.lemmas.Nat.{or_lt, and_le_l, and_le_r}
use Rattle.std.proofs.lemmas.Bool.{eqb-false, lt-leb}
use Rattle.rules.specs.Bytes.{GRPGTCNT}
use Rattle.layout.specs.Sizes.{POSITIONS}
use Rattle.member_bits.specs.declared.Bits.{Bits}
use Rattle.member_bits.specs.Having.{bit_in, Has, IsNone, First, none, some, Lowest}
use Rattle.member_bits.specs.Bits.{zero_bit, or_either, and_both, differs, xor_one, or_bit, shifted_wide, low_bit, high_bit, lowest_of, bit_below}

abbrev bits : (low high : ℕ) → Bits
bits l h = record { low = l; high = h }

-- A bit stands for a member.

pub bit_low : (low high i : ℕ) → i < 64 → bit_in low high i ≡ eqb (low / 2 ^ i % 2) 1
bit_low low high i l = rw (lt-ltb i 64 l)

pub bit_high : (low high i : ℕ) → 64 ≤ i → bit_in low high i ≡ eqb (high / 2 ^ (i - 64) % 2) 1
bit_high low high i l = rw (le-ltb i 64 l)

module _ (b : Bits) (f : ℕ → Bool) (w : Has b f) where
  member_low : (n : ℕ) → 1 ≤ n → n ≤ 64 → f n ≡ eqb (b.low / 2 ^ (n - 1) % 2) 1
  member_low n l m = sym (w.bits n l (omega arith)) ∙ bit_low b.low b.high (n - 1) (omega arith)

  member_high : (n : ℕ) → 65 ≤ n → n ≤ GRPGTCNT → f n ≡ eqb (b.high / 2 ^ (n - 65) % 2) 1
  member_high n l m =
      let e : n - 1 - 64 ≡ n - 65 = omega arith in
      sym (w.bits n (omega arith) (omega arith)) ∙ bit_high b.low b.high (n - 1) (omega arith) ∙ ap (λ (k : ℕ). eqb (b.high / 2 ^ k % 2) 1) e

  pub has_low : (h : ℕ) → 1 ≤ h → h ≤ 64 → eqb (b.low / 2 ^ (h - 1) % 2) 1 ≡ f h
  has_low h l m = sym (member_low h l m)

  pub has_high : (h : ℕ) → 64 < h → h ≤ GRPGTCNT → eqb (b.high / 2 ^ (h - 65) % 2) 1 ≡ f h
  has_high h l m = sym (member_high h (omega arith) m)

-- The same members, told otherwise.
pub has_same : {b : Bits} {f k : ℕ → Bool} → ((n : ℕ) → 1 ≤ n → n < POSITIONS → f n ≡ k n) → Has b f → Has b k
has_same e w = record { low = w.low; high = w.high; bits = λ n l m. w.bits n l m ∙ e n l m }

-- No bit is set where there is no member.

no_bit : (i : ℕ) → bit_in 0 0 i ≡ false
no_bit i = go (ltb i 64)
  where
    go : (t : Bool) → cond t (eqb (0 / 2 ^ i % 2) 1) (eqb (0 / 2 ^ (i - 64) % 2) 1) ≡ false
    go true = ap (λ (x : ℕ). eqb (x % 2) 1) (zero_bit i)
    go false = ap (λ (x : ℕ). eqb (x % 2) 1) (zero_bit (i - 64))

pub has_none : Has (bits 0 0) (λ (n : ℕ). false)
has_none = record { low = omega arith; high = omega arith; bits = λ n l m. no_bit (n - 1) }

no_member : (b : Bits) (f : ℕ → Bool) → Has b f → b.low ≡ 0 → b.high ≡ 0 → (n : ℕ) → 1 ≤ n → n < POSITIONS → f n ≡ false
no_member b f w x y n l m = sym (w.bits n l m) ∙ ap₂ (λ (p q : ℕ). bit_in p q (n - 1)) x y ∙ no_bit (n - 1)

-- Two sets go together.

-- An operation that goes bit by bit goes member by member.
module _ (op : ℕ → ℕ → ℕ) (g : Bool → Bool → Bool) (law : (w x j : ℕ) → eqb (op w x / 2 ^ j % 2) 1 ≡ g (eqb (w / 2 ^ j % 2) 1) (eqb (x / 2 ^ j % 2) 1)) where
  on_bits : (l h m k i : ℕ) → bit_in (op l m) (op h k) i ≡ g (bit_in l h i) (bit_in m k i)
  on_bits l h m k i = go (ltb i 64)
    where
      go : (t : Bool) → cond t (eqb (op l m / 2 ^ i % 2) 1) (eqb (op h k / 2 ^ (i - 64) % 2) 1) ≡ g (cond t (eqb (l / 2 ^ i % 2) 1) (eqb (h / 2 ^ (i - 64) % 2) 1)) (cond t (eqb (m / 2 ^ i % 2) 1) (eqb (k / 2 ^ (i - 64) % 2) 1))
      go true = law l m i
      go false = law h k (i - 64)

  on_members : (a b : Bits) (f k : ℕ → Bool) → Has a f → Has b k → op a.low b.low < 2 ^ 64 → op a.high b.high < 2 ^ 32 → Has (bits (op a.low b.low) (op a.high b.high)) (λ (n : ℕ). g (f n) (k n))
  on_members a b f k v w x y = record { low = x; high = y; bits = λ n l m. on_bits a.low a.high b.low b.high (n - 1) ∙ ap₂ g (v.bits n l m) (w.bits n l m) }

pub has_joined : (a b : Bits) (f k : ℕ → Bool) → Has a f → Has b k → Has (bits (bit_or a.low b.low) (bit_or a.high b.high)) (λ (n : ℕ). f n || k n)
has_joined a b f k v w = on_members bit_or ◌||◌ or_either a b f k v w (or_lt 64 a.low b.low v.low w.low) (or_lt 32 a.high b.high v.high w.high)

pub has_common : (a b : Bits) (f k : ℕ → Bool) → Has a f → Has b k → Has (bits (bit_and a.low b.low) (bit_and a.high b.high)) (λ (n : ℕ). f n && k n)
has_common a b f k v w = on_members bit_and ◌&&◌ and_both a b f k v w (omega (arith, v.low, and_le_l a.low b.low)) (omega (arith, v.high, and_le_l a.high b.high))

abbrev less : ℕ → ℕ → ℕ
less w x = bit_and w (bit_xor w x)

pub has_without : (a b : Bits) (f k : ℕ → Bool) → Has a f → Has b k → Has (bits (bit_and a.low (bit_xor a.low b.low)) (bit_and a.high (bit_xor a.high b.high))) (λ (n : ℕ). f n && not (k n))
has_without a b f k v w = on_members less (λ (x y : Bool). x && not y) law a b f k v w (omega (arith, v.low, and_le_l a.low (bit_xor a.low b.low))) (omega (arith, v.high, and_le_l a.high (bit_xor a.high b.high)))
  where
    only : (x y : Bool) → x && differs x y ≡ x && not y
    only true y = refl
    only false y = refl

    law : (w x j : ℕ) → eqb (less w x / 2 ^ j % 2) 1 ≡ eqb (w / 2 ^ j % 2) 1 && not (eqb (x / 2 ^ j % 2) 1)
    law w x j = and_both w (bit_xor w x) j ∙ ap (λ (y : Bool). eqb (w / 2 ^ j % 2) 1 && y) (xor_one w x j) ∙ only (eqb (w / 2 ^ j % 2) 1) (eqb (x / 2 ^ j % 2) 1)

-- One member more is put.

more_low : (low high i j : ℕ) → i < 64 → bit_in (bit_or low (2 ^ i)) high j ≡ bit_in low high j || eqb j i
more_low low high i j l = go (dec_lt j 64)
  where
    go : Dec (j < 64) → bit_in (bit_or low (2 ^ i)) high j ≡ bit_in low high j || eqb j i
    go (yes h) = bit_low (bit_or low (2 ^ i)) high j h ∙ or_bit low i j ∙ ap (λ (b : Bool). b || eqb j i) (sym (bit_low low high j h))
    go (no h) = bit_high (bit_or low (2 ^ i)) high j (omega arith) ∙ sym (bit_high low high j (omega arith)) ∙ sym (ap (λ (b : Bool). bit_in low high j || b) (ne_eqb j i (λ e. omega arith)) ∙ or-false (bit_in low high j))

-- Numbers less the same are the same where they were.
less_same : (k j i : ℕ) → k ≤ j → k ≤ i → eqb (j - k) (i - k) ≡ eqb j i
less_same k j i l m = go (ℕ_discrete j i)
  where
    go : Dec (j ≡ i) → eqb (j - k) (i - k) ≡ eqb j i
    go (yes e) = eq-eqb (j - k) (i - k) (omega arith) ∙ sym (eq-eqb j i e)
    go (no n) = ne_eqb (j - k) (i - k) (λ e. n (omega arith)) ∙ sym (ne_eqb j i n)

more_high : (low high i j : ℕ) → 64 ≤ i → bit_in low (bit_or high (2 ^ (i - 64))) j ≡ bit_in low high j || eqb j i
more_high low high i j l = go (dec_lt j 64)
  where
    go : Dec (j < 64) → bit_in low (bit_or high (2 ^ (i - 64))) j ≡ bit_in low high j || eqb j i
    go (yes h) = bit_low low (bit_or high (2 ^ (i - 64))) j h ∙ sym (bit_low low high j h) ∙ sym (ap (λ (b : Bool). bit_in low high j || b) (ne_eqb j i (λ e. omega arith)) ∙ or-false (bit_in low high j))
    go (no h) =
        bit_high low (bit_or high (2 ^ (i - 64))) j (omega arith)
        ∙ or_bit high (i - 64) (j - 64)
        ∙ ap (λ (b : Bool). b || eqb (j - 64) (i - 64)) (sym (bit_high low high j (omega arith)))
        ∙ ap (λ (b : Bool). bit_in low high j || b) (less_same 64 j i (omega arith) l)

module _ (b : Bits) (h : ℕ) (f : ℕ → Bool) (w : Has b f) (l : 1 ≤ h) where
  with_bit : (low high : ℕ) → low < 2 ^ 64 → high < 2 ^ 32 → ((j : ℕ) → bit_in low high j ≡ bit_in b.low b.high j || eqb j (h - 1)) → Has (bits low high) (λ (n : ℕ). f n || eqb n h)
  with_bit low high x y e = record { low = x; high = y; bits = λ n i m. e (n - 1) ∙ ap₂ (λ (p q : Bool). p || q) (w.bits n i m) (less_same 1 n h i l) }

  pub with_low : (k : ℕ) → k ≡ h - 1 → h ≤ 64 → Has (bits (bit_or b.low (1 * 2 ^ k % 2 ^ 64)) b.high) (λ (n : ℕ). f n || eqb n h)
  with_low k e m =
      rw (shifted_wide k (omega arith), e)
      (with_bit (bit_or b.low (2 ^ (h - 1))) b.high (or_lt 64 b.low (2 ^ (h - 1)) w.low (pow-lt {j = 64} (omega arith))) w.high (λ j. more_low b.low b.high (h - 1) j (omega arith)))

  pub with_high : (k : ℕ) → k ≡ h - 65 → 64 < h → h ≤ GRPGTCNT → Has (bits b.low (bit_or b.high (1 * 2 ^ k % 2 ^ 64))) (λ (n : ℕ). f n || eqb n h)
  with_high k e d m =
      let i : k ≡ h - 1 - 64 = omega arith in
      rw (shifted_wide k (omega arith), i)
      (with_bit b.low (bit_or b.high (2 ^ (h - 1 - 64))) w.low (or_lt 32 b.high (2 ^ (h - 1 - 64)) w.high (pow-lt {j = 32} (omega arith))) (λ j. more_high b.low b.high (h - 1) j (omega arith)))

-- The first member is that of the lowest bit.

module _ (b : Bits) (f : ℕ → Bool) (w : Has b f) (r : ℕ) where
  unset : {x : ℕ} → x ≡ 0 → eqb x 1 ≡ false
  unset e = ap (λ (n : ℕ). eqb n 1) e

  from_first : Lowest b.low r → r < 64 → First f (r + 1)
  from_first v l =
      let e : r + 1 - 1 ≡ r = omega arith in
      some (omega arith) (omega arith) (member_low b f w (r + 1) (omega arith) (omega arith) ∙ ap (λ (k : ℕ). eqb (b.low / 2 ^ k % 2) 1) e ∙ ap (λ (k : ℕ). eqb k 1) v.here) (λ n i j. member_low b f w n i (omega arith) ∙ unset (v.lower (n - 1) (omega arith)))

  pub first_low : (q : ℕ) → q ≡ r + 1 → Lowest b.low r → r < 64 → First f q
  first_low q e v l = rw e (from_first v l)

  module _ (empty : b.low ≡ 0) where
    low_none : (n : ℕ) → 1 ≤ n → n ≤ 64 → f n ≡ false
    low_none n l m = member_low b f w n l m ∙ ap (λ (k : ℕ). eqb (k / 2 ^ (n - 1) % 2) 1) empty ∙ ap (λ (k : ℕ). eqb (k % 2) 1) (zero_bit (n - 1))

    from_second : Lowest b.high r → First f (r + 65)
    from_second v =
        let l : r < 32 = bit_below 32 b.high r w.high v.here in
        let e : r + 65 - 65 ≡ r = omega arith in
        some (omega arith) (omega arith) (member_high b f w (r + 65) (omega arith) (omega arith) ∙ ap (λ (k : ℕ). eqb (b.high / 2 ^ k % 2) 1) e ∙ ap (λ (k : ℕ). eqb k 1) v.here) (λ n i j. go n i (omega arith) (omega arith) (dec_le n 64))
      where
        go : (n : ℕ) → 1 ≤ n → n < r + 65 → n ≤ GRPGTCNT → Dec (n ≤ 64) → f n ≡ false
        go n i j m (yes d) = low_none n i d
        go n i j m (no d) = member_high b f w n (omega arith) m ∙ unset (v.lower (n - 65) (omega arith))

    pub first_high : (q : ℕ) → q ≡ r + 65 → Lowest b.high r → First f q
    first_high q e v = rw e (from_second v)

    pub first_none : b.high ≡ 0 → r ≡ 0 → First f r
    first_none e z = none z (no_member b f w empty e)

-- There may be no member.

pub is_none : (b : Bits) → IsNone b (eqb (bit_or b.low b.high) 0)
is_none b =
    record {
      none = λ e f w. let z = eqb-true (bit_or b.low b.high) 0 e in no_member b f w (omega (arith, z, or_add_and b.low b.high, and_le_r b.low b.high)) (omega (arith, z, or_add_and b.low b.high, and_le_l b.low b.high));
      some = λ e f w. go f w (eqb-false (bit_or b.low b.high) 0 e) (ℕ_discrete b.low 0) (ℕ_discrete b.high 0);
    }
  where
    found : (f : ℕ → Bool) (r : ℕ) → 1 ≤ r → First f r → (n : ℕ) × (1 ≤ n) × (n < POSITIONS) × (f n ≡ true)
    found f r l (none z e) = absurd (omega arith)
    found f r l (some a c e d) = (r, a, c, e)

    go : (f : ℕ → Bool) → Has b f → (bit_or b.low b.high ≡ 0 → ⊥) → Dec (b.low ≡ 0) → Dec (b.high ≡ 0) → (n : ℕ) × (1 ≤ n) × (n < POSITIONS) × (f n ≡ true)
    go f w n (no d) y = let (few, v) = lowest_of b.low (omega arith) w.low in found f _ (omega arith) (first_low b f w _ _ refl v few)
    go f w n (yes d) (no y) = let (few, v) = lowest_of b.high (omega arith) (omega (arith, w.high)) in found f _ (omega arith) (first_high b f w _ d _ refl v)
    go f w n (yes d) (yes y) = absurd (n (ap₂ bit_or d y))

-- Those above a member stay where the bits up to it are cut off.

cut_le : (y s : ℕ) → y / 2 ^ s * 2 ^ s ≤ y
cut_le y s = omega (arith, split y s)

-- Cut off below and shifted back, a number keeps its bits from there on.
cut_bit : (y s j : ℕ) → eqb (y / 2 ^ s * 2 ^ s / 2 ^ j % 2) 1 ≡ eqb (y / 2 ^ j % 2) 1 && leb s j
cut_bit y s j = ap (λ (n : ℕ). eqb (n / 2 ^ j % 2) 1) (sym (add-zero (y / 2 ^ s * 2 ^ s))) ∙ go (dec_lt j s)
  where
    go : Dec (j < s) → eqb ((y / 2 ^ s * 2 ^ s + 0) / 2 ^ j % 2) 1 ≡ eqb (y / 2 ^ j % 2) 1 && leb s j
    go (yes l) = ap (λ (n : ℕ). eqb n 1) (low_bit s 0 (y / 2 ^ s) (pow_pos s) j l ∙ ap (λ (n : ℕ). n % 2) (zero_bit j)) ∙ sym (ap (λ (t : Bool). eqb (y / 2 ^ j % 2) 1 && t) (lt-leb s j l) ∙ and-false (eqb (y / 2 ^ j % 2) 1))
    go (no l) =
        let e : s + (j - s) ≡ j = omega arith in
        ap (λ (n : ℕ). eqb ((y / 2 ^ s * 2 ^ s + 0) / 2 ^ n % 2) 1) (sym e)
        ∙ ap (λ (n : ℕ). eqb n 1) (high_bit s 0 (y / 2 ^ s) (pow_pos s) (j - s) ∙ ap (λ (n : ℕ). n % 2) (shr-shr y s (j - s)))
        ∙ ap (λ (n : ℕ). eqb (y / 2 ^ n % 2) 1) e
        ∙ sym (and-true (eqb (y / 2 ^ j % 2) 1))
        ∙ ap (λ (t : Bool). eqb (y / 2 ^ j % 2) 1 && t) (sym (le-leb s j (omega arith)))

cut_exact : (y s w : ℕ) → y < 2 ^ w → s ≤ w → w ≤ 64 → y / 2 ^ s * 2 ^ s % 2 ^ 64 ≡ y / 2 ^ s * 2 ^ s
cut_exact y s w small l m = let e : w ≡ (w - s) + s = omega arith in shl_exact {a = y / 2 ^ s} (w - s) s 64 (shr_lt {n = y} (w - s) s (subst (λ (n : ℕ). y < 2 ^ n) e small)) (omega arith)

module _ (b : Bits) (f : ℕ → Bool) (w : Has b f) (x : ℕ) where
  same_test : (n s i : ℕ) → (s ≤ i → x < n) → (x < n → s ≤ i) → leb s i ≡ ltb x n
  same_test n s i to from = go (dec_le s i)
    where
      go : Dec (s ≤ i) → leb s i ≡ ltb x n
      go (yes l) = le-leb s i l ∙ sym (lt-ltb x n (to l))
      go (no l) = lt-leb s i (omega arith) ∙ sym (le-ltb x n (not_less (dec_lt x n)))
        where
          not_less : Dec (x < n) → n ≤ x
          not_less (yes m) = absurd (l (from m))
          not_less (no m) = omega arith

  pub above_low : x < 64 → Has (bits (b.low / 2 ^ x * 2 ^ x % 2 ^ 64) b.high) (λ (n : ℕ). f n && ltb x n)
  above_low few = rw (cut_exact b.low x 64 w.low (omega arith) (omega arith)) (record { low = omega (arith, cut_le b.low x, w.low); high = w.high; bits = λ n l m. go n l m (dec_le n 64) })
    where
      go : (n : ℕ) → 1 ≤ n → n < POSITIONS → Dec (n ≤ 64) → bit_in (b.low / 2 ^ x * 2 ^ x) b.high (n - 1) ≡ f n && ltb x n
      go n l m (yes d) = bit_low _ b.high (n - 1) (omega arith) ∙ cut_bit b.low x (n - 1) ∙ ap (λ (t : Bool). t && leb x (n - 1)) (has_low b f w n l d) ∙ ap (λ (t : Bool). f n && t) (same_test n x (n - 1) (λ i. omega arith) (λ i. omega arith))
      go n l m (no d) = let e : n - 1 - 64 ≡ n - 65 = omega arith in bit_high (b.low / 2 ^ x * 2 ^ x) b.high (n - 1) (omega arith) ∙ ap (λ (k : ℕ). eqb (b.high / 2 ^ k % 2) 1) e ∙ has_high b f w n (omega arith) (omega arith) ∙ sym (and-true (f n)) ∙ ap (λ (t : Bool). f n && t) (sym (lt-ltb x n (omega arith)))

  pub above_high : 64 ≤ x → x ≤ GRPGTCNT → (s : ℕ) → s ≡ x - 64 → Has (bits 0 (b.high / 2 ^ s * 2 ^ s % 2 ^ 64)) (λ (n : ℕ). f n && ltb x n)
  above_high many few s is = rw (cut_exact b.high s 32 w.high (omega arith) (omega arith)) (record { low = omega arith; high = omega (arith, cut_le b.high s, w.high); bits = λ n l m. go n l m (dec_le n 64) })
    where
      go : (n : ℕ) → 1 ≤ n → n < POSITIONS → Dec (n ≤ 64) → bit_in 0 (b.high / 2 ^ s * 2 ^ s) (n - 1) ≡ f n && ltb x n
      go n l m (yes d) = bit_low 0 (b.high / 2 ^ s * 2 ^ s) (n - 1) (omega arith) ∙ ap (λ (k : ℕ). eqb (k % 2) 1) (zero_bit (n - 1)) ∙ sym (and-false (f n)) ∙ ap (λ (t : Bool). f n && t) (sym (le-ltb x n (omega arith)))
      go n l m (no d) =
          let e : n - 1 - 64 ≡ n - 65 = omega arith in
          bit_high 0 (b.high / 2 ^ s * 2 ^ s) (n - 1) (omega arith)
          ∙ ap (λ (k : ℕ). eqb (b.high / 2 ^ s * 2 ^ s / 2 ^ k % 2) 1) e
          ∙ cut_bit b.high s (n - 65)
          ∙ ap (λ (t : Bool). t && leb s (n - 65)) (has_high b f w n (omega arith) (omega arith))
          ∙ ap (λ (t : Bool). f n && t) (same_test n s (n - 65) (λ i. omega arith) (λ i. omega arith))

-- Members stand one after another.

-- The bits b have the k members from `from` on.
abbrev pub Ranged : (b : Bits) (from k : ℕ) → Type 0
Ranged b from k = Has b (λ (n : ℕ). leb from n && ltb n (from + k))

module _ (from n : ℕ) where
  inside : (k : ℕ) → from ≤ n → n < from + k → leb from n && ltb n (from + k) ≡ true
  inside k l m = rw (le-leb from n l, lt-ltb n (from + k) m)

  before : (k : ℕ) → n < from → leb from n && ltb n (from + k) ≡ false
  before k l = rw (lt-leb from n l)

  behind : (k : ℕ) → from ≤ n → from + k ≤ n → leb from n && ltb n (from + k) ≡ false
  behind k l m = rw (le-leb from n l, le-ltb n (from + k) m)

  another : (k : ℕ) → Dec (from ≤ n) → Dec (n < from + k) → Dec (n ≡ from + k) → (leb from n && ltb n (from + k)) || eqb n (from + k) ≡ leb from n && ltb n (from + (k + 1))
  another k (no a) y z = rw (before k (omega arith), before (k + 1) (omega arith), ne_eqb n (from + k) (λ e. omega arith))
  another k (yes a) (yes y) z = rw (inside k a y, inside (k + 1) a (omega arith))
  another k (yes a) (no y) (yes z) = rw (behind k a (omega arith), inside (k + 1) a (omega arith), eq-eqb n (from + k) z)
  another k (yes a) (no y) (no z) = rw (behind k a (omega arith), behind (k + 1) a (omega arith), ne_eqb n (from + k) z)

  no_other : (k : ℕ) → (n ≡ from + k → ⊥) → Dec (from ≤ n) → Dec (n < from + k) → leb from n && ltb n (from + k) ≡ leb from n && ltb n (from + (k + 1))
  no_other k z (no a) y = before k (omega arith) ∙ sym (before (k + 1) (omega arith))
  no_other k z (yes a) (yes y) = inside k a y ∙ sym (inside (k + 1) a (omega arith))
  no_other k z (yes a) (no y) = let d : from + k < n = go (dec_lt (from + k) n) in behind k a (omega arith) ∙ sym (behind (k + 1) a (omega arith))
    where
      go : Dec (from + k < n) → from + k < n
      go (yes d) = d
      go (no d) = absurd (z (omega arith))

pub ranged_none : {b : Bits} (from : ℕ) → Has b (λ (n : ℕ). false) → Ranged b from 0
ranged_none from w = has_same (λ n l m. sym (go n (dec_le from n))) w
  where
    go : (n : ℕ) → Dec (from ≤ n) → leb from n && ltb n (from + 0) ≡ false
    go n (yes a) = behind from n 0 a (omega arith)
    go n (no a) = before from n 0 (omega arith)

pub ranged_more : {b : Bits} (from k : ℕ) → Has b (λ (n : ℕ). (leb from n && ltb n (from + k)) || eqb n (from + k)) → Ranged b from (k + 1)
ranged_more from k w = has_same (λ n l m. another from n k (dec_le from n) (dec_lt n (from + k)) (ℕ_discrete n (from + k))) w

pub ranged_past : {b : Bits} (from k : ℕ) → (1 ≤ from + k → from + k ≤ GRPGTCNT → ⊥) → Ranged b from k → Ranged b from (k + 1)
ranged_past from k out w = has_same (λ n l m. no_other from n k (λ e. out (omega arith) (omega arith)) (dec_le from n) (dec_lt n (from + k))) w

pub ranged_as : {b x : Bits} (from k n : ℕ) → x ≡ b → n ≡ k → Ranged b from k → Ranged x from n
ranged_as from k n e d w = rw (e, d) w

-- Three words have 32 members each.

module _ (a b c : ℕ) (f : ℕ → Bool) (few_a : a < 4294967296) (few_b : b < 4294967296) (few_c : c < 4294967296) (in_a : (k : ℕ) → k < 32 → eqb (a / 2 ^ k % 2) 1 ≡ f (k + 1)) (in_b : (k : ℕ) → k < 32 → eqb (b / 2 ^ k % 2) 1 ≡ f (k + 33)) (in_c : (k : ℕ) → k < 32 → eqb (c / 2 ^ k % 2) 1 ≡ f (k + 65)) where
  side : a + b * 4294967296 ≡ b * 2 ^ 32 + a
  side = omega arith

  word_bit : (n : ℕ) → 1 ≤ n → n ≤ GRPGTCNT → Dec (n ≤ 32) → Dec (n ≤ 64) → bit_in (a + b * 4294967296) c (n - 1) ≡ f n
  word_bit n l m (yes x) y =
      let e : n - 1 + 1 ≡ n = omega arith in
      bit_low (a + b * 4294967296) c (n - 1) (omega arith) ∙ ap (λ (z : ℕ). eqb (z / 2 ^ (n - 1) % 2) 1) side ∙ ap (λ (z : ℕ). eqb z 1) (low_bit 32 a b few_a (n - 1) (omega arith)) ∙ in_a (n - 1) (omega arith) ∙ ap f e
  word_bit n l m (no x) (yes y) =
      let e : n - 33 + 33 ≡ n = omega arith in
      let d : n - 1 ≡ 32 + (n - 33) = omega arith in
      bit_low (a + b * 4294967296) c (n - 1) (omega arith) ∙ ap₂ (λ (z k : ℕ). eqb (z / 2 ^ k % 2) 1) side d ∙ ap (λ (z : ℕ). eqb z 1) (high_bit 32 a b few_a (n - 33)) ∙ in_b (n - 33) (omega arith) ∙ ap f e
  word_bit n l m (no x) (no y) =
      let e : n - 1 - 64 + 65 ≡ n = omega arith in
      bit_high (a + b * 4294967296) c (n - 1) (omega arith) ∙ in_c (n - 1 - 64) (omega arith) ∙ ap f e

  pub has_words : Has (bits (a + b * 4294967296) c) f
  has_words = record { low = omega arith; high = few_c; bits = λ n l m. word_bit n l (omega arith) (dec_le n 32) (dec_le n 64) }
