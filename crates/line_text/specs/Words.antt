-- Laws of words and of what is put into the buffer.
use Rattle.std.specs.Prelude.{ℕ, zero, suc, ◌+◌, ◌-◌, ◌/◌, ◌%◌, ◌^◌, ◌≤◌, ◌<◌, ◌≡◌, refl, List, [], ◌∷◌, ◌++◌}
use Rattle.std.specs.Prelude.{length, take}
use Rattle.std.proofs.Common.{sym, ap, ◌∙◌, append_assoc, append-nil, arith, add-zero, pow-suc, length-append}
use Rattle.std.proofs.Common.{le-leb, lt-ltb}
use Rattle.std.proofs.Math.Nat.{pow-zero}
use Rattle.std.proofs.lemmas.Bool.{lt-leb}
use Rattle.io.specs.Digits.{last_digits, hex_digit_ascii, IsDigitCount}
use Rattle.rules.specs.Bytes.{byte_at, fold}
use Rattle.rules.specs.Printed.{decimal_within, decimal, word, upper}
use Rattle.line_text.specs.Adds.{Adds}

-- One text behind another.
pub puts_both : {before middle after : List ℕ} {at q r : ℕ} {x y : List ℕ} → Adds before at middle q x → Adds middle q after r y → Adds before at after r (x ++ y)
puts_both {before} {middle} {after} {at} {q} {r} {x} {y} a b =
    record {
      same = b.same ∙ a.same;
      ends = omega (arith, a.ends, b.ends, length-append x y);
      within = omega (arith, b.within, a.same);
      text_is = b.text_is ∙ rw a.text_is (append_assoc (take at before) x y);
    }

-- Upper case, from the first byte on.

pub upper_length : (s : List ℕ) (at n : ℕ) → length (upper s at n) ≡ n
unfolding upper
upper_length s at zero = refl
upper_length s at (suc n) = ap suc (upper_length s (at + 1) n)

-- One byte more, at the end.
upper_last : (s : List ℕ) (at n : ℕ) → upper s at (suc n) ≡ upper s at n ++ (fold (byte_at s (at + n)) ∷ [])
unfolding upper
upper_last s at zero = rw (add-zero at)
upper_last s at (suc n) =
    let e : at + suc n ≡ at + 1 + n = omega arith in
    rw e (ap (λ (l : List ℕ). fold (byte_at s at) ∷ l) (upper_last s (at + 1) n))

adds_none : {out : List ℕ} {at : ℕ} → at ≤ length out → Adds out at out at []
adds_none {out} {at} h =
    record { same = refl; ends = omega arith; within = h; text_is = sym (append-nil (take at out)) }

-- The loop that puts a name in upper case: nothing is put yet, and a turn of it.
pub upper_none : {out : List ℕ} {at i : ℕ} (s : List ℕ) (from : ℕ) → at ≤ length out → i ≡ from
    → Adds out at out at (upper s from (i - from))
unfolding upper
upper_none {i = i} s from h e =
    let none : i - from ≡ 0 = omega arith in
    rw (none, upper) (adds_none h)

pub upper_turn : {before middle after : List ℕ} {at q r i b : ℕ} (s : List ℕ) (from : ℕ) → from ≤ i
    → b ≡ fold (byte_at s i) → Adds before at middle q (upper s from (i - from))
    → Adds middle q after r (b ∷ [])
    → Adds before at after r (upper s from (i + 1 - from))
upper_turn {i} s from h e x y =
    let more : i + 1 - from ≡ suc (i - from) = omega arith in
    let here : i ≡ from + (i - from) = omega arith in
    rw (more, upper_last s from (i - from), ← here, ← e) (puts_both x y)

-- The digits that are written are the decimal number.

last_digit : (n : ℕ) → hex_digit_ascii (n % 10) ≡ 48 + n % 10
last_digit n = rw (lt-ltb (n % 10) 10 (omega arith))

-- A power of ten is larger than its exponent.
power_more : (k : ℕ) → k < 10 ^ k
power_more zero = rw pow-zero (omega arith)
power_more (suc k) = omega (arith, power_more k, pow-suc 10 k)

digits_are : (k m n : ℕ) → IsDigitCount 10 1 n (suc k) → k ≤ m → last_digits 10 (suc k) n ≡ decimal_within m n
unfolding decimal_within
digits_are zero zero n f h = rw last_digit
digits_are zero (suc m) n f h = rw (lt-leb 10 n f.1, last_digit, decimal_within)
digits_are (suc k) zero n f h = absurd (omega arith)
digits_are (suc k) (suc m) n f h =
    let less : suc (suc k) - 1 ≡ suc k = omega arith in
    let low : 10 ^ suc k ≤ n = rw less at (f.2 (omega arith)) in
    let some = power_more k in
    let high = f.1 in
    let shorter : IsDigitCount 10 1 (n / 10) (suc k) = (omega arith, omega (arith, pow-suc 10 (suc k)), λ l. shorter_low) in
    rw (last_digit n, le-leb 10 n (omega (arith, pow-suc 10 k)), decimal_within) (ap (λ (l : List ℕ). l ++ ((48 + n % 10) ∷ [])) (digits_are k m (n / 10) shorter (omega arith)))
  where
    shorter_low : 10 ^ (suc k - 1) ≤ n / 10
    shorter_low =
        let less : suc (suc k) - 1 ≡ suc k = omega arith in
        let same : suc k - 1 ≡ k = omega arith in
        let low : 10 ^ suc k ≤ n = rw less at (f.2 (omega arith)) in
        rw same (omega (arith, pow-suc 10 k))

pub digits_decimal : (n k : ℕ) → IsDigitCount 10 1 n k → last_digits 10 k n ≡ decimal n
unfolding decimal
digits_decimal n zero f = absurd (omega arith)
digits_decimal n (suc k) f = digits_are k n n f (few k f)
  where
    few : (k : ℕ) → IsDigitCount 10 1 n (suc k) → k ≤ n
    few zero f = omega arith
    few (suc k) f = let less : suc (suc k) - 1 ≡ suc k = omega arith in omega (arith, power_more (suc k), rw less at (f.2 (omega arith)))

-- A number and the byte after it.
pub puts_number : {before middle after : List ℕ} {at q r : ℕ} (written : List ℕ) (k n b : ℕ) → IsDigitCount 10 1 n k → take k written ≡ last_digits 10 k n
    → Adds before at middle q (take k written) → Adds middle q after r (b ∷ []) → Adds before at after r (word (decimal n) b)
unfolding word
puts_number written k n b f e x y = rw (← digits_decimal n k f, ← e) (puts_both x y)
