-- Numbers: one is below another or not, and a list of equal numbers.
use Rattle.std.specs.Prelude.{ℕ, zero, suc, ◌≤◌, ◌<◌, ◌≡◌, refl, ◌⊎◌, Bool, true, false, cond, get_or, replicate}
use Rattle.std.proofs.Common.{inl, inr, arith}
use Rattle.std.proofs.Math.Decide.{dec_lt}

pub below_or_from : (a b : ℕ) → (a < b) ⊎ (b ≤ a)
below_or_from a b = decided (dec_lt a b)
  where
    decided : Dec (a < b) → (a < b) ⊎ (b ≤ a)
    decided (yes h) = inl h
    decided (no h) = inr (omega arith)

-- What cannot be 1 or more is 0.
pub none_there : (n : ℕ) → (1 ≤ n → ⊥) → n ≡ 0
none_there n f = decided (dec_lt 0 n)
  where
    decided : Dec (0 < n) → n ≡ 0
    decided (yes h) = absurd (f (omega arith))
    decided (no h) = omega arith

-- A bit is at most 1.
pub bit_most : (b : Bool) → cond b 1 0 ≤ 1
bit_most true = omega arith
bit_most false = omega arith

-- Every number of a list is x, and behind it x is asked for.
pub replicate_at : {A : Type 0} (n : ℕ) (x : A) (k : ℕ) → get_or (replicate n x) k x ≡ x
replicate_at zero x k = refl
replicate_at (suc n) x zero = refl
replicate_at (suc n) x (suc k) = replicate_at n x k
