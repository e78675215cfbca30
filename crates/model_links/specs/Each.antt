-- A change of a list, made for each number of a range in turn.
use Prim.Native.Nat.{ℕ, zero, suc, ◌+◌, ◌-◌, ◌≤◌, ◌<◌}
use Rattle.std.specs.Prelude.{◌≡◌, List}
use Rattle.std.proofs.Common.{sym, ◌∙◌}
use native.Mathlib.Omega.{arith}

-- The function f goes at i, i + 1, .., as often as the last argument says.
unfoldable pub turns : (List ℕ → ℕ → List ℕ) → List ℕ → ℕ → ℕ → List ℕ
turns f T i zero = T
turns f T i (suc k) = turns f (f T i) (i + 1) k

-- The function f goes at each of [a, b).
unfoldable pub each : (List ℕ → ℕ → List ℕ) → List ℕ → ℕ → ℕ → List ℕ
each f T a b = turns f T a (b - a)

module _ (f : List ℕ → ℕ → List ℕ) (T : List ℕ) (a b : ℕ) where
  pub each_none : b ≤ a → each f T a b ≡ T
  unfolding each turns
  each_none h =
      let e : b - a ≡ 0 = omega arith in
      rw e

  pub each_more : a < b → each f T a b ≡ each f (f T a) (a + 1) b
  unfolding each turns
  each_more h =
      let e : b - a ≡ suc (b - (a + 1)) = omega arith in
      rw e

  -- These are the turn of a loop that leaves R, and its end.
  pub each_turn : (S R : List ℕ) → S ≡ f T a → a < b → each f T a b ≡ R → each f S (a + 1) b ≡ R
  each_turn S R e h r = rw e (sym (each_more h) ∙ r)

  pub each_end : (R : List ℕ) → b ≤ a → each f T a b ≡ R → T ≡ R
  each_end R h r = sym (each_none h) ∙ r

-- What holds at the start and is kept by each turn holds at the end.
module _ (f : List ℕ → ℕ → List ℕ) (a b : ℕ) (P : List ℕ → ℕ → Type 0) (keeps : (S : List ℕ) (i : ℕ) → a ≤ i → i < b → P S i → P (f S i) (i + 1)) where
  kept : (k : ℕ) (T : List ℕ) (i : ℕ) → a ≤ i → i + k ≡ b → P T i → P (turns f T i k) b
  unfolding turns
  kept zero T i le e h =
      let q : i ≡ b = omega arith in
      rw q at h
  kept (suc k) T i le e h = kept k (f T i) (i + 1) (omega arith) (omega arith) (keeps T i le (omega arith) h)

  pub each_keeps : (T : List ℕ) → a ≤ b → P T a → P (each f T a b) b
  unfolding each
  each_keeps T le h = kept (b - a) T a (omega arith) (omega arith) h
