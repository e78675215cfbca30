-- Laws of the tests of stretches: what one of them leaves for the whole.
use Rattle.std.specs.Prelude.{ℕ, ◌+◌, ◌≤◌, ◌<◌, ◌≡◌, refl, Bool, true, false, List, length, get_or, leb}
use Rattle.std.proofs.Common.{sym, arith, leb-true, leb-false}
use Rattle.std.proofs.Math.Decide.{ℕ_discrete}
use Rattle.rules.specs.Batch.{Equal, Unfit, batch_limit}
use Rattle.stretches.specs.Fit.{Apart, AllWithin, Shared, ApartFrom, AllApart, batch_of, Fits}

-- The second begins at the end of the first, or behind it; or the first does so to the second, or they share a number.
pub apart_by : (from size other its : ℕ) (b : Bool) → (size ≡ 0 → ⊥) → (its ≡ 0 → ⊥) → other < from + size → b ≡ leb (other + its) from → Apart from size other its b
apart_by from size other its b s t h e = by_test b (sym e)
  where
    by_test : (b : Bool) → leb (other + its) from ≡ b → Apart from size other its b
    by_test true z = λ k x y. omega (arith, leb-true (other + its) from z, x.0, y.1)
    by_test false z = by_order (leb from other) refl
      where
        by_order : (q : Bool) → leb from other ≡ q → Apart from size other its false
        by_order true w = (other, (leb-true from other w, h), (omega arith, omega arith))
        by_order false w = (from, (omega arith, omega arith), (omega (arith, leb-false from other w), leb-false (other + its) from z))

-- One more is apart from the i-th.
pub apart_turn : (froms sizes : List ℕ) (i n : ℕ) → ApartFrom froms sizes i n true → Apart (get_or froms n 0) (get_or sizes n 0) (get_or froms i 0) (get_or sizes i 0) true → ApartFrom froms sizes i (n + 1) true
apart_turn froms sizes i n h a j k l = go (ℕ_discrete j n)
  where
    go : Dec (j ≡ n) → Shared froms sizes i j k → ⊥
    go (yes z) e = let e' = rw z at e in a k e'.0 e'.1
    go (no z) e = h j k (omega arith) e

-- One more is apart from those before it.
pub all_turn : (froms sizes : List ℕ) (n : ℕ) → AllApart froms sizes n true → ApartFrom froms sizes n n true → AllApart froms sizes (n + 1) true
all_turn froms sizes n h a i j k l m = go (ℕ_discrete i n)
  where
    go : Dec (i ≡ n) → Shared froms sizes i j k → ⊥
    go (yes z) e = a j k (omega arith) (rw z at e)
    go (no z) e = h i j k (omega arith) m e

-- All tests together say that the stretches fit.
module _ (starts lengths froms sizes : List ℕ) (answers room : ℕ) where
  pub fits_whole : (b : Bool) → length starts ≤ batch_limit → Equal (batch_of starts lengths froms sizes) answers → AllWithin froms sizes room (length froms) true → AllApart froms sizes (length froms) b → Fits starts lengths froms sizes answers room b
  fits_whole true few q w a = go
    where
      go : Unfit (batch_of starts lengths froms sizes) answers room → ⊥
      go (Unfit.too_many h) = omega arith
      go (Unfit.unequal h) = h q
      go (Unfit.sharing i j k h l x y) = a j i k (omega (arith, q.froms_equal)) h (x, y)
      go (Unfit.passing i l h) = omega (arith, w i (omega (arith, q.froms_equal)))
  fits_whole false few q w (i, j, k, l, h, e) = Unfit.sharing j i k h (omega (arith, q.froms_equal)) e.0 e.1

  pub fits_passing : length froms ≡ length starts → AllWithin froms sizes room (length froms) false → Unfit (batch_of starts lengths froms sizes) answers room
  fits_passing e (i, l, h) = Unfit.passing i (omega arith) h
