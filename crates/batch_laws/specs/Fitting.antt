-- Whether the lists of a batch are fit is decided, by the tests that its stretches are put to.
use Rattle.std.specs.Prelude.{ℕ, zero, suc, ◌+◌, ◌*◌, ◌≤◌, ◌<◌, ◌≡◌, refl, Bool, true, false, List, length, get_or, leb}
use Rattle.std.proofs.Common.{arith}
use Rattle.std.proofs.Math.Decide.{ℕ_discrete, dec_lt}
use Rattle.rules.specs.Batch.{Batch, Equal, Unfit, answer_width, batch_limit}
use Rattle.stretches.specs.Fit.{Apart, AllWithin, ApartFrom, AllApart, Fits}
use Rattle.stretches.specs.Tests.{apart_by, apart_turn, all_turn, fits_whole, fits_passing}

-- Two stretches share no number, or they share one.
apart_or_not : (from size other its : ℕ) → (b : Bool) × Apart from size other its b
apart_or_not from size other its =
    by_empty (ℕ_discrete size 0) (ℕ_discrete its 0) (dec_lt other (from + size))
  where
    by_empty : Dec (size ≡ 0) → Dec (its ≡ 0) → Dec (other < from + size)
        → (b : Bool) × Apart from size other its b
    by_empty (yes e) i l = (true, λ k x y. omega (arith, x.0, x.1))
    by_empty (no e) (yes i) l = (true, λ k x y. omega (arith, y.0, y.1))
    by_empty (no e) (no i) (yes l) =
        (leb (other + its) from, apart_by from size other its (leb (other + its) from) e i l refl)
    by_empty (no e) (no i) (no l) = (true, λ k x y. omega (arith, x.1, y.0))

module _ (froms sizes : List ℕ) where
  -- One more ends within the room.
  within_turn : (room n : ℕ) → AllWithin froms sizes room n true → get_or froms n 0 + get_or sizes n 0 ≤ room
      → AllWithin froms sizes room (n + 1) true
  within_turn room n h e i l = go (ℕ_discrete i n)
    where
      go : Dec (i ≡ n) → get_or froms i 0 + get_or sizes i 0 ≤ room
      go (yes z) = rw z e
      go (no z) = h i (omega arith)

  -- The first n end within the room, or one of them does not.
  within_or_not : (room n : ℕ) → (b : Bool) × AllWithin froms sizes room n b
  within_or_not room zero = (true, λ i h. absurd (omega arith))
  within_or_not room (suc n) = go (within_or_not room n) (dec_lt room (get_or froms n 0 + get_or sizes n 0))
    where
      go : (b : Bool) × AllWithin froms sizes room n b → Dec (room < get_or froms n 0 + get_or sizes n 0)
          → (b : Bool) × AllWithin froms sizes room (suc n) b
      go (false, (i, l, h)) d = (false, (i, omega arith, h))
      go (true, h) (yes l) = (false, (n, omega arith, l))
      go (true, h) (no l) = (true, λ i z. within_turn room n h (omega arith) i (omega arith))

  -- The i-th shares no number with the first n, or it shares one.
  from_or_not : (i n : ℕ) → (b : Bool) × ApartFrom froms sizes i n b
  from_or_not i zero = (true, λ j k h. absurd (omega arith))
  from_or_not i (suc n) =
      go (from_or_not i n)
      (apart_or_not (get_or froms n 0) (get_or sizes n 0) (get_or froms i 0) (get_or sizes i 0))
    where
      go : (b : Bool) × ApartFrom froms sizes i n b
          → (b : Bool) × Apart (get_or froms n 0) (get_or sizes n 0) (get_or froms i 0) (get_or sizes i 0) b
          → (b : Bool) × ApartFrom froms sizes i (suc n) b
      go (false, (j, k, l, h)) d = (false, (j, k, omega arith, h))
      go (true, h) (false, (k, x, y)) = (false, (n, k, omega arith, (x, y)))
      go (true, h) (true, a) = (true, λ j k z. apart_turn froms sizes i n h a j k (omega arith))

  -- No two of the first n share a number, or two do.
  all_or_not : (n : ℕ) → (b : Bool) × AllApart froms sizes n b
  all_or_not zero = (true, λ i j k h. absurd (omega arith))
  all_or_not (suc n) = go (all_or_not n) (from_or_not n n)
    where
      go : (b : Bool) × AllApart froms sizes n b → (b : Bool) × ApartFrom froms sizes n n b
          → (b : Bool) × AllApart froms sizes (suc n) b
      go (false, (i, j, k, l, m, h)) d = (false, (i, j, k, omega arith, m, h))
      go (true, h) (false, (j, k, l, e)) = (false, (n, j, k, omega arith, l, e))
      go (true, h) (true, a) = (true, λ i j k z. all_turn froms sizes n h a i j k (omega arith))

-- The lists have an entry for each document, or they have not.
equal_or_not : (b : Batch) (answers : ℕ) → Dec (Equal b answers)
equal_or_not b answers =
    go (ℕ_discrete (length b.lengths) (length b.starts)) (ℕ_discrete (length b.froms) (length b.starts))
    (ℕ_discrete (length b.sizes) (length b.starts)) (ℕ_discrete answers (answer_width * length b.starts))
  where
    go : Dec (length b.lengths ≡ length b.starts) → Dec (length b.froms ≡ length b.starts)
        → Dec (length b.sizes ≡ length b.starts) → Dec (answers ≡ answer_width * length b.starts)
        → Dec (Equal b answers)
    go (no e) f g h = no λ q. e q.lengths_equal
    go (yes e) (no f) g h = no λ q. f q.froms_equal
    go (yes e) (yes f) (no g) h = no λ q. g q.sizes_equal
    go (yes e) (yes f) (yes g) (no h) = no λ q. h q.answers_equal
    go (yes e) (yes f) (yes g) (yes h) =
        yes (record { lengths_equal = e; froms_equal = f; sizes_equal = g; answers_equal = h })

-- The lists are unfit, or they are not.
module _ (b : Batch) (answers room : ℕ) where
  unfit_by : (t : Bool) → Fits b.starts b.lengths b.froms b.sizes answers room t → Dec (Unfit b answers room)
  unfit_by true f = no f
  unfit_by false f = yes f

  by_stretches : length b.starts ≤ batch_limit → Equal b answers
      → (t : Bool) × AllWithin b.froms b.sizes room (length b.froms) t
      → (t : Bool) × AllApart b.froms b.sizes (length b.froms) t → Dec (Unfit b answers room)
  by_stretches few q (false, w) a =
      yes (fits_passing b.starts b.lengths b.froms b.sizes answers room q.froms_equal w)
  by_stretches few q (true, w) (t, a) =
      unfit_by t (fits_whole b.starts b.lengths b.froms b.sizes answers room t few q w a)

  pub unfit_or_not : Dec (Unfit b answers room)
  unfit_or_not = go (dec_lt batch_limit (length b.starts)) (equal_or_not b answers)
    where
      go : Dec (batch_limit < length b.starts) → Dec (Equal b answers) → Dec (Unfit b answers room)
      go (yes l) e = yes (Unfit.too_many l)
      go (no l) (no e) = yes (Unfit.unequal e)
      go (no l) (yes e) =
          by_stretches (omega arith) e (within_or_not b.froms b.sizes room (length b.froms))
          (all_or_not b.froms b.sizes (length b.froms))
