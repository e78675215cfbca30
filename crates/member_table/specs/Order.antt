-- The members in the order of their groups, as one group after the other is put.
use Rattle.std.specs.Prelude.{ℕ, ◌+◌, ◌-◌, ◌≤◌, ◌<◌, ◌≡◌, List}
use Rattle.std.proofs.Common.{◌∙◌, arith}
use Rattle.std.proofs.Math.Decide.{ℕ_discrete}
use Rattle.layout.specs.Sizes.{AND_GROUPS}
use Rattle.member_laws.specs.Members.{first_at, size_at, Ordered}

-- So many groups are put, with so many members: each group's come after those of the groups before it, and later groups have none.
pub record InOrder (e : ℕ) (M : List ℕ) (groups count : ℕ) : Type 0 where
  pub below : (n : ℕ) → 1 ≤ n → n ≤ groups → first_at M e n + size_at M e n ≤ count + 1
  pub order : (n m : ℕ) → 1 ≤ n → n < m → m ≤ groups → first_at M e n + size_at M e n ≤ first_at M e m
  pub later : (n : ℕ) → groups < n → n ≤ AND_GROUPS → first_at M e n ≡ 0

pub order_start : (e : ℕ) (M : List ℕ) → ((n : ℕ) → n ≤ AND_GROUPS → first_at M e n ≡ 0) → InOrder e M 0 0
order_start e M free =
    record {
      below = λ n a b. absurd (omega arith);
      order = λ n m a b c. absurd (omega arith);
      later = λ n a b. free n b;
    }

-- A group of k members more is put.
module _ (e : ℕ) (M S : List ℕ) (groups count k : ℕ)
    (old_first : (n : ℕ) → n ≤ groups → first_at S e n ≡ first_at M e n)
    (old_size : (n : ℕ) → n ≤ groups → size_at S e n ≡ size_at M e n)
    (new_first : first_at S e (groups + 1) ≡ count + 1)
    (new_size : size_at S e (groups + 1) ≡ k)
    (none_later : (n : ℕ) → groups + 1 < n → first_at S e n ≡ first_at M e n)
    (so : InOrder e M groups count) where
  old_below : (n : ℕ) → 1 ≤ n → n ≤ groups → first_at S e n + size_at S e n ≤ count + 1
  old_below n a b = rw (old_first n b, old_size n b) (so.below n a b)

  pub order_more : InOrder e S (groups + 1) (count + k)
  order_more =
      record {
        below = λ n a b. go n a b (ℕ_discrete n (groups + 1));
        order = λ n m a b c. on n m a b c (ℕ_discrete m (groups + 1));
        later = λ n a b. none_later n a ∙ so.later n (omega arith) b;
      }
    where
      go : (n : ℕ) → 1 ≤ n → n ≤ groups + 1 → Dec (n ≡ groups + 1) → first_at S e n + size_at S e n ≤ count + k + 1
      go n a b (yes z) = rw (z, new_first, new_size) (omega arith)
      go n a b (no z) = let l : n ≤ groups = omega arith in omega (arith, old_below n a l)

      on : (n m : ℕ) → 1 ≤ n → n < m → m ≤ groups + 1 → Dec (m ≡ groups + 1) → first_at S e n + size_at S e n ≤ first_at S e m
      on n m a b c (yes z) = rw (z, new_first) (old_below n a (omega arith))
      on n m a b c (no z) =
          let l : m ≤ groups = omega arith in
          let k : n ≤ groups = omega arith in
          rw (old_first n k, old_size n k, old_first m l) (so.order n m a b l)

-- A group that has members is one of those that are put.
pub order_all : (e : ℕ) (M : List ℕ) (groups count : ℕ) → InOrder e M groups count → Ordered M e
order_all e M groups count so n m a b c some = bound (ℕ_discrete (m - groups) 0)
  where
    bound : Dec (m - groups ≡ 0) → first_at M e n + size_at M e n ≤ first_at M e m
    bound (yes z) = so.order n m a b (omega arith)
    bound (no z) = absurd (omega (arith, so.later m (omega arith) c))
