-- The first number, and the first pair of numbers, that passes a test, searched in order.
use Rattle.std.specs.Prelude.{ℕ, zero, suc, ◌+◌, ◌≤◌, ◌<◌, ◌≡◌, refl, Bool, true, false, cond, ◌⊎◌}
use Rattle.std.proofs.Common.{ap, inl, inr, ⊎_elim, arith}
use Rattle.std.proofs.Math.Decide.{ℕ_discrete}
use Rattle.basic_laws.specs.Truth.{not_both}

-- Two pairs neither of which comes after the other are equal.
pub least_unique : (p q a b : ℕ) → (p < a) ⊎ ((p ≡ a) × (q ≤ b)) → (a < p) ⊎ ((a ≡ p) × (b ≤ q)) → (p ≡ a) × (q ≡ b)
least_unique p q a b (inl u) (inl v) = omega arith
least_unique p q a b (inl u) (inr v) = omega arith
least_unique p q a b (inr u) (inl v) = omega arith
least_unique p q a b (inr u) (inr v) = omega arith

-- The first number that passes a test.

-- This is the first of the k numbers from q on that passes, and 0 if none does.
abbrev pub find_from : (ℕ → Bool) → ℕ → ℕ → ℕ
find_from f zero q = 0
find_from f (suc k) q = cond (f q) q (find_from f k (suc q))

module _ (f : ℕ → Bool) where
  -- A search of the k numbers from q on should give r.
  abbrev pub Finds : ℕ → ℕ → ℕ → Type 0
  Finds k q r =
      ((r ≡ 0) × ((x : ℕ) → q ≤ x → x < q + k → f x ≡ true → ⊥))
      ⊎ ((q ≤ r) × (r < q + k) × (f r ≡ true) × ((x : ℕ) → q ≤ x → f x ≡ true → r ≤ x))

  past : (q x : ℕ) → f q ≡ false → q ≤ x → f x ≡ true → suc q ≤ x
  past q x e a t = go (ℕ_discrete q x)
    where
      go : Dec (q ≡ x) → suc q ≤ x
      go (yes z) = absurd (not_both e (rw z t))
      go (no n) = omega arith

  finds_step : (k q r : ℕ) (b : Bool) → f q ≡ b → Finds k (suc q) r → Finds (suc k) q (cond b q r)
  finds_step k q r true e d = inr (omega arith, omega arith, e, λ x a t. a)
  finds_step k q r false e (inl (z, n)) = inl (z, λ x a b t. n x (past q x e a t) (omega arith) t)
  finds_step k q r false e (inr (a, b, t, m)) = inr (omega arith, omega arith, t, λ x c y. m x (past q x e c y) y)

  pub find_from_finds : (k q : ℕ) → Finds k q (find_from f k q)
  find_from_finds zero q = inl (refl, λ x a b t. omega arith)
  find_from_finds (suc k) q = finds_step k q (find_from f k (suc q)) (f q) refl (find_from_finds k (suc q))

-- The first pair of numbers, the smaller first, that passes a test.

-- This is the pair of p and what was found for it, or the pair found after p.
abbrev pub pair_or : ℕ → ℕ → ℕ × ℕ → ℕ × ℕ
pair_or p zero r = r
pair_or p (suc q) r = (p, suc q)

-- This is the first pair that passes, both among the k numbers from p on, and (0, 0) if none does.
abbrev pub pair_from : (ℕ → ℕ → Bool) → ℕ → ℕ → ℕ × ℕ
pair_from t zero p = (0, 0)
pair_from t (suc k) p = pair_or p (find_from (t p) k (suc p)) (pair_from t k (suc p))

-- This is the first pair that passes, both from 1 to n.
abbrev pub search_pair : (ℕ → ℕ → Bool) → ℕ → ℕ × ℕ
search_pair t n = pair_from t n 1

module _ (t : ℕ → ℕ → Bool) where
  -- The pair (x, y) comes before every pair among the numbers from p up to, not including, end that passes.
  abbrev pub Before : ℕ → ℕ → ℕ → ℕ → Type 0
  Before p end x y = (a b : ℕ) → p ≤ a → a < b → b < end → t a b ≡ true → (x < a) ⊎ ((x ≡ a) × (y ≤ b))

  -- A search of the pairs among the k numbers from p on should give r.
  abbrev pub FindsPair : ℕ → ℕ → ℕ × ℕ → Type 0
  FindsPair k p r =
      ((r ≡ (0, 0)) × ((a b : ℕ) → p ≤ a → a < b → b < p + k → t a b ≡ true → ⊥))
      ⊎ ((p ≤ r.0) × (r.0 < r.1) × (r.1 < p + k) × (t r.0 r.1 ≡ true) × Before p (p + k) r.0 r.1)

  -- If p is in no pair, a pair from p on is a pair after p.
  after : {C : Type 0} (k p : ℕ) → ((x : ℕ) → suc p ≤ x → x < suc p + k → t p x ≡ true → ⊥) → (a b : ℕ) → p ≤ a → a < b → b < p + suc k → t a b ≡ true → (suc p ≤ a → b < suc p + k → C) → C
  after {C} k p n a b l m o y f = go (ℕ_discrete p a)
    where
      go : Dec (p ≡ a) → C
      go (yes e) = absurd (n b (omega arith) (omega arith) (rw e y))
      go (no ne) = f (omega arith) (omega arith)

  pair_found : (k p q : ℕ) → suc p ≤ q → q < suc p + k → t p q ≡ true → ((x : ℕ) → suc p ≤ x → t p x ≡ true → q ≤ x) → FindsPair (suc k) p (p, q)
  pair_found k p q l o y m = inr (omega arith, l, omega arith, y, least)
    where
      least : Before p (p + suc k) p q
      least a b c d u z = go (ℕ_discrete p a)
        where
          go : Dec (p ≡ a) → (p < a) ⊎ ((p ≡ a) × (q ≤ b))
          go (yes e) = inr (e, m b (omega arith) (rw e z))
          go (no ne) = inl (omega arith)

  pair_step : (k p q : ℕ) (r : ℕ × ℕ) → Finds (t p) k (suc p) q → FindsPair k (suc p) r → FindsPair (suc k) p (pair_or p q r)
  pair_step k p zero r (inl (z, n)) (inl (e, m)) = inl (e, λ a b l d o y. after k p n a b l d o y (λ c u. m a b c d u y))
  pair_step k p zero r (inl (z, n)) (inr (c, d, o, y, m)) =
      inr (omega arith, d, omega arith, y, λ a b l u v x. after k p n a b l u v x (λ f h. m a b f u h x))
  pair_step k p zero r (inr (a, _, _, _)) d = absurd (omega arith)
  pair_step k p (suc q) r (inl (z, _)) d = absurd (omega arith)
  pair_step k p (suc q) r (inr (a, b, y, m)) d = pair_found k p (suc q) a b y m

  pub pair_from_finds : (k p : ℕ) → FindsPair k p (pair_from t k p)
  pair_from_finds zero p = inl (refl, λ a b l m o y. omega arith)
  pair_from_finds (suc k) p = pair_step k p (find_from (t p) k (suc p)) (pair_from t k (suc p)) (find_from_finds (t p) k (suc p)) (pair_from_finds k (suc p))

-- What the search over 1 to n finds.
module _ (t : ℕ → ℕ → Bool) (n : ℕ) where
  -- No pair passes.
  abbrev pub NoPair : Type 0
  NoPair = (a b : ℕ) → 1 ≤ a → a < b → b ≤ n → t a b ≡ true → ⊥

  -- The pair passes, and every other that does has a larger first number, or the same first and a larger second.
  abbrev pub IsFirst : ℕ → ℕ → Type 0
  IsFirst p q = (1 ≤ p) × (p < q) × (q ≤ n) × (t p q ≡ true) × ((a b : ℕ) → 1 ≤ a → a < b → b ≤ n → t a b ≡ true → (p < a) ⊎ ((p ≡ a) × (q ≤ b)))

  pub search_pair_cases : ((search_pair t n ≡ (0, 0)) × NoPair) ⊎ IsFirst (search_pair t n).0 (search_pair t n).1
  search_pair_cases = go (pair_from_finds t n 1)
    where
      go : FindsPair t n 1 (search_pair t n) → ((search_pair t n ≡ (0, 0)) × NoPair) ⊎ IsFirst (search_pair t n).0 (search_pair t n).1
      go (inl (e, m)) = inl (e, λ a b l d o. m a b l d (omega arith))
      go (inr (l, d, o, y, m)) = inr (l, d, omega arith, y, λ a b f h k. m a b f h (omega arith))

  pub search_pair_none : (search_pair t n).0 ≡ 0 → NoPair
  search_pair_none z = ⊎_elim (λ x. x.1) (λ y. absurd (omega arith)) search_pair_cases

  pub search_pair_some : 1 ≤ (search_pair t n).0 → IsFirst (search_pair t n).0 (search_pair t n).1
  search_pair_some l = ⊎_elim (λ x. absurd (omega (arith, ap (λ (r : ℕ × ℕ). r.0) x.0))) (λ y. y) search_pair_cases
