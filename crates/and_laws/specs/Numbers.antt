-- Places numbered from left to right differ; with no "&" under "+" a numbered group is `Good`.
use Rattle.std.specs.Prelude.{ℕ, ◌+◌, ◌≤◌, ◌<◌, ◌≡◌, refl, true}
use Rattle.std.proofs.Common.{arith, eqb-true}
use Rattle.basic_laws.specs.Truth.{or_cases}
use Rattle.model_sets.specs.Sets.{has, has_m, size, size_m, Numbered, NumberedM}
use Rattle.rules.specs.Walk.{Group, place, seq, alt, opt, plus, and, Members, one, also}
pub use Rattle.rules.specs.Walk.{Guarded, GuardedM}
use Rattle.and_laws.specs.Sets.{Plain, Good, GoodM}

mutual
  pub has_range : (g : Group) (lo : ℕ) → Numbered g lo → (p : ℕ) → has g p ≡ true → (lo ≤ p) × (p < lo + size g)
  has_range (place n) lo e p i = omega (arith, eqb-true n p i)
  has_range (seq g h) lo (m, n) p i = or_cases (has g p) (has h p) (λ x. omega (arith, has_range g lo m p x)) (λ y. omega (arith, has_range h (lo + size g) n p y)) i
  has_range (alt g h) lo (m, n) p i = or_cases (has g p) (has h p) (λ x. omega (arith, has_range g lo m p x)) (λ y. omega (arith, has_range h (lo + size g) n p y)) i
  has_range (opt g) lo m p i = has_range g lo m p i
  has_range (plus g) lo m p i = has_range g lo m p i
  has_range (and m) lo n p i = has_m_range m lo n p i

  pub has_m_range : (m : Members) (lo : ℕ) → NumberedM m lo → (p : ℕ) → has_m m p ≡ true → (lo ≤ p) × (p < lo + size_m m)
  has_m_range (one g) lo n p i = has_range g lo n p i
  has_m_range (also m g) lo (n, k) p i = or_cases (has_m m p) (has g p) (λ x. omega (arith, has_m_range m lo n p x)) (λ y. omega (arith, has_range g (lo + size_m m) k p y)) i

mutual
  pub numbered_good : (g : Group) (lo : ℕ) → Numbered g lo → Guarded g → Good g
  numbered_good (place n) lo e d = refl
  numbered_good (seq g h) lo (m, n) (d, k) = (numbered_good g lo m d, numbered_good h (lo + size g) n k, λ p x y. omega (arith, has_range g lo m p x, has_range h (lo + size g) n p y))
  numbered_good (alt g h) lo (m, n) (d, k) = (numbered_good g lo m d, numbered_good h (lo + size g) n k, λ p x y. omega (arith, has_range g lo m p x, has_range h (lo + size g) n p y))
  numbered_good (opt g) lo n d = numbered_good g lo n d
  numbered_good (plus g) lo n d = (plain_good g lo n d, d)
  numbered_good (and m) lo n d = numbered_m_good m lo n d

  pub numbered_m_good : (m : Members) (lo : ℕ) → NumberedM m lo → GuardedM m → GoodM m
  numbered_m_good (one g) lo n d = numbered_good g lo n d
  numbered_m_good (also m g) lo (n, k) (d, c) = (numbered_m_good m lo n d, numbered_good g (lo + size_m m) k c, λ p x y. omega (arith, has_m_range m lo n p x, has_range g (lo + size_m m) k p y))

  plain_good : (g : Group) (lo : ℕ) → Numbered g lo → Plain g → Good g
  plain_good (place n) lo e d = refl
  plain_good (seq g h) lo (m, n) (d, k) = (plain_good g lo m d, plain_good h (lo + size g) n k, λ p x y. omega (arith, has_range g lo m p x, has_range h (lo + size g) n p y))
  plain_good (alt g h) lo (m, n) (d, k) = (plain_good g lo m d, plain_good h (lo + size g) n k, λ p x y. omega (arith, has_range g lo m p x, has_range h (lo + size g) n p y))
  plain_good (opt g) lo n d = plain_good g lo n d
  plain_good (plus g) lo n d = (plain_good g lo n d, d)
  plain_good (and m) lo n d = absurd d
