-- Every group has a place and every "&" group a member; a group that is numbered from `lo` has every number from there on, as many as it has places.
use Rattle.std.specs.Prelude.{ℕ, ◌+◌, ◌≤◌, ◌<◌, ◌≡◌, true}
use Rattle.std.proofs.Common.{⊎_elim, arith, eq-eqb}
use Rattle.basic_laws.specs.Truth.{or_left, or_right}
use Rattle.basic_laws.specs.Numbers.{below_or_from}
use Rattle.rules.specs.Walk.{Group, place, seq, alt, opt, plus, and, Members, one, also}
use Rattle.model_sets.specs.Sets.{size, size_m, amount, Numbered, NumberedM, has, has_m}

mutual
  pub size_one : (g : Group) → 1 ≤ size g
  size_one (place n) = omega arith
  size_one (seq g h) = omega (arith, size_one g)
  size_one (alt g h) = omega (arith, size_one g)
  size_one (opt g) = size_one g
  size_one (plus g) = size_one g
  size_one (and m) = size_m_one m

  pub size_m_one : (m : Members) → 1 ≤ size_m m
  size_m_one (one g) = size_one g
  size_m_one (also m g) = omega (arith, size_one g)

pub amount_one : (m : Members) → 1 ≤ amount m
amount_one (one g) = omega arith
amount_one (also m g) = omega arith

mutual
  pub has_inside : (g : Group) (lo p : ℕ) → Numbered g lo → lo ≤ p → p < lo + size g → has g p ≡ true
  has_inside (place n) lo p e ge lt = eq-eqb n p (omega arith)
  has_inside (seq g h) lo p e ge lt =
      ⊎_elim (λ (to : p < lo + size g). or_left (has h p) (has_inside g lo p e.0 ge to))
      (λ (from : lo + size g ≤ p). or_right (has g p) (has_inside h (lo + size g) p e.1 from (omega arith)))
      (below_or_from p (lo + size g))
  has_inside (alt g h) lo p e ge lt =
      ⊎_elim (λ (to : p < lo + size g). or_left (has h p) (has_inside g lo p e.0 ge to))
      (λ (from : lo + size g ≤ p). or_right (has g p) (has_inside h (lo + size g) p e.1 from (omega arith)))
      (below_or_from p (lo + size g))
  has_inside (opt g) lo p e ge lt = has_inside g lo p e ge lt
  has_inside (plus g) lo p e ge lt = has_inside g lo p e ge lt
  has_inside (and m) lo p e ge lt = has_m_inside m lo p e ge lt

  has_m_inside : (m : Members) (lo p : ℕ) → NumberedM m lo → lo ≤ p → p < lo + size_m m → has_m m p ≡ true
  has_m_inside (one g) lo p e ge lt = has_inside g lo p e ge lt
  has_m_inside (also m g) lo p e ge lt =
      ⊎_elim (λ (to : p < lo + size_m m). or_left (has g p) (has_m_inside m lo p e.0 ge to))
      (λ (from : lo + size_m m ≤ p). or_right (has_m m p) (has_inside g (lo + size_m m) p e.1 from (omega arith)))
      (below_or_from p (lo + size_m m))
