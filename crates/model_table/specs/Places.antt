-- Where the places of a numbered group stand, and what is false or bounded for that.
use Rattle.std.specs.Prelude.{ℕ, ◌+◌, ◌≤◌, ◌<◌, ◌≡◌, refl, Bool, true, false, ◌&&◌, ◌||◌}
use Rattle.std.proofs.Common.{arith, ne_eqb}
use Rattle.rules.specs.Walk.{Group, place, seq, alt, opt, plus, and, Members, one, also}
use Rattle.basic_laws.specs.Truth.{or_none}
use Rattle.model_sets.specs.Sets.{size, size_m, Numbered, NumberedM, has, has_m, nullable, first, first_m, last, last_m, follow, follow_m}

neither : {a b : Bool} → a ≡ false → b ≡ false → (a || b) ≡ false
neither {a} {b} x y = rw (x, y)

and_false_left : {a : Bool} (b : Bool) → a ≡ false → (a && b) ≡ false
and_false_left b x = rw x

and_false_right : (a : Bool) {b : Bool} → b ≡ false → (a && b) ≡ false
and_false_right true x = x
and_false_right false x = refl

-- What is no place of a group neither begins nor ends it, and nothing follows it there.
mutual
  pub none_first : (g : Group) (p : ℕ) → has g p ≡ false → first g p ≡ false
  none_first (place n) p e = e
  none_first (seq g h) p e =
      neither (none_first g p (or_none (has g p) (has h p) e).0)
      (and_false_right (nullable g) (none_first h p (or_none (has g p) (has h p) e).1))
  none_first (alt g h) p e =
      neither (none_first g p (or_none (has g p) (has h p) e).0) (none_first h p (or_none (has g p) (has h p) e).1)
  none_first (opt g) p e = none_first g p e
  none_first (plus g) p e = none_first g p e
  none_first (and m) p e = none_m_first m p e

  none_m_first : (m : Members) (p : ℕ) → has_m m p ≡ false → first_m m p ≡ false
  none_m_first (one g) p e = none_first g p e
  none_m_first (also m g) p e = neither (none_m_first m p (or_none (has_m m p) (has g p) e).0) (none_first g p (or_none (has_m m p) (has g p) e).1)

mutual
  pub none_last : (g : Group) (p : ℕ) → has g p ≡ false → last g p ≡ false
  none_last (place n) p e = e
  none_last (seq g h) p e =
      neither (none_last h p (or_none (has g p) (has h p) e).1)
      (and_false_right (nullable h) (none_last g p (or_none (has g p) (has h p) e).0))
  none_last (alt g h) p e =
      neither (none_last g p (or_none (has g p) (has h p) e).0) (none_last h p (or_none (has g p) (has h p) e).1)
  none_last (opt g) p e = none_last g p e
  none_last (plus g) p e = none_last g p e
  none_last (and m) p e = none_m_last m p e

  none_m_last : (m : Members) (p : ℕ) → has_m m p ≡ false → last_m m p ≡ false
  none_m_last (one g) p e = none_last g p e
  none_m_last (also m g) p e = neither (none_m_last m p (or_none (has_m m p) (has g p) e).0) (none_last g p (or_none (has_m m p) (has g p) e).1)

mutual
  pub none_follow : (g : Group) (u p : ℕ) → has g u ≡ false → follow g u p ≡ false
  none_follow (place n) u p e = refl
  none_follow (seq g h) u p e =
      neither (none_follow g u p (or_none (has g u) (has h u) e).0)
      (neither (none_follow h u p (or_none (has g u) (has h u) e).1)
      (and_false_left (first h p) (none_last g u (or_none (has g u) (has h u) e).0)))
  none_follow (alt g h) u p e =
      neither (none_follow g u p (or_none (has g u) (has h u) e).0) (none_follow h u p (or_none (has g u) (has h u) e).1)
  none_follow (opt g) u p e = none_follow g u p e
  none_follow (plus g) u p e = neither (none_follow g u p e) (and_false_left (first g p) (none_last g u e))
  none_follow (and m) u p e = none_m_follow m u p e

  none_m_follow : (m : Members) (u p : ℕ) → has_m m u ≡ false → follow_m m u p ≡ false
  none_m_follow (one g) u p e = none_follow g u p e
  none_m_follow (also m g) u p e =
      let x = (or_none (has_m m u) (has g u) e).0 in
      let y = (or_none (has_m m u) (has g u) e).1 in
      neither (neither (none_m_follow m u p x) (none_follow g u p y)) (neither (and_false_left (first g p) (none_last (and m) u x)) (and_false_left (first_m m p) (none_last g u y)))

-- A group numbered from lo has the places [lo, lo + size).
mutual
  pub has_under : (g : Group) (lo p : ℕ) → Numbered g lo → p < lo → has g p ≡ false
  has_under (place n) lo p e lt = ne_eqb n p (λ q. omega arith)
  has_under (seq g h) lo p e lt = neither (has_under g lo p e.0 lt) (has_under h (lo + size g) p e.1 (omega arith))
  has_under (alt g h) lo p e lt = neither (has_under g lo p e.0 lt) (has_under h (lo + size g) p e.1 (omega arith))
  has_under (opt g) lo p e lt = has_under g lo p e lt
  has_under (plus g) lo p e lt = has_under g lo p e lt
  has_under (and m) lo p e lt = has_m_under m lo p e lt

  has_m_under : (m : Members) (lo p : ℕ) → NumberedM m lo → p < lo → has_m m p ≡ false
  has_m_under (one g) lo p e lt = has_under g lo p e lt
  has_m_under (also m g) lo p e lt = neither (has_m_under m lo p e.0 lt) (has_under g (lo + size_m m) p e.1 (omega arith))

mutual
  pub has_over : (g : Group) (lo p : ℕ) → Numbered g lo → lo + size g ≤ p → has g p ≡ false
  has_over (place n) lo p e le = ne_eqb n p (λ q. omega arith)
  has_over (seq g h) lo p e le = neither (has_over g lo p e.0 (omega arith)) (has_over h (lo + size g) p e.1 (omega arith))
  has_over (alt g h) lo p e le = neither (has_over g lo p e.0 (omega arith)) (has_over h (lo + size g) p e.1 (omega arith))
  has_over (opt g) lo p e le = has_over g lo p e le
  has_over (plus g) lo p e le = has_over g lo p e le
  has_over (and m) lo p e le = has_m_over m lo p e le

  has_m_over : (m : Members) (lo p : ℕ) → NumberedM m lo → lo + size_m m ≤ p → has_m m p ≡ false
  has_m_over (one g) lo p e le = has_over g lo p e le
  has_m_over (also m g) lo p e le = neither (has_m_over m lo p e.0 (omega arith)) (has_over g (lo + size_m m) p e.1 (omega arith))
