-- Where a member of an "&" group can end, as the rows of the model tell it: there a place that begins another member may come next.
use Rattle.std.specs.Prelude.{ℕ, ◌+◌, ◌-◌, ◌≡◌, refl, Bool, true, false}
use Rattle.std.proofs.Common.{◌∙◌, subst, arith, eq-eqb}
use Rattle.std.proofs.Math.Bool.{and-false, and-true, or-false}
use Rattle.rules.specs.Walk.{Group, place, seq, alt, opt, plus, and, Members, one, also}
use Rattle.basic_laws.specs.Truth.{or_left, or_right, not_true, no_from}
use Rattle.model_sets.specs.Sets.{has, has_m, size, size_m, Numbered, NumberedM, first, first_m, last, last_m, follow, follow_m}
use Rattle.and_laws.specs.Base.{Apart, apart_no}
use Rattle.and_laws.specs.Sets.{Good, GoodM, Plain}
use Rattle.and_laws.specs.Rows.{last_has, last_m_has, follow_from, follow_m_from, follow_to}
use Rattle.and_laws.specs.Forced.{first_has, first_m_has}

pub not_left : {f k : ℕ → Bool} → Apart f k → {p : ℕ} → k p ≡ true → f p ≡ false
not_left {f} {k} a {p} j = not_true (f p) (λ i. a p i j)

-- The first place of a group begins it, its last one ends it.
mutual
  pub first_lo : (g : Group) (lo : ℕ) → Numbered g lo → first g lo ≡ true
  first_lo (place n) lo e = eq-eqb n lo e
  first_lo (seq g h) lo (m, n) = or_left _ (first_lo g lo m)
  first_lo (alt g h) lo (m, n) = or_left _ (first_lo g lo m)
  first_lo (opt g) lo n = first_lo g lo n
  first_lo (plus g) lo n = first_lo g lo n
  first_lo (and m) lo n = first_m_lo m lo n

  pub first_m_lo : (m : Members) (lo : ℕ) → NumberedM m lo → first_m m lo ≡ true
  first_m_lo (one g) lo n = first_lo g lo n
  first_m_lo (also m g) lo (n, k) = or_left _ (first_m_lo m lo n)

mutual
  pub last_end : (g : Group) (lo : ℕ) → Numbered g lo → last g (lo + size g - 1) ≡ true
  last_end (place n) lo e = eq-eqb n (lo + 1 - 1) (omega arith)
  last_end (seq g h) lo (m, n) =
      let e : lo + size g + size h - 1 ≡ lo + (size g + size h) - 1 = omega arith in
      or_left _ (subst (λ (p : ℕ). last h p ≡ true) e (last_end h (lo + size g) n))
  last_end (alt g h) lo (m, n) =
      let e : lo + size g + size h - 1 ≡ lo + (size g + size h) - 1 = omega arith in
      or_right (last g (lo + (size g + size h) - 1)) (subst (λ (p : ℕ). last h p ≡ true) e (last_end h (lo + size g) n))
  last_end (opt g) lo n = last_end g lo n
  last_end (plus g) lo n = last_end g lo n
  last_end (and m) lo n = last_m_end m lo n

  pub last_m_end : (m : Members) (lo : ℕ) → NumberedM m lo → last_m m (lo + size_m m - 1) ≡ true
  last_m_end (one g) lo n = last_end g lo n
  last_m_end (also m g) lo (n, k) =
      let e : lo + size_m m + size g - 1 ≡ lo + (size_m m + size g) - 1 = omega arith in
      or_right (last_m m (lo + (size_m m + size g) - 1)) (subst (λ (p : ℕ). last g p ≡ true) e (last_end g (lo + size_m m) k))

-- This is where the second member begins.
abbrev pub second : Members → ℕ → ℕ
second (one g) lo = lo
second (also (one g) h) lo = lo + size g
second (also (also m g) h) lo = second (also m g) lo

-- R tells what may come next within a group.
module _ (R : ℕ → ℕ → Bool) where
  abbrev pub Rows : Group → Type 0
  Rows g = (u w : ℕ) → has g u ≡ true → has g w ≡ true → R u w ≡ follow g u w

  abbrev pub RowsM : Members → Type 0
  RowsM m = (u w : ℕ) → has_m m u ≡ true → has_m m w ≡ true → R u w ≡ follow_m m u w

  -- It tells so within the parts.
  module _ (g h : Group) (a : Apart (has g) (has h)) where
    pub rows_seq_left : Rows (seq g h) → Rows g
    rows_seq_left f u w i j =
        f u w (or_left _ i) (or_left _ j)
        ∙ rw (no_from (follow_from h u w) (apart_no a i), no_from (first_has h w) (apart_no a j), and-false (last g u), or-false (follow g u w))

    pub rows_seq_right : Rows (seq g h) → Rows h
    rows_seq_right f u w i j =
        f u w (or_right (has g u) i) (or_right (has g w) j)
        ∙ rw (no_from (follow_from g u w) (not_left a i), no_from (last_has g u) (not_left a i), or-false (follow h u w))

    pub rows_alt_left : Rows (alt g h) → Rows g
    rows_alt_left f u w i j = f u w (or_left _ i) (or_left _ j) ∙ rw (no_from (follow_from h u w) (apart_no a i), or-false (follow g u w))

    pub rows_alt_right : Rows (alt g h) → Rows h
    rows_alt_right f u w i j = f u w (or_right (has g u) i) (or_right (has g w) j) ∙ rw (no_from (follow_from g u w) (not_left a i))

  module _ (m : Members) (g : Group) (a : Apart (has_m m) (has g)) where
    pub rows_before : RowsM (also m g) → RowsM m
    rows_before f u w i j =
        f u w (or_left _ i) (or_left _ j)
        ∙ rw (no_from (follow_from g u w) (apart_no a i), no_from (first_has g w) (apart_no a j), no_from (last_has g u) (apart_no a i), and-false (last_m m u), or-false (follow_m m u w), or-false (follow_m m u w))

    pub rows_added : RowsM (also m g) → Rows g
    rows_added f u w i j =
        f u w (or_right (has_m m u) i) (or_right (has_m m w) j)
        ∙ rw (no_from (follow_m_from m u w) (not_left a i), no_from (last_m_has m u) (not_left a i), no_from (first_m_has m w) (not_left a j), and-false (last g u), or-false (follow g u w))

  -- After a place of g, w may come next exactly if the place can end g.
  abbrev pub Marks : ℕ → Group → Type 0
  Marks w g = (u : ℕ) → has g u ≡ true → R u w ≡ last g u

  -- After those of the first member the second's first place, after those of the others the first's.
  abbrev pub EachMarks : (w v : ℕ) → Members → Type 0
  EachMarks w v (one g) = Marks v g
  EachMarks w v (also m g) = EachMarks w v m × Marks w g

  added_marks : (m : Members) (g : Group) (lo : ℕ) → NumberedM (also m g) lo → GoodM (also m g) → RowsM (also m g) → Marks lo g
  added_marks m g lo (n, k) (d, c, a) f u i =
      let b = first_m_lo m lo n in
      let j = first_m_has m lo b in
      f u lo (or_right (has_m m u) i) (or_left _ j)
      ∙ rw (no_from (follow_m_from m u lo) (not_left a i), no_from (follow_to g u lo) (apart_no a j), no_from (last_m_has m u) (not_left a i), b, and-true (last g u))

  pub marks : (m : Members) (g : Group) (lo : ℕ) → NumberedM (also m g) lo → GoodM (also m g) → RowsM (also m g) → EachMarks lo (second (also m g) lo) (also m g)
  marks (one h) g lo (n, k) (d, c, a) f =
      let b = first_lo g (lo + size h) k in
      let j = first_has g (lo + size h) b in (
        λ u i.
            f u (lo + size h) (or_left _ i) (or_right (has h (lo + size h)) j)
            ∙ rw (no_from (follow_to h u (lo + size h)) (not_left a j), no_from (follow_from g u (lo + size h)) (apart_no a i), no_from (last_has g u) (apart_no a i), b, and-true (last h u), or-false (last h u)),
        added_marks (one h) g lo (n, k) (d, c, a) f,
      )
  marks (also m x) g lo (n, k) (d, c, a) f = (marks m x lo n d (rows_before (also m x) g a f), added_marks (also m x) g lo (n, k) (d, c, a) f)

  -- It tells so within each "&" group.
  abbrev mutual
    pub AndRows : Group → Type 0
    AndRows (place n) = n ≡ n
    AndRows (seq g h) = AndRows g × AndRows h
    AndRows (alt g h) = AndRows g × AndRows h
    AndRows (opt g) = AndRows g
    AndRows (plus g) = AndRows g
    AndRows (and m) = RowsM m × AndRowsM m

    pub AndRowsM : Members → Type 0
    AndRowsM (one g) = AndRows g
    AndRowsM (also m g) = AndRowsM m × AndRows g

  plain_rows : (g : Group) → Plain g → AndRows g
  plain_rows (place n) p = refl
  plain_rows (seq g h) (p, q) = (plain_rows g p, plain_rows h q)
  plain_rows (alt g h) (p, q) = (plain_rows g p, plain_rows h q)
  plain_rows (opt g) p = plain_rows g p
  plain_rows (plus g) p = plain_rows g p
  plain_rows (and m) p = absurd p

  mutual
    pub and_rows : (g : Group) → Good g → Rows g → AndRows g
    and_rows (place n) d f = refl
    and_rows (seq g h) (d, k, a) f = (and_rows g d (rows_seq_left g h a f), and_rows h k (rows_seq_right g h a f))
    and_rows (alt g h) (d, k, a) f = (and_rows g d (rows_alt_left g h a f), and_rows h k (rows_alt_right g h a f))
    and_rows (opt g) d f = and_rows g d f
    and_rows (plus g) (d, p) f = plain_rows g p
    and_rows (and m) d f = (f, and_m_rows m d f)

    and_m_rows : (m : Members) → GoodM m → RowsM m → AndRowsM m
    and_m_rows (one g) d f = and_rows g d f
    and_m_rows (also m g) (d, k, a) f = (and_m_rows m d (rows_before m g a f), and_rows g k (rows_added m g a f))
