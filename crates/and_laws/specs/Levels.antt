-- The "&" groups around a place, from the inner to the outer ones: a walk through them finds the one that blocks, and its required place.
use Rattle.std.specs.Prelude.{ℕ, ◌≡◌, refl, Bool, true, false, ◌&&◌, ◌||◌, not, cond, List, [], ◌∷◌, ◌++◌}
use Rattle.std.proofs.Common.{sym, ◌∙◌, ap, append-nil}
use Rattle.std.proofs.lemmas.Bool.{false≢true}
use Rattle.std.proofs.Math.Bool.{or-false, and-false, and-true, and_assoc}
use Rattle.basic_laws.specs.Truth.{or_left, or_right, or_cases, and_left, and_right, and_both, not_true, not_both, bool_cases, or_none}
use Rattle.model_sets.specs.Sets.{has, has_m, nullable, first, last, last_m, follow, follow_m}
use Rattle.rules.specs.Walk.{Group, place, seq, alt, opt, plus, and, Members, one, also}
use Rattle.and_laws.specs.Sets.{meets, Good, GoodM}
use Rattle.and_laws.specs.Rest.{all_m, any_m}
use Rattle.and_laws.specs.Decide.{or_only}
use Rattle.and_laws.specs.Req.{required_rest}
use Rattle.and_laws.specs.Forced.{first_has}
use Rattle.and_laws.specs.Rows.{last_has, last_m_has, follow_from, follow_m_from, follow_to, follow_m_to, fine, full, full_m, unbegun, may, may_m}
use Rattle.and_laws.specs.Lacking.{blocks, blocks_m, lone, lone_m}

-- These are the "&" groups around u, the innermost first; within "+" there is none.
abbrev mutual
  pub around : Group → ℕ → List Members
  around (place n) u = []
  around (seq g h) u = cond (has h u) (around h u) (around g u)
  around (alt g h) u = cond (has h u) (around h u) (around g u)
  around (opt g) u = around g u
  around (plus g) u = []
  around (and m) u = around_m m u ++ m ∷ []

  pub around_m : Members → ℕ → List Members
  around_m (one g) u = around g u
  around_m (also m g) u = cond (has g u) (around g u) (around_m m u)

-- The first of the groups that lacks a member blocks, if u can end the members that hold it, up to that group.
abbrev pub blocks_in : List Members → ℕ → (ℕ → Bool) → Bool
blocks_in [] u S = false
blocks_in (m ∷ ms) u S = last_m m u && (not (all_m (fine S) m) || blocks_in ms u S)

-- This is the place that is required in the first group that lacks a member.
abbrev pub lone_in : List Members → (ℕ → Bool) → ℕ
lone_in [] S = 0
lone_in (m ∷ ms) S = cond (all_m (fine S) m) (lone_in ms S) (required_rest m S)

-- The place u can end the members that hold it in all of these groups.
abbrev pub ends_in : List Members → ℕ → Bool
ends_in [] u = true
ends_in (m ∷ ms) u = last_m m u && ends_in ms u

ends_append : (xs : List Members) (m : Members) (u : ℕ) → ends_in xs u ≡ true → last_m m u ≡ true → ends_in (xs ++ m ∷ []) u ≡ true
ends_append [] m u e f = rw f
ends_append (x ∷ xs) m u e f = and_both (and_left (last_m x u) _ e) (ends_append xs m u (and_right (last_m x u) _ e) f)

-- A place that can end the group can end the members around it.
mutual
  pub last_ends : (g : Group) → Good g → (u : ℕ) → last g u ≡ true → ends_in (around g u) u ≡ true
  last_ends (place n) d u e = refl
  last_ends (seq g h) (d, k, a) u e =
      bool_cases
      (has h u)
      (λ j. rw j (last_ends h k u (or_cases (last h u) _ (λ x. x) (λ y. absurd (a u (last_has g u (and_right (nullable h) _ y)) j)) e)))
      (λ j. rw j (last_ends g d u (or_cases (last h u) _ (λ x. absurd (not_both j (last_has h u x))) (λ y. and_right (nullable h) _ y) e)))
  last_ends (alt g h) (d, k, a) u e =
      bool_cases
      (has h u)
      (λ j. rw j (last_ends h k u (or_cases (last g u) _ (λ x. absurd (a u (last_has g u x) j)) (λ y. y) e)))
      (λ j. rw j (last_ends g d u (or_cases (last g u) _ (λ x. x) (λ y. absurd (not_both j (last_has h u y))) e)))
  last_ends (opt g) d u e = last_ends g d u e
  last_ends (plus g) d u e = refl
  last_ends (and m) d u e = ends_append (around_m m u) m u (last_m_ends m d u e) e

  last_m_ends : (m : Members) → GoodM m → (u : ℕ) → last_m m u ≡ true → ends_in (around_m m u) u ≡ true
  last_m_ends (one g) d u e = last_ends g d u e
  last_m_ends (also m g) (d, k, a) u e =
      bool_cases
      (has g u)
      (λ j. rw j (last_ends g k u (or_cases (last_m m u) _ (λ x. absurd (a u (last_m_has m u x) j)) (λ y. y) e)))
      (λ j. rw j (last_m_ends m d u (or_cases (last_m m u) _ (λ x. x) (λ y. absurd (not_both j (last_has g u y))) e)))

-- These laws are of one group more, around the others.
blocks_append : (xs : List Members) (m : Members) (u : ℕ) (S : ℕ → Bool) → blocks_in (xs ++ m ∷ []) u S ≡ blocks_in xs u S || (ends_in xs u && (last_m m u && not (all_m (fine S) m)))
blocks_append [] m u S = ap (λ (z : Bool). last_m m u && z) (or-false (not (all_m (fine S) m)))
blocks_append (x ∷ xs) m u S = ap (λ (z : Bool). last_m x u && (not (all_m (fine S) x) || z)) (blocks_append xs m u S) ∙ spread (last_m x u) (not (all_m (fine S) x)) (blocks_in xs u S) (ends_in xs u) (last_m m u && not (all_m (fine S) m))
  where
    spread : (l f b e z : Bool) → l && (f || (b || (e && z))) ≡ (l && (f || b)) || ((l && e) && z)
    spread true true b e z = refl
    spread true false b e z = refl
    spread false f b e z = refl

mutual
  -- Something blocks exactly if the walk through the groups finds one.
  pub blocks_in_lem : (g : Group) → Good g → (u : ℕ) (S : ℕ → Bool) → has g u ≡ true → blocks g u S ≡ blocks_in (around g u) u S
  blocks_in_lem (place n) d u S i = refl
  blocks_in_lem (seq g h) (d, k, a) u S i = bool_cases (has h u) (λ j. rw j (blocks_in_lem h k u S j)) (λ j. rw j (blocks_in_lem g d u S (or_only (has g u) (has h u) j i)))
  blocks_in_lem (alt g h) (d, k, a) u S i = bool_cases (has h u) (λ j. rw j (blocks_in_lem h k u S j)) (λ j. rw j (blocks_in_lem g d u S (or_only (has g u) (has h u) j i)))
  blocks_in_lem (opt g) d u S i = blocks_in_lem g d u S i
  blocks_in_lem (plus g) d u S i = refl
  blocks_in_lem (and m) d u S i =
      ap (λ (z : Bool). z || (last_m m u && not (all_m (fine S) m))) (blocks_m_in m d u S i)
      ∙ bool_cases
      (last_m m u)
      (λ e. rw (e, blocks_append (around_m m u) m u S, last_m_ends m d u e, e))
      (λ e. rw (e, blocks_append (around_m m u) m u S, e, and-false (ends_in (around_m m u) u)))

  blocks_m_in : (m : Members) → GoodM m → (u : ℕ) (S : ℕ → Bool) → has_m m u ≡ true → blocks_m m u S ≡ blocks_in (around_m m u) u S
  blocks_m_in (one g) d u S i = blocks_in_lem g d u S i
  blocks_m_in (also m g) (d, k, a) u S i = bool_cases (has g u) (λ j. rw j (blocks_in_lem g k u S j)) (λ j. rw j (blocks_m_in m d u S (or_only (has_m m u) (has g u) j i)))

-- The first group that lacks a member is among those before, or there is none among them.
lone_before : (xs ys : List Members) (u : ℕ) (S : ℕ → Bool) → blocks_in xs u S ≡ true → lone_in (xs ++ ys) S ≡ lone_in xs S
lone_before [] ys u S e = absurd (false≢true e)
lone_before (x ∷ xs) ys u S e = bool_cases (all_m (fine S) x) (λ f. rw f (lone_before xs ys u S (and_right (last_m x u) _ (rw f at e)))) (λ f. rw f)

lone_after : (xs ys : List Members) (u : ℕ) (S : ℕ → Bool) → ends_in xs u ≡ true → blocks_in xs u S ≡ false → lone_in (xs ++ ys) S ≡ lone_in ys S
lone_after [] ys u S e b = refl
lone_after (x ∷ xs) ys u S e b =
    let l = and_left (last_m x u) _ e in
    bool_cases
    (all_m (fine S) x)
    (λ f. rw f (lone_after xs ys u S (and_right (last_m x u) _ e) (rw (l, f) at b)))
    (λ f. absurd (false≢true (sym b ∙ rw (l, f))))

mutual
  -- Where something blocks, the required place is the one that the walk finds.
  pub lone_in_lem : (g : Group) → Good g → (u : ℕ) (S : ℕ → Bool) → has g u ≡ true → blocks g u S ≡ true → lone g u S ≡ lone_in (around g u) S
  lone_in_lem (place n) d u S i b = refl
  lone_in_lem (seq g h) (d, k, a) u S i b = bool_cases (has h u) (λ j. rw j (lone_in_lem h k u S j (rw j at b))) (λ j. rw j (lone_in_lem g d u S (or_only (has g u) (has h u) j i) (rw j at b)))
  lone_in_lem (alt g h) (d, k, a) u S i b = bool_cases (has h u) (λ j. rw j (lone_in_lem h k u S j (rw j at b))) (λ j. rw j (lone_in_lem g d u S (or_only (has g u) (has h u) j i) (rw j at b)))
  lone_in_lem (opt g) d u S i b = lone_in_lem g d u S i b
  lone_in_lem (plus g) d u S i b = refl
  lone_in_lem (and m) d u S i b =
      bool_cases
      (blocks_m m u S)
      (λ j. rw j (lone_m_in m d u S i j ∙ sym (lone_before (around_m m u) (m ∷ []) u S (sym (blocks_m_in m d u S i) ∙ j))))
      (λ j.
      let c : last_m m u && not (all_m (fine S) m) ≡ true = rw j at b in
      let f = not_true (all_m (fine S) m) (λ x. not_both (ap not x) (and_right (last_m m u) _ c)) in
      rw (j, lone_after (around_m m u) (m ∷ []) u S (last_m_ends m d u (and_left (last_m m u) _ c)) (sym (blocks_m_in m d u S i) ∙ j), f))

  lone_m_in : (m : Members) → GoodM m → (u : ℕ) (S : ℕ → Bool) → has_m m u ≡ true → blocks_m m u S ≡ true → lone_m m u S ≡ lone_in (around_m m u) S
  lone_m_in (one g) d u S i b = lone_in_lem g d u S i b
  lone_m_in (also m g) (d, k, a) u S i b = bool_cases (has g u) (λ j. rw j (lone_in_lem g k u S j (rw j at b))) (λ j. rw j (lone_m_in m d u S (or_only (has_m m u) (has g u) j i) (rw j at b)))

-- The groups around the last place tell what may come next.

-- The places u and p are in one member.
abbrev pub together : Members → ℕ → ℕ → Bool
together m u p = any_m (λ (g : Group). has g u && has g p) m

-- The place p is in the group of u: in the member of u, or in one that has not begun.
abbrev pub within : Members → ℕ → (ℕ → Bool) → ℕ → Bool
within m u S p = together m u p || any_m (unbegun S p) m

-- Each of the groups, up to the first that has p, lacks no member, and that one has p in the member of u or in one that has not begun.
abbrev pub may_in : List Members → ℕ → (ℕ → Bool) → ℕ → Bool
may_in [] u S p = true
may_in (m ∷ ms) u S p = cond (has_m m p) (within m u S p) (all_m (fine S) m && may_in ms u S p)

-- No group lacks a member.
abbrev pub full_in : List Members → (ℕ → Bool) → Bool
full_in [] S = true
full_in (m ∷ ms) S = all_m (fine S) m && full_in ms S

-- No group has p.
abbrev Without : List Members → ℕ → Type 0
Without [] p = p ≡ p
Without (m ∷ ms) p = (has_m m p ≡ false) × Without ms p

without_append : (xs : List Members) (m : Members) (p : ℕ) → Without xs p → has_m m p ≡ false → Without (xs ++ m ∷ []) p
without_append [] m p w n = (n, refl)
without_append (x ∷ xs) m p (v, w) n = (v, without_append xs m p w n)

mutual
  around_without : (g : Group) (u p : ℕ) → has g p ≡ false → Without (around g u) p
  around_without (place n) u p e = refl
  around_without (seq g h) u p e =
      let (x, y) = or_none (has g p) (has h p) e in
      bool_cases (has h u) (λ j. rw j (around_without h u p y)) (λ j. rw j (around_without g u p x))
  around_without (alt g h) u p e =
      let (x, y) = or_none (has g p) (has h p) e in
      bool_cases (has h u) (λ j. rw j (around_without h u p y)) (λ j. rw j (around_without g u p x))
  around_without (opt g) u p e = around_without g u p e
  around_without (plus g) u p e = refl
  around_without (and m) u p e = without_append (around_m m u) m p (around_m_without m u p e) e

  around_m_without : (m : Members) (u p : ℕ) → has_m m p ≡ false → Without (around_m m u) p
  around_m_without (one g) u p e = around_without g u p e
  around_m_without (also m g) u p e =
      let (x, y) = or_none (has_m m p) (has g p) e in
      bool_cases (has g u) (λ j. rw j (around_without g u p y)) (λ j. rw j (around_m_without m u p x))

full_append : (xs : List Members) (m : Members) (S : ℕ → Bool) → full_in (xs ++ m ∷ []) S ≡ full_in xs S && all_m (fine S) m
full_append [] m S = and-true (all_m (fine S) m)
full_append (x ∷ xs) m S = ap (λ (z : Bool). all_m (fine S) x && z) (full_append xs m S) ∙ sym (and_assoc (all_m (fine S) x) (full_in xs S) (all_m (fine S) m))

mutual
  pub full_in_lem : (g : Group) (u : ℕ) (S : ℕ → Bool) → full g u S ≡ full_in (around g u) S
  full_in_lem (place n) u S = refl
  full_in_lem (seq g h) u S = bool_cases (has h u) (λ j. rw j (full_in_lem h u S)) (λ j. rw j (full_in_lem g u S))
  full_in_lem (alt g h) u S = bool_cases (has h u) (λ j. rw j (full_in_lem h u S)) (λ j. rw j (full_in_lem g u S))
  full_in_lem (opt g) u S = full_in_lem g u S
  full_in_lem (plus g) u S = refl
  full_in_lem (and m) u S = ap (λ (z : Bool). z && all_m (fine S) m) (full_m_in m u S) ∙ sym (full_append (around_m m u) m S)

  full_m_in : (m : Members) (u : ℕ) (S : ℕ → Bool) → full_m m u S ≡ full_in (around_m m u) S
  full_m_in (one g) u S = full_in_lem g u S
  full_m_in (also m g) u S = bool_cases (has g u) (λ j. rw j (full_in_lem g u S)) (λ j. rw j (full_m_in m u S))

-- Groups that do not have p must not lack a member.
may_past : (xs ys : List Members) (u : ℕ) (S : ℕ → Bool) (p : ℕ) → Without xs p → may_in (xs ++ ys) u S p ≡ full_in xs S && may_in ys u S p
may_past [] ys u S p w = refl
may_past (x ∷ xs) ys u S p (v, w) = rw v (ap (λ (z : Bool). all_m (fine S) x && z) (may_past xs ys u S p w) ∙ sym (and_assoc (all_m (fine S) x) (full_in xs S) (may_in ys u S p)))

-- A group that has u and p in one member takes nothing away.
may_same : (xs : List Members) (m : Members) (u : ℕ) (S : ℕ → Bool) (p : ℕ) → has_m m p ≡ true → together m u p ≡ true → may_in (xs ++ m ∷ []) u S p ≡ may_in xs u S p
may_same [] m u S p i t = rw (i, t)
may_same (x ∷ xs) m u S p i t = ap (λ (z : Bool). cond (has_m x p) (within x u S p) (all_m (fine S) x && z)) (may_same xs m u S p i t)

-- Only what the group says of p counts.
may_last : (xs : List Members) (m k : Members) (u : ℕ) (S : ℕ → Bool) (p : ℕ) → has_m m p ≡ true → has_m k p ≡ true → within m u S p ≡ within k u S p → may_in (xs ++ m ∷ []) u S p ≡ may_in (xs ++ k ∷ []) u S p
may_last [] m k u S p i j e = rw (i, j) e
may_last (x ∷ xs) m k u S p i j e = ap (λ (z : Bool). cond (has_m x p) (within x u S p) (all_m (fine S) x && z)) (may_last xs m k u S p i j e)

apart_u : (m : Members) (u p : ℕ) → has_m m u ≡ false → together m u p ≡ false
apart_u (one g) u p n = rw n
apart_u (also m g) u p n = let (x, y) = or_none (has_m m u) (has g u) n in rw (y, apart_u m u p x)

apart_p : (m : Members) (u p : ℕ) → has_m m p ≡ false → together m u p ≡ false
apart_p (one g) u p n = rw (n, and-false (has g u))
apart_p (also m g) u p n = let (x, y) = or_none (has_m m p) (has g p) n in rw (y, and-false (has g u), apart_p m u p x)

none_unbegun : (m : Members) (S : ℕ → Bool) (p : ℕ) → has_m m p ≡ false → any_m (unbegun S p) m ≡ false
none_unbegun (one g) S p n = rw n
none_unbegun (also m g) S p n = let (x, y) = or_none (has_m m p) (has g p) n in rw (y, none_unbegun m S p x)

module _ (u : ℕ) (S : ℕ → Bool) (p : ℕ) where
  mutual
    -- Where the row has p after u, what has begun leaves it exactly if the walk through the groups around u says so.
    pub may_in_lem : (g : Group) → Good g → has g u ≡ true → follow g u p ≡ true → may g u S p ≡ may_in (around g u) u S p
    may_in_lem (place n) d i f = absurd (false≢true f)
    may_in_lem (seq g h) (d, k, a) i f =
        bool_cases
        (has h u)
        (λ j.
        let n = not_true (has g u) (λ x. a u x j) in
        let e : follow h u p ≡ true = or_cases
        (follow g u p)
        _
        (λ x. absurd (not_both n (follow_from g u p x)))
        (or_cases (follow h u p) _ (λ x. x) (λ y. absurd (not_both n (last_has g u (and_left (last g u) _ y)))))
        f in
        rw j (may_in_lem h k j e))
        (λ j.
        let l = or_only (has g u) (has h u) j i in
        bool_cases
        (has g p)
        (λ x.
        let e : follow g u p ≡ true = or_cases
        (follow g u p)
        _
        (λ y. y)
        (or_cases (follow h u p) _ (λ y. absurd (not_both j (follow_from h u p y))) (λ y. absurd (a p x (first_has h p (and_right (last g u) _ y)))))
        f in
        rw (j, x) (may_in_lem g d l e))
        (λ x. rw (j, x) (full_in_lem g u S ∙ sym (and-true (full_in (around g u) S)) ∙ sym (may_past (around g u) [] u S p (around_without g u p x)) ∙ ap (λ (z : List Members). may_in z u S p) (append-nil (around g u)))))
    may_in_lem (alt g h) (d, k, a) i f =
        bool_cases
        (has h u)
        (λ j. rw j (may_in_lem h k j (or_cases (follow g u p) _ (λ x. absurd (a u (follow_from g u p x) j)) (λ y. y) f)))
        (λ j. rw j (may_in_lem g d (or_only (has g u) (has h u) j i) (or_cases (follow g u p) _ (λ x. x) (λ y. absurd (not_both j (follow_from h u p y))) f)))
    may_in_lem (opt g) d i f = may_in_lem g d i f
    may_in_lem (plus g) d i f = refl
    may_in_lem (and m) d i f = may_m_in m d i f

    may_m_in : (m : Members) → GoodM m → has_m m u ≡ true → follow_m m u p ≡ true → may_m m u S p ≡ may_in (around_m m u ++ m ∷ []) u S p
    may_m_in (one g) d i f =
        let x = follow_to g u p f in
        may_in_lem g d i f ∙ sym (may_same (around g u) (one g) u S p x (and_both i x))
    may_m_in (also m g) (d, k, a) i f =
        bool_cases
        (has g u)
        (λ j.
        let n = not_true (has_m m u) (λ x. a u x j) in
        bool_cases
        (has g p)
        (λ x.
        let c = not_true (has_m m p) (λ z. a p z x) in
        let e : follow g u p ≡ true = or_cases
        (follow_m m u p || follow g u p)
        _
        (or_cases (follow_m m u p) _ (λ y. absurd (not_both n (follow_m_from m u p y))) (λ y. y))
        (or_cases (last_m m u && first g p) _ (λ y. absurd (not_both n (last_m_has m u (and_left (last_m m u) _ y)))) (λ y. absurd (not_both c (first_has (and m) p (and_right (last g u) _ y)))))
        f in
        rw (j, x) (may_in_lem g k j e ∙ sym (may_same (around g u) (also m g) u S p (or_right (has_m m p) x) (or_right (together m u p) (and_both j x)))))
        (λ x.
        let o = or_only (has_m m p) (has g p) x (follow_m_to (also m g) u p f) in
        rw (j, x) (ap (λ (z : Bool). z && any_m (unbegun S p) m) (full_in_lem g u S) ∙ ap (λ (z : Bool). full_in (around g u) S && z) (sym (tail m g o x (apart_u m u p n) (and-false (has g u)))) ∙ sym (may_past (around g u) (also m g ∷ []) u S p (around_without g u p x)))))
        (λ j.
        let l = or_only (has_m m u) (has g u) j i in
        bool_cases
        (has g p)
        (λ x.
        let c = not_true (has_m m p) (λ z. a p z x) in
        rw (j, x) (ap (λ (z : Bool). z && not (meets g S)) (full_m_in m u S) ∙ ap (λ (z : Bool). full_in (around_m m u) S && z) (sym (end m g x c j)) ∙ sym (may_past (around_m m u) (also m g ∷ []) u S p (around_m_without m u p c))))
        (λ x.
        let o = or_only (has_m m p) (has g p) x (follow_m_to (also m g) u p f) in
        let e : follow_m m u p ≡ true = or_cases
        (follow_m m u p || follow g u p)
        _
        (or_cases (follow_m m u p) _ (λ y. y) (λ y. absurd (not_both j (follow_from g u p y))))
        (or_cases (last_m m u && first g p) _ (λ y. absurd (not_both x (first_has g p (and_right (last_m m u) _ y)))) (λ y. absurd (not_both j (last_has g u (and_left (last g u) _ y)))))
        f in
        rw (j, x) (may_m_in m d l e ∙ may_last (around_m m u) m (also m g) u S p o (or_left _ o) (rw (x, and-false (has g u), or-false (together m u p), or-false (any_m (unbegun S p) m))))))
      where
        tail : (m : Members) (g : Group) → has_m m p ≡ true → has g p ≡ false → together m u p ≡ false → has g u && false ≡ false → may_in (also m g ∷ []) u S p ≡ any_m (unbegun S p) m
        tail m g o x t z = rw (o, x, t, z, or-false (any_m (unbegun S p) m))

        end : (m : Members) (g : Group) → has g p ≡ true → has_m m p ≡ false → has g u ≡ false → may_in (also m g ∷ []) u S p ≡ not (meets g S)
        end m g x c j = rw (c, x, j, apart_p m u p c, none_unbegun m S p c)

-- The groups around a place have it.
abbrev pub AllHave : List Members → ℕ → Type 0
AllHave [] u = u ≡ u
AllHave (m ∷ ms) u = (has_m m u ≡ true) × AllHave ms u

have_append : (xs : List Members) (m : Members) (u : ℕ) → AllHave xs u → has_m m u ≡ true → AllHave (xs ++ m ∷ []) u
have_append [] m u a i = (i, refl)
have_append (x ∷ xs) m u (b, a) i = (b, have_append xs m u a i)

mutual
  pub around_has : (g : Group) (u : ℕ) → has g u ≡ true → AllHave (around g u) u
  around_has (place n) u i = refl
  around_has (seq g h) u i = bool_cases (has h u) (λ j. rw j (around_has h u j)) (λ j. rw j (around_has g u (or_only (has g u) (has h u) j i)))
  around_has (alt g h) u i = bool_cases (has h u) (λ j. rw j (around_has h u j)) (λ j. rw j (around_has g u (or_only (has g u) (has h u) j i)))
  around_has (opt g) u i = around_has g u i
  around_has (plus g) u i = refl
  around_has (and m) u i = have_append (around_m m u) m u (around_m_has m u i) i

  around_m_has : (m : Members) (u : ℕ) → has_m m u ≡ true → AllHave (around_m m u) u
  around_m_has (one g) u i = around_has g u i
  around_m_has (also m g) u i = bool_cases (has g u) (λ j. rw j (around_has g u j)) (λ j. rw j (around_m_has m u (or_only (has_m m u) (has g u) j i)))

together_itself : (m : Members) (u : ℕ) → has_m m u ≡ true → together m u u ≡ true
together_itself (one g) u i = and_both i i
together_itself (also m g) u i = or_cases (has_m m u) (has g u) (λ x. or_left _ (together_itself m u x)) (λ y. or_right (together m u u) (and_both y y)) i

-- Nothing that has begun takes a place away after itself.
pub itself : (ms : List Members) (u : ℕ) (S : ℕ → Bool) → AllHave ms u → may_in ms u S u ≡ true
itself [] u S a = refl
itself (m ∷ ms) u S (i, a) = rw (i, together_itself m u i)
