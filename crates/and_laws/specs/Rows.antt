-- The rows of a model, by the last place alone, beside what the folds say from the last place and the places taken: a row has whatever may come next for
-- some beginning, and what has begun of the "&" groups around the place takes the rest away.
use Rattle.std.specs.Prelude.{ℕ, ◌≡◌, refl, Bool, true, false, ◌&&◌, ◌||◌, not, cond}
use Rattle.std.proofs.Common.{sym, ◌∙◌, ap, ap₂}
use Rattle.std.proofs.lemmas.Bool.{false≢true}
use Rattle.std.proofs.Math.Bool.{and-false, and-true, or-false, and_assoc, and_comm}
use Rattle.basic_laws.specs.Truth.{or_left, or_right, or_cases, and_left, and_right, not_true, bool_cases, no_from, cond_same, or_none}
use Rattle.model_sets.specs.Sets.{has, has_m, nullable, first, first_m, last, last_m, follow, follow_m}
use Rattle.rules.specs.Walk.{Group, place, seq, alt, opt, plus, and, Members, one, also}
use Rattle.and_laws.specs.Sets.{meets, Plain, Good, GoodM, common_meets}
use Rattle.and_laws.specs.Rest.{all_m, any_m}
use Rattle.and_laws.specs.Decide.{done, now_done, fit, now_fit, or_only}
use Rattle.and_laws.specs.Forced.{first_has, fit_has, now_fit_has}

-- What has begun takes away from what the rows allow.

-- A member of the group that has not begun can be nothing.
abbrev pub fine : (ℕ → Bool) → Group → Bool
fine S g = meets g S || nullable g

-- No "&" group around u lacks a member.
abbrev mutual
  pub full : Group → ℕ → (ℕ → Bool) → Bool
  full (place n) u S = true
  full (seq g h) u S = cond (has h u) (full h u S) (full g u S)
  full (alt g h) u S = cond (has h u) (full h u S) (full g u S)
  full (opt g) u S = full g u S
  full (plus g) u S = true
  full (and m) u S = full_m m u S && all_m (fine S) m

  pub full_m : Members → ℕ → (ℕ → Bool) → Bool
  full_m (one g) u S = full g u S
  full_m (also m g) u S = cond (has g u) (full g u S) (full_m m u S)

-- The member that has p has not begun.
abbrev pub unbegun : (ℕ → Bool) → ℕ → Group → Bool
unbegun S p g = has g p && not (meets g S)

-- No "&" group that has u and not p lacks a member, and where an "&" group has them in two members, that of p has not begun.
abbrev mutual
  pub may : Group → ℕ → (ℕ → Bool) → ℕ → Bool
  may (place n) u S p = true
  may (seq g h) u S p = cond (has h u) (may h u S p) (cond (has g p) (may g u S p) (full g u S))
  may (alt g h) u S p = cond (has h u) (may h u S p) (may g u S p)
  may (opt g) u S p = may g u S p
  may (plus g) u S p = true
  may (and m) u S p = may_m m u S p

  pub may_m : Members → ℕ → (ℕ → Bool) → ℕ → Bool
  may_m (one g) u S p = may g u S p
  may_m (also m g) u S p = cond (has g u) (cond (has g p) (may g u S p) (full g u S && any_m (unbegun S p) m)) (cond (has g p) (full_m m u S && not (meets g S)) (may_m m u S p))

-- What ends a group or follows in it is a place of the group.

mutual
  pub last_has : (g : Group) (u : ℕ) → last g u ≡ true → has g u ≡ true
  last_has (place n) u e = e
  last_has (seq g h) u e = or_cases (last h u) _ (λ x. or_right (has g u) (last_has h u x)) (λ y. or_left _ (last_has g u (and_right (nullable h) _ y))) e
  last_has (alt g h) u e = or_cases (last g u) _ (λ x. or_left _ (last_has g u x)) (λ y. or_right (has g u) (last_has h u y)) e
  last_has (opt g) u e = last_has g u e
  last_has (plus g) u e = last_has g u e
  last_has (and m) u e = last_m_has m u e

  pub last_m_has : (m : Members) (u : ℕ) → last_m m u ≡ true → has_m m u ≡ true
  last_m_has (one g) u e = last_has g u e
  last_m_has (also m g) u e = or_cases (last_m m u) _ (λ x. or_left _ (last_m_has m u x)) (λ y. or_right (has_m m u) (last_has g u y)) e

mutual
  pub follow_from : (g : Group) (u p : ℕ) → follow g u p ≡ true → has g u ≡ true
  follow_from (place n) u p e = absurd (false≢true e)
  follow_from (seq g h) u p e =
      or_cases (follow g u p) _ (λ x. or_left _ (follow_from g u p x)) (or_cases (follow h u p) _ (λ x. or_right (has g u) (follow_from h u p x)) (λ y. or_left _ (last_has g u (and_left (last g u) _ y)))) e
  follow_from (alt g h) u p e = or_cases (follow g u p) _ (λ x. or_left _ (follow_from g u p x)) (λ y. or_right (has g u) (follow_from h u p y)) e
  follow_from (opt g) u p e = follow_from g u p e
  follow_from (plus g) u p e = or_cases (follow g u p) _ (λ x. follow_from g u p x) (λ y. last_has g u (and_left (last g u) _ y)) e
  follow_from (and m) u p e = follow_m_from m u p e

  pub follow_m_from : (m : Members) (u p : ℕ) → follow_m m u p ≡ true → has_m m u ≡ true
  follow_m_from (one g) u p e = follow_from g u p e
  follow_m_from (also m g) u p e =
      or_cases
      (follow_m m u p || follow g u p)
      _
      (or_cases (follow_m m u p) _ (λ x. or_left _ (follow_m_from m u p x)) (λ x. or_right (has_m m u) (follow_from g u p x)))
      (or_cases (last_m m u && first g p) _ (λ y. or_left _ (last_m_has m u (and_left (last_m m u) _ y))) (λ y. or_right (has_m m u) (last_has g u (and_left (last g u) _ y))))
      e

mutual
  pub follow_to : (g : Group) (u p : ℕ) → follow g u p ≡ true → has g p ≡ true
  follow_to (place n) u p e = absurd (false≢true e)
  follow_to (seq g h) u p e =
      or_cases (follow g u p) _ (λ x. or_left _ (follow_to g u p x)) (or_cases (follow h u p) _ (λ x. or_right (has g p) (follow_to h u p x)) (λ y. or_right (has g p) (first_has h p (and_right (last g u) _ y)))) e
  follow_to (alt g h) u p e = or_cases (follow g u p) _ (λ x. or_left _ (follow_to g u p x)) (λ y. or_right (has g p) (follow_to h u p y)) e
  follow_to (opt g) u p e = follow_to g u p e
  follow_to (plus g) u p e = or_cases (follow g u p) _ (λ x. follow_to g u p x) (λ y. first_has g p (and_right (last g u) _ y)) e
  follow_to (and m) u p e = follow_m_to m u p e

  pub follow_m_to : (m : Members) (u p : ℕ) → follow_m m u p ≡ true → has_m m p ≡ true
  follow_m_to (one g) u p e = follow_to g u p e
  follow_m_to (also m g) u p e =
      or_cases
      (follow_m m u p || follow g u p)
      _
      (or_cases (follow_m m u p) _ (λ x. or_left _ (follow_m_to m u p x)) (λ x. or_right (has_m m p) (follow_to g u p x)))
      (or_cases (last_m m u && first g p) _ (λ y. or_right (has_m m p) (first_has g p (and_right (last_m m u) _ y))) (λ y. or_left _ (first_has (and m) p (and_right (last g u) _ y))))
      e

-- These laws put the parts of a test into another order.

-- Three tests hold in another order as well.
swapped : (a b c : Bool) → (a && b) && c ≡ (c && a) && b
swapped true b true = and-true b
swapped true b false = and-false b
swapped false b true = refl
swapped false b false = refl

turned : (a b c : Bool) → (a && b) && c ≡ (a && c) && b
turned true true c = sym (and-true c)
turned true false c = sym (and-false c)
turned false b c = refl

-- Without "&" nothing is lacking.
pub plain_full : (g : Group) → Plain g → (u : ℕ) (S : ℕ → Bool) → full g u S ≡ true
plain_full (place n) x u S = refl
plain_full (seq g h) (x, y) u S = rw (plain_full g x u S, plain_full h y u S) (cond_same (has h u) true)
plain_full (alt g h) (x, y) u S = rw (plain_full g x u S, plain_full h y u S) (cond_same (has h u) true)
plain_full (opt g) x u S = plain_full g x u S
plain_full (plus g) x u S = refl
plain_full (and m) x u S = absurd x

-- Content is complete where the row says so and no group lacks a member.

mutual
  -- Content is complete exactly if the row says so and no "&" group around the last place lacks a member.
  pub done_row : (g : Group) → Good g → (u : ℕ) (S : ℕ → Bool) → has g u ≡ true → done g u S ≡ last g u && full g u S
  done_row (place n) d u S i = rw i
  done_row (seq g h) (d, k, a) u S i =
      bool_cases
      (has h u)
      (λ j. let n = no_from (last_has g u) (not_true (has g u) (λ x. a u x j)) in rw (j, n, and-false, or-false) (done_row h k u S j))
      (λ j.
      let n = no_from (last_has h u) j in
      rw (j, n) (ap (λ (z : Bool). z && nullable h) (done_row g d u S (or_only (has g u) (has h u) j i)) ∙ swapped (last g u) (full g u S) (nullable h)))
  done_row (alt g h) (d, k, a) u S i =
      bool_cases
      (has h u)
      (λ j. let n = no_from (last_has g u) (not_true (has g u) (λ x. a u x j)) in rw (j, n) (done_row h k u S j))
      (λ j. let n = no_from (last_has h u) j in rw (j, n, or-false) (done_row g d u S (or_only (has g u) (has h u) j i)))
  done_row (opt g) d u S i = done_row g d u S i
  done_row (plus g) (d, n) u S i = done_row g d u S i ∙ ap (λ (z : Bool). last g u && z) (plain_full g n u S)
  done_row (and m) d u S i = ap (λ (z : Bool). z && all_m (fine S) m) (now_row m d u S i) ∙ and_assoc (last_m m u) (full_m m u S) (all_m (fine S) m)

  pub now_row : (m : Members) → GoodM m → (u : ℕ) (S : ℕ → Bool) → has_m m u ≡ true → now_done m u S ≡ last_m m u && full_m m u S
  now_row (one g) d u S i = done_row g d u S i
  now_row (also m g) (d, k, a) u S i =
      bool_cases
      (has g u)
      (λ j. let n = no_from (last_m_has m u) (not_true (has_m m u) (λ x. a u x j)) in rw (j, n) (done_row g k u S j))
      (λ j. let n = no_from (last_has g u) j in rw (j, n, or-false) (now_row m d u S (or_only (has_m m u) (has g u) j i)))

-- A place may come next where the row has it and the groups leave it.

-- Of the members that have not begun one can begin with p exactly if one can and that which has p has not begun.
rest_row : (m : Members) → GoodM m → (S : ℕ → Bool) (p : ℕ) → any_m (λ (g : Group). not (meets g S) && first g p) m ≡ first_m m p && any_m (unbegun S p) m
rest_row (one g) d S p = bool_cases (first g p) (λ e. rw (e, first_has g p e, and-true)) (λ e. rw (e, and-false))
rest_row (also m g) (d, k, a) S p =
    bool_cases
    (has g p)
    (λ j.
    let n = not_true (has_m m p) (λ x. a p x j) in
    let f = no_from (first_has (and m) p) n in
    rw (j, rest_row m d S p, none_unbegun m n, f) (and_comm (not (meets g S)) (first g p)))
    (λ j. let f = no_from (first_has g p) j in rw (j, f, and-false (not (meets g S)), or-false (any_m (λ (g : Group). not (meets g S) && first g p) m), or-false (first_m m p), or-false (any_m (unbegun S p) m)) (rest_row m d S p))
  where
    none_unbegun : (m : Members) → has_m m p ≡ false → any_m (unbegun S p) m ≡ false
    none_unbegun (one g) n = rw n
    none_unbegun (also m g) n = let (x, y) = or_none (has_m m p) (has g p) n in rw (y, none_unbegun m x)

module _ (u : ℕ) (S : ℕ → Bool) (taken : S u ≡ true) (p : ℕ) where
  mutual
    -- A place may come next exactly if the row says so and what has begun of the "&" groups leaves it.
    pub fit_row : (g : Group) → Good g → has g u ≡ true → fit g u S p ≡ follow g u p && may g u S p
    fit_row (place n) d i = refl
    fit_row (seq g h) (d, k, a) i =
        bool_cases
        (has h u)
        (λ j.
        let n = not_true (has g u) (λ x. a u x j) in
        rw (j, no_from (follow_from g u p) n, no_from (last_has g u) n, or-false) (fit_row h k j))
        (λ j.
        let l = or_only (has g u) (has h u) j i in
        let n = no_from (follow_from h u p) j in
        bool_cases
        (has g p)
        (λ x. let y = no_from (first_has h p) (not_true (has h p) (λ z. a p x z)) in rw (j, n, x, y, and-false (done g u S), and-false (last g u), or-false (fit g u S p), or-false (follow g u p)) (fit_row g d l))
        (λ x.
        let y = no_from (follow_to g u p) x in
        let z = no_from (fit_has g u S p) x in
        rw (j, n, x, y, z) (ap (λ (w : Bool). w && first h p) (done_row g d u S l) ∙ turned (last g u) (full g u S) (first h p))))
    fit_row (alt g h) (d, k, a) i =
        bool_cases
        (has h u)
        (λ j. let n = not_true (has g u) (λ x. a u x j) in rw (j, no_from (follow_from g u p) n) (fit_row h k j))
        (λ j. let n = no_from (follow_from h u p) j in rw (j, n, or-false) (fit_row g d (or_only (has g u) (has h u) j i)))
    fit_row (opt g) d i = fit_row g d i
    fit_row (plus g) (d, n) i =
        ap₂ ◌||◌ (fit_row g d i ∙ ap (λ (z : Bool). follow g u p && z) (plain_may g n) ∙ and-true (follow g u p)) (ap (λ (z : Bool). z && first g p) (done_row g d u S i ∙ ap (λ (z : Bool). last g u && z) (plain_full g n u S) ∙ and-true (last g u))) ∙ sym (and-true (follow g u p || (last g u && first g p)))
    fit_row (and m) d i = now_fit_row m d i

    now_fit_row : (m : Members) → GoodM m → has_m m u ≡ true → now_fit m u S p || (now_done m u S && any_m (λ (g : Group). not (meets g S) && first g p) m) ≡ follow_m m u p && may_m m u S p
    now_fit_row (one g) d i = rw (common_meets g S u i taken, and-false, or-false) (fit_row g d i)
    now_fit_row (also m g) (d, k, a) i =
        bool_cases
        (has g u)
        (λ j.
        let n = not_true (has_m m u) (λ x. a u x j) in
        let v = no_from (follow_m_from m u p) n in
        let w = no_from (last_m_has m u) n in
        bool_cases
        (has g p)
        (λ x.
        let y = no_from (first_has (and m) p) (not_true (has_m m p) (λ z. a p z x)) in
        rw (j, v, w, x, common_meets g S u j taken, rest_row m d S p, y, and-false (done g u S), and-false (last g u), or-false (fit g u S p), or-false (follow g u p)) (fit_row g k j))
        (λ x.
        let y = no_from (follow_to g u p) x in
        let z = no_from (fit_has g u S p) x in
        rw (j, v, w, x, y, z, common_meets g S u j taken, rest_row m d S p, or-false (first_m m p && any_m (unbegun S p) m)) (ap (λ (b : Bool). b && (first_m m p && any_m (unbegun S p) m)) (done_row g k u S j) ∙ four (last g u) (full g u S) (first_m m p) (any_m (unbegun S p) m))))
        (λ j.
        let l = or_only (has_m m u) (has g u) j i in
        let v = no_from (follow_from g u p) j in
        let w = no_from (last_has g u) j in
        bool_cases
        (has g p)
        (λ x.
        let c = not_true (has_m m p) (λ z. a p z x) in
        let y = no_from (follow_m_to m u p) c in
        let z = no_from (now_fit_has m u S p) c in
        let f = no_from (first_has (and m) p) c in
        rw (j, v, w, x, y, z, rest_row m d S p, f, or-false (last_m m u && first g p)) (ap (λ (b : Bool). b && (not (meets g S) && first g p)) (now_row m d u S l) ∙ crossed (last_m m u) (full_m m u S) (not (meets g S)) (first g p)))
        (λ x.
        let y = no_from (first_has g p) x in
        rw (j, v, w, x, y, and-false (not (meets g S)), and-false (last_m m u), or-false (any_m (λ (g : Group). not (meets g S) && first g p) m), or-false (follow_m m u p), or-false (follow_m m u p)) (now_fit_row m d l)))
      where
        four : (x y z t : Bool) → (x && y) && (z && t) ≡ (x && z) && (y && t)
        four true true z t = refl
        four true false true t = refl
        four true false false t = refl
        four false y z t = refl

        crossed : (x y z t : Bool) → (x && y) && (z && t) ≡ (x && t) && (y && z)
        crossed true true true t = sym (and-true t)
        crossed true true false t = sym (and-false t)
        crossed true false z t = sym (and-false t)
        crossed false y z t = refl

    pub plain_may : (g : Group) → Plain g → may g u S p ≡ true
    plain_may (place n) x = refl
    plain_may (seq g h) (x, y) = rw (plain_may g x, plain_may h y, plain_full g x u S) (bool_cases (has g p) (λ e. rw e (cond_same (has h u) true)) (λ e. rw e (cond_same (has h u) true)))
    plain_may (alt g h) (x, y) = rw (plain_may g x, plain_may h y) (cond_same (has h u) true)
    plain_may (opt g) x = plain_may g x
    plain_may (plus g) x = refl
    plain_may (and m) x = absurd x
