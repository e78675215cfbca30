-- The required place from the row and from what has begun: where an "&" group that could end lacks a member, the place of the only member left; else the row's.
use Rattle.std.specs.Prelude.{ℕ, ◌≡◌, refl, Bool, true, false, ◌&&◌, ◌||◌, not, cond}
use Rattle.std.proofs.Common.{◌∙◌}
use Rattle.std.proofs.lemmas.Bool.{false≢true}
use Rattle.std.proofs.Math.Bool.{and-false}
use Rattle.basic_laws.specs.Truth.{or_cases, and_left, and_right, not_both, bool_cases, cond_same}
use Rattle.model_sets.specs.Sets.{has, has_m, nullable, nullable_m, last, last_m, required_first, required_first_m, required_after, required_after_m}
use Rattle.rules.specs.Walk.{Group, place, seq, alt, opt, plus, and, Members, one, also}
use Rattle.and_laws.specs.Sets.{meets, Plain, Good, GoodM}
use Rattle.and_laws.specs.Rest.{all_m}
use Rattle.and_laws.specs.Decide.{done, now_done, or_only}
use Rattle.and_laws.specs.Req.{any_idle, required_rest, required_next, required_now}
use Rattle.and_laws.specs.Rows.{last_has, last_m_has, fine, full, full_m, done_row, now_row}

-- An "&" group around u lacks a member, where u can end the members that hold it, up to that group.
abbrev mutual
  pub blocks : Group → ℕ → (ℕ → Bool) → Bool
  blocks (place n) u S = false
  blocks (seq g h) u S = cond (has h u) (blocks h u S) (blocks g u S)
  blocks (alt g h) u S = cond (has h u) (blocks h u S) (blocks g u S)
  blocks (opt g) u S = blocks g u S
  blocks (plus g) u S = false
  blocks (and m) u S = blocks_m m u S || (last_m m u && not (all_m (fine S) m))

  pub blocks_m : Members → ℕ → (ℕ → Bool) → Bool
  blocks_m (one g) u S = blocks g u S
  blocks_m (also m g) u S = cond (has g u) (blocks g u S) (blocks_m m u S)

-- The place that is required in the innermost of them is that of its only member that has not begun, and 0 if there are several.
abbrev mutual
  pub lone : Group → ℕ → (ℕ → Bool) → ℕ
  lone (place n) u S = 0
  lone (seq g h) u S = cond (has h u) (lone h u S) (lone g u S)
  lone (alt g h) u S = cond (has h u) (lone h u S) (lone g u S)
  lone (opt g) u S = lone g u S
  lone (plus g) u S = 0
  lone (and m) u S = cond (blocks_m m u S) (lone_m m u S) (required_rest m S)

  pub lone_m : Members → ℕ → (ℕ → Bool) → ℕ
  lone_m (one g) u S = lone g u S
  lone_m (also m g) u S = cond (has g u) (lone g u S) (lone_m m u S)

-- A group that can be nothing requires nothing.
mutual
  pub null_req : (g : Group) → nullable g ≡ true → required_first g ≡ 0
  null_req (place n) e = absurd (false≢true e)
  null_req (seq g h) e = rw (and_left (nullable g) _ e) (null_req h (and_right (nullable g) _ e))
  null_req (alt g h) e = refl
  null_req (opt g) e = refl
  null_req (plus g) e = null_req g e
  null_req (and m) e = null_req_m m e

  null_req_m : (m : Members) → nullable_m m ≡ true → required_first_m m ≡ 0
  null_req_m (one g) e = null_req g e
  null_req_m (also m g) e = refl

-- A place that can end the group has nothing required after it.
mutual
  pub last_req : (g : Group) → Good g → (u : ℕ) → last g u ≡ true → required_after g u ≡ 0
  last_req (place n) d u e = refl
  last_req (seq g h) (d, k, a) u e =
      bool_cases
      (has h u)
      (λ j. rw j (last_req h k u (or_cases (last h u) _ (λ x. x) (λ y. absurd (a u (last_has g u (and_right (nullable h) _ y)) j)) e)))
      (λ j.
      let y = or_cases (last h u) (nullable h && last g u) (λ x. absurd (not_both j (last_has h u x))) (λ y. y) e in
      rw (j, and_left (nullable h) _ y, and-false (last g u)) (last_req g d u (and_right (nullable h) _ y)))
  last_req (alt g h) (d, k, a) u e =
      bool_cases
      (has h u)
      (λ j. rw j (last_req h k u (or_cases (last g u) _ (λ x. absurd (a u (last_has g u x) j)) (λ y. y) e)))
      (λ j. rw j (last_req g d u (or_cases (last g u) _ (λ x. x) (λ y. absurd (not_both j (last_has h u y))) e)))
  last_req (opt g) d u e = last_req g d u e
  last_req (plus g) (d, n) u e = last_req g d u e
  last_req (and m) d u e = last_m_req m d u e

  last_m_req : (m : Members) → GoodM m → (u : ℕ) → last_m m u ≡ true → required_after_m m u ≡ 0
  last_m_req (one g) d u e = last_req g d u e
  last_m_req (also m g) (d, k, a) u e =
      bool_cases
      (has g u)
      (λ j. rw j (last_req g k u (or_cases (last_m m u) _ (λ x. absurd (a u (last_m_has m u x) j)) (λ y. y) e)))
      (λ j. rw j (last_m_req m d u (or_cases (last_m m u) _ (λ x. x) (λ y. absurd (not_both j (last_has g u y))) e)))

-- Where every member has begun or can be nothing, none is required.
fine_rest : (m : Members) (S : ℕ → Bool) → all_m (fine S) m ≡ true → required_rest m S ≡ 0
fine_rest (one g) S e = bool_cases (meets g S) (λ i. rw i) (λ i. rw i (null_req g (rw i at e)))
fine_rest (also m g) S e =
    bool_cases
    (meets g S)
    (λ i. rw i (fine_rest m S (and_left (all_m (fine S) m) _ e)))
    (λ i. let n : nullable g ≡ true = rw i at (and_right (all_m (fine S) m) (fine S g) e) in rw (i, null_req g n) (cond_same (any_idle S m) 0))

joined_not : (x y : Bool) → not x && y ≡ not (x || not y)
joined_not true y = refl
joined_not false true = refl
joined_not false false = refl

-- A place that can end the group is blocked exactly if some "&" group around it lacks a member.
mutual
  pub last_full : (g : Group) → Good g → (u : ℕ) (S : ℕ → Bool) → last g u ≡ true → full g u S ≡ not (blocks g u S)
  last_full (place n) d u S e = refl
  last_full (seq g h) (d, k, a) u S e =
      bool_cases
      (has h u)
      (λ j. rw j (last_full h k u S (or_cases (last h u) _ (λ x. x) (λ y. absurd (a u (last_has g u (and_right (nullable h) _ y)) j)) e)))
      (λ j. rw j (last_full g d u S (or_cases (last h u) _ (λ x. absurd (not_both j (last_has h u x))) (λ y. and_right (nullable h) _ y) e)))
  last_full (alt g h) (d, k, a) u S e =
      bool_cases
      (has h u)
      (λ j. rw j (last_full h k u S (or_cases (last g u) _ (λ x. absurd (a u (last_has g u x) j)) (λ y. y) e)))
      (λ j. rw j (last_full g d u S (or_cases (last g u) _ (λ x. x) (λ y. absurd (not_both j (last_has h u y))) e)))
  last_full (opt g) d u S e = last_full g d u S e
  last_full (plus g) d u S e = refl
  last_full (and m) d u S e = rw (last_m_full m d u S e, e) (joined_not (blocks_m m u S) (all_m (fine S) m))

  last_m_full : (m : Members) → GoodM m → (u : ℕ) (S : ℕ → Bool) → last_m m u ≡ true → full_m m u S ≡ not (blocks_m m u S)
  last_m_full (one g) d u S e = last_full g d u S e
  last_m_full (also m g) (d, k, a) u S e =
      bool_cases
      (has g u)
      (λ j. rw j (last_full g k u S (or_cases (last_m m u) _ (λ x. absurd (a u (last_m_has m u x) j)) (λ y. y) e)))
      (λ j. rw j (last_m_full m d u S (or_cases (last_m m u) _ (λ x. x) (λ y. absurd (not_both j (last_has g u y))) e)))

-- Content is complete exactly if the row says so and nothing blocks.
pub done_blocks : (g : Group) → Good g → (u : ℕ) (S : ℕ → Bool) → has g u ≡ true → done g u S ≡ last g u && not (blocks g u S)
done_blocks g d u S i =
    bool_cases
    (last g u)
    (λ e. done_row g d u S i ∙ rw e (last_full g d u S e))
    (λ e. done_row g d u S i ∙ rw e)

-- Where nothing blocks and content is not complete, the place cannot end the group.
still_open : (l b c : Bool) → c ≡ l && not b → c ≡ false → b ≡ false → l ≡ false
still_open true b c e x y = absurd (not_both x (e ∙ rw y))
still_open false b c e x y = refl

unblocked : (l b c : Bool) → c ≡ l && not b → c ≡ true → (l ≡ true) × (b ≡ false)
unblocked true true c e x = absurd (not_both e x)
unblocked true false c e x = (refl, refl)
unblocked false b c e x = absurd (not_both e x)

now_done_blocks : (m : Members) → GoodM m → (u : ℕ) (S : ℕ → Bool) → has_m m u ≡ true → now_done m u S ≡ last_m m u && not (blocks_m m u S)
now_done_blocks m d u S i =
    bool_cases
    (last_m m u)
    (λ e. now_row m d u S i ∙ rw e (last_m_full m d u S e))
    (λ e. now_row m d u S i ∙ rw e)

-- Of a group without "&" nothing blocks.
pub plain_blocks : (g : Group) → Plain g → (u : ℕ) (S : ℕ → Bool) → blocks g u S ≡ false
plain_blocks (place n) x u S = refl
plain_blocks (seq g h) (x, y) u S = rw (plain_blocks g x u S, plain_blocks h y u S) (cond_same (has h u) false)
plain_blocks (alt g h) (x, y) u S = rw (plain_blocks g x u S, plain_blocks h y u S) (cond_same (has h u) false)
plain_blocks (opt g) x u S = plain_blocks g x u S
plain_blocks (plus g) x u S = refl
plain_blocks (and m) x u S = absurd x

mutual
  -- The required place is the row's, or where something blocks that of the only member left.
  pub req_row : (g : Group) → Good g → (u : ℕ) (S : ℕ → Bool) → has g u ≡ true → required_next g u S ≡ cond (blocks g u S) (lone g u S) (required_after g u)
  req_row (place n) d u S i = refl
  req_row (seq g h) (d, k, a) u S i =
      bool_cases
      (has h u)
      (λ j. rw j (req_row h k u S j))
      (λ j.
      let l = or_only (has g u) (has h u) j i in
      let e = done_blocks g d u S l in
      bool_cases
      (done g u S)
      (λ t.
      let (x, y) = unblocked (last g u) (blocks g u S) (done g u S) e t in
      rw (j, t, x, y) (bool_cases (nullable h) (λ n. rw (n, null_req h n, last_req g d u x)) (λ n. rw n)))
      (λ t.
      rw (j, t) (req_row g d u S l ∙ bool_cases (blocks g u S) (λ y. rw y) (λ y. rw (y, still_open (last g u) (blocks g u S) (done g u S) e t y)))))
  req_row (alt g h) (d, k, a) u S i = bool_cases (has h u) (λ j. rw j (req_row h k u S j)) (λ j. rw j (req_row g d u S (or_only (has g u) (has h u) j i)))
  req_row (opt g) d u S i = req_row g d u S i
  req_row (plus g) (d, n) u S i = req_row g d u S i ∙ rw (plain_blocks g n u S)
  req_row (and m) d u S i =
      let e = now_done_blocks m d u S i in
      bool_cases
      (now_done m u S)
      (λ t.
      let (x, y) = unblocked (last_m m u) (blocks_m m u S) (now_done m u S) e t in
      rw (t, x, y) (bool_cases (all_m (fine S) m) (λ n. rw (n, fine_rest m S n, last_m_req m d u x)) (λ n. rw n)))
      (λ t.
      rw t (req_now m d u S i ∙ bool_cases (blocks_m m u S) (λ y. rw y) (λ y. rw (y, still_open (last_m m u) (blocks_m m u S) (now_done m u S) e t y))))

  req_now : (m : Members) → GoodM m → (u : ℕ) (S : ℕ → Bool) → has_m m u ≡ true → required_now m u S ≡ cond (blocks_m m u S) (lone_m m u S) (required_after_m m u)
  req_now (one g) d u S i = req_row g d u S i
  req_now (also m g) (d, k, a) u S i = bool_cases (has g u) (λ j. rw j (req_row g k u S j)) (λ j. rw j (req_now m d u S (or_only (has_m m u) (has g u) j i)))
