-- What a group requires is one of its own places, or 0.
use Rattle.std.specs.Prelude.{ℕ, zero, suc, ◌≤◌, ◌≡◌, refl, Bool, true, ◌&&◌, not, ◌⊎◌}
use Rattle.std.proofs.Common.{inl, inr, arith, eq-eqb}
use Rattle.rules.specs.Walk.{Group, place, seq, alt, opt, plus, and, Members, one, also}
use Rattle.basic_laws.specs.Truth.{or_left, or_right, bool_cases}
use Rattle.model_sets.specs.Sets.{size, Numbered, has, has_m, nullable, last, required_first, required_first_m, required_after, required_after_m, required_in}
use Rattle.and_laws.specs.Sets.{meets}
use Rattle.and_laws.specs.Numbers.{has_range}
use Rattle.and_laws.specs.Req.{any_idle, required_rest}

abbrev pub OwnOr0 : (ℕ → Bool) → ℕ → Type 0
OwnOr0 own n = (n ≡ 0) ⊎ (own n ≡ true)

-- What is a part's is the whole's.
own_wider : (f h : ℕ → Bool) → ((n : ℕ) → f n ≡ true → h n ≡ true) → (n : ℕ) → OwnOr0 f n → OwnOr0 h n
own_wider f h w n (inl z) = inl z
own_wider f h w n (inr y) = inr (w n y)

mutual
  pub required_first_own : (k : Group) → OwnOr0 (has k) (required_first k)
  required_first_own (place n) = inr (eq-eqb n n refl)
  required_first_own (seq g h) =
      bool_cases
      (nullable g)
      (λ x. rw x (own_wider (has h) (has (seq g h)) (λ n y. or_right (has g n) y) (required_first h) (required_first_own h)))
      (λ x. rw x (own_wider (has g) (has (seq g h)) (λ n y. or_left _ y) (required_first g) (required_first_own g)))
  required_first_own (alt g h) = inl refl
  required_first_own (opt g) = inl refl
  required_first_own (plus g) = required_first_own g
  required_first_own (and m) = required_first_m_own m

  required_first_m_own : (m : Members) → OwnOr0 (has_m m) (required_first_m m)
  required_first_m_own (one g) = required_first_own g
  required_first_m_own (also m g) = inl refl

mutual
  after_own : (k : Group) (u : ℕ) → OwnOr0 (has k) (required_after k u)
  after_own (place n) u = inl refl
  after_own (seq g h) u =
      bool_cases
      (has h u)
      (λ x. rw x (own_wider (has h) (has (seq g h)) (λ n y. or_right (has g n) y) (required_after h u) (after_own h u)))
      (λ x.
      rw x
      (bool_cases
      (last g u && not (nullable h))
      (λ y. rw y (own_wider (has h) (has (seq g h)) (λ n z. or_right (has g n) z) (required_first h) (required_first_own h)))
      (λ y. rw y (own_wider (has g) (has (seq g h)) (λ n z. or_left _ z) (required_after g u) (after_own g u)))))
  after_own (alt g h) u =
      bool_cases
      (has h u)
      (λ x. rw x (own_wider (has h) (has (alt g h)) (λ n y. or_right (has g n) y) (required_after h u) (after_own h u)))
      (λ x. rw x (own_wider (has g) (has (alt g h)) (λ n y. or_left _ y) (required_after g u) (after_own g u)))
  after_own (opt g) u = after_own g u
  after_own (plus g) u = after_own g u
  after_own (and m) u = after_m_own m u

  after_m_own : (m : Members) (u : ℕ) → OwnOr0 (has_m m) (required_after_m m u)
  after_m_own (one g) u = after_own g u
  after_m_own (also m g) u =
      bool_cases
      (has g u)
      (λ x. rw x (own_wider (has g) (has_m (also m g)) (λ n y. or_right (has_m m n) y) (required_after g u) (after_own g u)))
      (λ x. rw x (own_wider (has_m m) (has_m (also m g)) (λ n y. or_left _ y) (required_after_m m u) (after_m_own m u)))

-- What the only member requires that has not begun.
pub rest_own : (m : Members) (S : ℕ → Bool) → OwnOr0 (has_m m) (required_rest m S)
rest_own (one g) S = bool_cases (meets g S) (λ x. rw x (inl refl)) (λ x. rw x (required_first_own g))
rest_own (also m g) S =
    bool_cases
    (meets g S)
    (λ x. rw x (own_wider (has_m m) (has_m (also m g)) (λ n y. or_left _ y) (required_rest m S) (rest_own m S)))
    (λ x.
    rw x
    (bool_cases
    (any_idle S m)
    (λ y. rw y (inl refl))
    (λ y. rw y (own_wider (has g) (has_m (also m g)) (λ n z. or_right (has_m m n) z) (required_first g) (required_first_own g)))))

own_size : (g : Group) → Numbered g 1 → (n : ℕ) → OwnOr0 (has g) n → n ≤ size g
own_size g numbered n (inl z) = omega arith
own_size g numbered n (inr y) = omega (arith, has_range g 1 numbered n y)

-- The place that a row requires is one of the model's.
pub required_size : (g : Group) → Numbered g 1 → (u : ℕ) → required_in g u ≤ size g
required_size g numbered zero = own_size g numbered (required_first g) (required_first_own g)
required_size g numbered (suc u) = own_size g numbered (required_after g (suc u)) (after_own g (suc u))
