-- The required place as a number, in one fold: it is the required place, 0 if there is none.
use Rattle.std.specs.Prelude.{ℕ, ◌≡◌, refl, Bool, true, false, ◌&&◌, ◌||◌, not, cond, eqb}
use Rattle.std.proofs.Common.{sym, ◌∙◌, subst, inl, inr, eqb-true, eq-eqb}
use Rattle.std.proofs.lemmas.Bool.{false≢true}
use borrow.Author.Tests as tests
use Rattle.basic_laws.specs.Truth.{or_left, or_right, or_cases, and_left, and_right, and_both, not_true, not_both, bool_cases, cond_yes, cond_no, false_not}
use Rattle.model_sets.specs.Sets.{has, has_m, nullable, first, first_m, required_first, required_first_m}
use Rattle.rules.specs.Walk.{Group, place, seq, alt, opt, plus, and, Members, one, also, IsMember}
use Rattle.and_laws.specs.Base.{Apart}
use Rattle.and_laws.specs.Sets.{held, meets, Plain, Good, GoodM, held_has, common_meets}
use Rattle.and_laws.specs.Rest.{any_m}
use Rattle.and_laws.specs.Decide.{passes, fit, now_fit, done, now_done, passes_after, now_passes, or_only}
use Rattle.and_laws.specs.Required.{Other, OtherM, any_member, other_held, member_has}
use Rattle.and_laws.specs.Forced.{first_has, required_first_has, fit_has, now_fit_has, or_first, or_last, required_first_null, State, StateM, seq_first, seq_second, alt_first, alt_second, opt_state, plus_state, and_state, state_m_taken, one_state, more_state, Start, StartM, start_first, start_second, rest_first, rest_must, RestM, rest_has, rest_others, rest_own, fresh_meets, After, AfterM, done_must, after_second, after_g, after_h, alt_after_h, alt_after_g, and_rest, and_now, now_own, now_others}

abbrev pub any_idle : (ℕ → Bool) → Members → Bool
any_idle S m = any_m (λ (g : Group). not (meets g S)) m

-- This is what the only member requires that has not begun, and 0 if there are more or none.
abbrev pub required_rest : Members → (ℕ → Bool) → ℕ
required_rest (one g) S = cond (meets g S) 0 (required_first g)
required_rest (also m g) S = cond (meets g S) (required_rest m S) (cond (any_idle S m) 0 (required_first g))

-- This is what is required after the place u.
abbrev mutual
  pub required_next : Group → ℕ → (ℕ → Bool) → ℕ
  required_next (place n) u S = 0
  required_next (seq g h) u S = cond (has h u) (required_next h u S) (cond (done g u S) (required_first h) (required_next g u S))
  required_next (alt g h) u S = cond (has h u) (required_next h u S) (required_next g u S)
  required_next (opt g) u S = required_next g u S
  required_next (plus g) u S = required_next g u S
  required_next (and m) u S = cond (now_done m u S) (required_rest m S) (required_now m u S)

  pub required_now : Members → ℕ → (ℕ → Bool) → ℕ
  required_now (one g) u S = required_next g u S
  required_now (also m g) u S = cond (has g u) (required_next g u S) (required_now m u S)

-- A place whose other members are spoken of is in the group.
mutual
  pub other_has : (g : Group) (p : ℕ) (h : Group) → Other g p h → has g p ≡ true
  other_has (place n) p h o = absurd o
  other_has (seq g k) p h (inl o) = or_left _ (other_has g p h o)
  other_has (seq g k) p h (inr o) = or_right (has g p) (other_has k p h o)
  other_has (alt g k) p h (inl o) = or_left _ (other_has g p h o)
  other_has (alt g k) p h (inr o) = or_right (has g p) (other_has k p h o)
  other_has (opt g) p h o = other_has g p h o
  other_has (plus g) p h o = other_has g p h o
  other_has (and m) p h o = other_m_place m p h o

  pub other_m_place : (m : Members) (p : ℕ) (h : Group) → OtherM m p h → has_m m p ≡ true
  other_m_place (one g) p h o = other_has g p h o
  other_m_place (also m g) p h (inl (inl o)) = or_left _ (other_m_place m p h o)
  other_m_place (also m g) p h (inl (inr o)) = or_right (has_m m p) (other_has g p h o)
  other_m_place (also m g) p h (inr (inl (i, o))) = or_right (has_m m p) i
  other_m_place (also m g) p h (inr (inr (i, o))) = or_left _ i

-- Every group can begin with some place.
mutual
  pub some_first : (g : Group) → (q : ℕ) × (first g q ≡ true)
  some_first (place n) = (n, eq-eqb n n refl)
  some_first (seq g h) = let (q, e) = some_first g in (q, or_left _ e)
  some_first (alt g h) = let (q, e) = some_first g in (q, or_left _ e)
  some_first (opt g) = some_first g
  some_first (plus g) = some_first g
  some_first (and m) = some_first_m m

  some_first_m : (m : Members) → (q : ℕ) × (first_m m q ≡ true)
  some_first_m (one g) = some_first g
  some_first_m (also m g) = let (q, e) = some_first g in (q, or_right (first_m m q) e)

member_first : (m : Members) (h : Group) (q : ℕ) → IsMember m h → first h q ≡ true → first_m m q ≡ true
member_first (one g) h q i e = subst (λ (k : Group). first k q ≡ true) i e
member_first (also m g) h q (inl i) e = or_left _ (member_first m h q i e)
member_first (also m g) h q (inr i) e = or_right (first_m m q) (subst (λ (k : Group). first k q ≡ true) i e)

member_any : (t : Group → Bool) (m : Members) (h : Group) → IsMember m h → t h ≡ true → any_m t m ≡ true
member_any t (one g) h i e = subst (λ (k : Group). t k ≡ true) i e
member_any t (also m g) h (inl i) e = or_left _ (member_any t m h i e)
member_any t (also m g) h (inr i) e = or_right (any_m t m) (subst (λ (k : Group). t k ≡ true) i e)

-- Where p can begin a group, the other members around it can.
module _ (p : ℕ) where
  pub plain_other : (g : Group) → Plain g → (h : Group) → Other g p h → ⊥
  plain_other (place n) y h o = o
  plain_other (seq g k) (x, y) h (inl o) = plain_other g x h o
  plain_other (seq g k) (x, y) h (inr o) = plain_other k y h o
  plain_other (alt g k) (x, y) h (inl o) = plain_other g x h o
  plain_other (alt g k) (x, y) h (inr o) = plain_other k y h o
  plain_other (opt g) y h o = plain_other g y h o
  plain_other (plus g) y h o = plain_other g y h o
  plain_other (and m) y h o = y

  mutual
    pub first_other : (g : Group) → Good g → (h : Group) (q : ℕ) → Other g p h → first g p ≡ true → first h q ≡ true → first g q ≡ true
    first_other (place n) d h q o e f = absurd o
    first_other (seq g k) (d, c, a) h q (inl o) e f =
        or_left _ (first_other g d h q o (or_first (first g p) _ e (λ j. a p (other_has g p h o) (first_has k p (and_right (nullable g) _ j)))) f)
    first_other (seq g k) (d, c, a) h q (inr o) e f =
        let j = or_last (first g p) _ e (λ j. a p (first_has g p j) (other_has k p h o)) in
        or_right (first g q) (and_both (and_left (nullable g) _ j) (first_other k c h q o (and_right (nullable g) _ j) f))
    first_other (alt g k) (d, c, a) h q (inl o) e f = or_left _ (first_other g d h q o (or_first (first g p) _ e (λ j. a p (other_has g p h o) (first_has k p j))) f)
    first_other (alt g k) (d, c, a) h q (inr o) e f = or_right (first g q) (first_other k c h q o (or_last (first g p) _ e (λ j. a p (first_has g p j) (other_has k p h o))) f)
    first_other (opt g) d h q o e f = first_other g d h q o e f
    first_other (plus g) (d, n) h q o e f = first_other g d h q o e f
    first_other (and m) d h q o e f = first_m_other m d h q o e f

    first_m_other : (m : Members) → GoodM m → (h : Group) (q : ℕ) → OtherM m p h → first_m m p ≡ true → first h q ≡ true → first_m m q ≡ true
    first_m_other (one g) d h q o e f = first_other g d h q o e f
    first_m_other (also m g) (d, k, a) h q (inl (inl o)) e f = or_left _ (first_m_other m d h q o (or_first (first_m m p) _ e (λ j. a p (other_m_place m p h o) (first_has g p j))) f)
    first_m_other (also m g) (d, k, a) h q (inl (inr o)) e f = or_right (first_m m q) (first_other g k h q o (or_last (first_m m p) _ e (λ j. a p (first_has (and m) p j) (other_has g p h o))) f)
    first_m_other (also m g) (d, k, a) h q (inr (inl (i, o))) e f = or_left _ (member_first m h q o f)
    first_m_other (also m g) (d, k, a) h q (inr (inr (i, o))) e f = or_right (first_m m q) (subst (λ (z : Group). first z q ≡ true) o f)

module _ (p : ℕ) (pos : p ≡ 0 → ⊥) where
  -- At the start.
  abbrev Alone : Group → Type 0
  Alone g = (h : Group) → Other g p h → ⊥

  zero_no : {C : Type 0} → 0 ≡ p → C
  zero_no e = absurd (pos (sym e))

  mutual
    pub sound0 : (g : Group) → Good g → required_first g ≡ p → Start g p × Alone g
    sound0 (place n) d e = ((eq-eqb n p e, eq-eqb n p e), λ h o. o)
    sound0 (seq g h) (d, k, a) e =
        bool_cases
        (nullable g)
        (λ i.
        let (x, c) = sound0 h k (sym (cond_yes (required_first h) (required_first g) i) ∙ e) in
        ((or_right (first g p) (and_both i x.0), or_right (passes g p) x.1), second x c))
        (λ i.
        let (x, c) = sound0 g d (sym (cond_no (required_first h) (required_first g) i) ∙ e) in
        ((or_left _ x.0, or_left _ x.1), first_only x c))
      where
        second : Start h p → Alone h → Alone (seq g h)
        second x c z (inl o) = a p (other_has g p z o) (first_has h p x.0)
        second x c z (inr o) = c z o

        first_only : Start g p → Alone g → Alone (seq g h)
        first_only x c z (inl o) = c z o
        first_only x c z (inr o) = a p (first_has g p x.0) (other_has h p z o)
    sound0 (alt g h) d e = zero_no e
    sound0 (opt g) d e = zero_no e
    sound0 (plus g) (d, n) e = sound0 g d e
    sound0 (and m) d e = sound0_m m d e

    sound0_m : (m : Members) → GoodM m → required_first_m m ≡ p → StartM m p × ((h : Group) → OtherM m p h → ⊥)
    sound0_m (one g) d e = sound0 g d e
    sound0_m (also m g) d e = zero_no e

  mutual
    pub complete0 : (g : Group) → Good g → Start g p → ((h : Group) → Other g p h → ⊥) → required_first g ≡ p
    complete0 (place n) d x c = eqb-true n p x.0
    complete0 (seq g h) (d, k, a) x c =
        or_cases
        (has g p)
        (has h p)
        (λ i.
        let v = start_first g h a p i x in
        cond_no (required_first h) (required_first g) (not_true (nullable g) (required_first_null g p v.1)) ∙ complete0 g d v (λ z o. c z (inl o)))
        (λ i.
        let (v, n) = start_second g h a p i x in
        cond_yes (required_first h) (required_first g) n ∙ complete0 h k v (λ z o. c z (inr o)))
        (first_has (seq g h) p x.0)
    complete0 (alt g h) (d, k, a) x c = absurd (a p (required_first_has g p (and_left (passes g p) _ x.1)) (required_first_has h p (and_right (passes g p) _ x.1)))
    complete0 (opt g) d x c = absurd (false≢true x.1)
    complete0 (plus g) (d, n) x c = complete0 g d x c
    complete0 (and m) d x c = complete0_m m d x c

    complete0_m : (m : Members) → GoodM m → StartM m p → ((h : Group) → OtherM m p h → ⊥) → required_first_m m ≡ p
    complete0_m (one g) d x c = complete0 g d x c
    complete0_m (also m g) (d, k, a) x c = absurd (or_cases (has_m m p) (has g p) (λ i. c g (inr (inr (i, refl)))) (λ i. let (h, o) = some_member m in c h (inr (inl (i, o)))) (first_has (and (also m g)) p x.0))
      where
        some_member : (m : Members) → (h : Group) × IsMember m h
        some_member (one g) = (g, refl)
        some_member (also m g) = (g, inr refl)

  -- The members not begun.
  module _ (S : ℕ → Bool) where
    idle_yes : (m : Members) (h : Group) → IsMember m h → meets h S ≡ false → any_idle S m ≡ true
    idle_yes m h i n = member_any (λ (g : Group). not (meets g S)) m h i (rw n)

    rest_sound : (m : Members) → GoodM m → required_rest m S ≡ p → RestM S m p × ((h : Group) → OtherM m p h → meets h S ≡ false → ⊥)
    rest_sound (one g) d e =
        bool_cases
        (meets g S)
        (λ i. zero_no (sym (cond_yes 0 (required_first g) i) ∙ e))
        (λ i.
        let (x, c) = sound0 g d (sym (cond_no 0 (required_first g) i) ∙ e) in
        ((and_both (false_not (meets g S) i) x.0, and_both (false_not (meets g S) i) x.1), λ h o n. c h o))
    rest_sound (also m g) (d, k, a) e =
        bool_cases
        (meets g S)
        (λ i.
        let (x, c) = rest_sound m d (sym (cond_yes (required_rest m S) (cond (any_idle S m) 0 (required_first g)) i) ∙ e) in
        ((or_left _ x.0, or_left _ x.1), old i x c))
        (λ i.
        let f : cond (any_idle S m) 0 (required_first g) ≡ p = sym (cond_no (required_rest m S) (cond (any_idle S m) 0 (required_first g)) i) ∙ e in
        bool_cases
        (any_idle S m)
        (λ j. zero_no (sym (cond_yes 0 (required_first g) j) ∙ f))
        (λ j.
        let (x, c) = sound0 g k (sym (cond_no 0 (required_first g) j) ∙ f) in
        ((or_right (any_m (rest_first S p) m) (and_both (false_not (meets g S) i) x.0), or_right (any_m (rest_must S p) m) (and_both (false_not (meets g S) i) x.1)), new j x c)))
      where
        old : meets g S ≡ true → RestM S m p → ((h : Group) → OtherM m p h → meets h S ≡ false → ⊥) → (h : Group) → OtherM (also m g) p h → meets h S ≡ false → ⊥
        old i x c h (inl (inl o)) n = c h o n
        old i x c h (inl (inr o)) n = a p (rest_has S m p x) (other_has g p h o)
        old i x c h (inr (inl (j, o))) n = a p (rest_has S m p x) j
        old i x c h (inr (inr (j, o))) n = not_both n (subst (λ (k : Group). meets k S ≡ true) (sym o) i)

        new : any_idle S m ≡ false → Start g p → Alone g → (h : Group) → OtherM (also m g) p h → meets h S ≡ false → ⊥
        new j x c h (inl (inl o)) n = a p (other_m_place m p h o) (first_has g p x.0)
        new j x c h (inl (inr o)) n = c h o
        new j x c h (inr (inl (i, o))) n = not_both j (idle_yes m h o n)
        new j x c h (inr (inr (i, o))) n = a p i (first_has g p x.0)

    unmet_other : (g : Group) (h : Group) → Other g p h → meets g S ≡ false → meets h S ≡ false
    unmet_other g h o n = fresh_meets h S (held g) (λ r i. other_held g p h r o i) (λ r i j. not_both n (common_meets g S r (held_has g r i) j))

    rest_complete : (m : Members) → GoodM m → RestM S m p → ((h : Group) → OtherM m p h → meets h S ≡ false → ⊥) → required_rest m S ≡ p
    rest_complete (one g) d (x, y) c =
        let n = tests.not-true (meets g S) (and_left (not (meets g S)) _ x) in
        cond_no 0 (required_first g) n ∙ complete0 g d (and_right (not (meets g S)) _ x, and_right (not (meets g S)) _ y) (λ h o. c h o (unmet_other g h o n))
    rest_complete (also m g) (d, k, a) x c =
        or_cases
        (has_m m p)
        (has g p)
        (λ i.
        bool_cases
        (meets g S)
        (λ j. cond_yes (required_rest m S) (cond (any_idle S m) 0 (required_first g)) j ∙ rest_complete m d (rest_others S m g a p i x) (λ h o n. c h (inl (inl o)) n))
        (λ j. absurd (c g (inr (inr (i, refl))) j)))
        (λ i.
        let (v, w) = rest_own S m g a p i x in
        let n = tests.not-true (meets g S) (and_left (not (meets g S)) _ v) in
        let z : any_idle S m ≡ false = not_true (any_idle S m) (λ j. let (h, o, l) = any_member (λ (g : Group). not (meets g S)) m j in c h (inr (inl (i, o))) (tests.not-true (meets h S) l)) in
        cond_no (required_rest m S) (cond (any_idle S m) 0 (required_first g)) n ∙ cond_no 0 (required_first g) z ∙ complete0 g k (and_right (not (meets g S)) _ v, and_right (not (meets g S)) _ w) (λ h o. c h (inl (inr o)) (unmet_other g h o n)))
        (rest_has S (also m g) p x)

    -- Another member not begun can begin now.
    rest_next : (m : Members) → GoodM m → (h : Group) → OtherM m p h → meets h S ≡ false → RestM S m p → (q : ℕ) → first h q ≡ true → any_m (rest_first S q) m ≡ true
    rest_next (one g) d h o n x q f = and_both (and_left (not (meets g S)) _ x.0) (first_other p g d h q o (and_right (not (meets g S)) _ x.0) f)
    rest_next (also m g) (d, k, a) h (inl (inl o)) n x q f = or_left _ (rest_next m d h o n (rest_others S m g a p (other_m_place m p h o) x) q f)
    rest_next (also m g) (d, k, a) h (inl (inr o)) n x q f =
        let v = (rest_own S m g a p (other_has g p h o) x).0 in
        or_right (any_m (rest_first S q) m) (and_both (and_left (not (meets g S)) _ v) (first_other p g k h q o (and_right (not (meets g S)) _ v) f))
    rest_next (also m g) (d, k, a) h (inr (inl (i, o))) n x q f = or_left _ (member_any (rest_first S q) m h o (and_both (false_not (meets h S) n) f))
    rest_next (also m g) (d, k, a) h (inr (inr (i, o))) n x q f = or_right (any_m (rest_first S q) m) (subst (λ (z : Group). rest_first S q z ≡ true) o (and_both (false_not (meets h S) n) f))

    abbrev Quiet : Group → ℕ → Type 0
    Quiet g u = (h : Group) → Other g p h → meets h S ≡ false → (q : ℕ) → has h q ≡ true → fit g u S q ≡ true → ⊥

    abbrev QuietM : Members → ℕ → Type 0
    QuietM m u = (h : Group) → OtherM m p h → meets h S ≡ false → (q : ℕ) → has h q ≡ true → now_fit m u S q ≡ true → ⊥

    module _ (g h : Group) (a : Apart (has g) (has h)) (u : ℕ) where
      quiet_h : has h u ≡ true → has h p ≡ true → Quiet h u → Quiet (seq g h) u
      quiet_h j i c z (inl o) n = absurd (a p (other_has g p z o) i)
      quiet_h j i c z (inr o) n = (λ q x y. c z o n q x (sym (cond_yes (fit h u S q) (fit g u S q || (done g u S && first h q)) j) ∙ y))

      quiet_alone : has h p ≡ true → Alone h → Quiet (seq g h) u
      quiet_alone i c z (inl o) n = absurd (a p (other_has g p z o) i)
      quiet_alone i c z (inr o) n = absurd (c z o)

      quiet_g : has h u ≡ false → done g u S ≡ false → has g p ≡ true → Quiet g u → Quiet (seq g h) u
      quiet_g j t i c z (inl o) n =
          (λ q x y. or_cases (fit g u S q) _ (c z o n q x) (λ l. not_both t (and_left (done g u S) _ l)) (sym (cond_no (fit h u S q) (fit g u S q || (done g u S && first h q)) j) ∙ y))
      quiet_g j t i c z (inr o) n = absurd (a p i (other_has h p z o))

      quiet_alt_h : has h u ≡ true → has h p ≡ true → Quiet h u → Quiet (alt g h) u
      quiet_alt_h j i c z (inl o) n = absurd (a p (other_has g p z o) i)
      quiet_alt_h j i c z (inr o) n = (λ q x y. c z o n q x (sym (cond_yes (fit h u S q) (fit g u S q) j) ∙ y))

      quiet_alt_g : has h u ≡ false → has g p ≡ true → Quiet g u → Quiet (alt g h) u
      quiet_alt_g j i c z (inl o) n = (λ q x y. c z o n q x (sym (cond_no (fit h u S q) (fit g u S q) j) ∙ y))
      quiet_alt_g j i c z (inr o) n = absurd (a p i (other_has h p z o))

    module _ (m : Members) (g : Group) (a : Apart (has_m m) (has g)) (u : ℕ) where
      quiet_own : has g u ≡ true → has g p ≡ true → Quiet g u → QuietM (also m g) u
      quiet_own j i c z (inl (inl o)) n = absurd (a p (other_m_place m p z o) i)
      quiet_own j i c z (inl (inr o)) n = (λ q x y. c z o n q x (sym (cond_yes (fit g u S q) (now_fit m u S q) j) ∙ y))
      quiet_own j i c z (inr (inl (l, o))) n =
          (λ q x y. a q (member_has m z q o x) (fit_has g u S q (sym (cond_yes (fit g u S q) (now_fit m u S q) j) ∙ y)))
      quiet_own j i c z (inr (inr (l, o))) n = absurd (a p l i)

      quiet_others : has g u ≡ false → has_m m p ≡ true → QuietM m u → QuietM (also m g) u
      quiet_others j i c z (inl (inl o)) n = (λ q x y. c z o n q x (sym (cond_no (fit g u S q) (now_fit m u S q) j) ∙ y))
      quiet_others j i c z (inl (inr o)) n = absurd (a p i (other_has g p z o))
      quiet_others j i c z (inr (inl (l, o))) n = absurd (a p i l)
      quiet_others j i c z (inr (inr (l, o))) n =
          (λ q x y. a q (now_fit_has m u S q (sym (cond_no (fit g u S q) (now_fit m u S q) j) ∙ y)) (subst (λ (k : Group). has k q ≡ true) o x))

    -- The fold's place is required.
    mutual
      pub sound : (g : Group) → Good g → (u : ℕ) → has g u ≡ true → required_next g u S ≡ p → After S g u p × Quiet g u
      sound (place n) d u i e = zero_no e
      sound (seq g h) (d, k, a) u i e =
          bool_cases
          (has h u)
          (λ j.
          let (x, c) = sound h k u j (sym (cond_yes (required_next h u S) (cond (done g u S) (required_first h) (required_next g u S)) j) ∙ e) in
          ((cond_yes (fit h u S p) (fit g u S p || (done g u S && first h p)) j ∙ x.0, cond_yes (passes_after h u S p) (passes_after g u S p || passes h p) j ∙ x.1), quiet_h g h a u j (fit_has h u S p x.0) c))
          (λ j.
          let f : cond (done g u S) (required_first h) (required_next g u S) ≡ p = sym (cond_no (required_next h u S) (cond (done g u S) (required_first h) (required_next g u S)) j) ∙ e in
          bool_cases
          (done g u S)
          (λ t.
          let (x, c) = sound0 h k (sym (cond_yes (required_first h) (required_next g u S) t) ∙ f) in
          ((cond_no (fit h u S p) (fit g u S p || (done g u S && first h p)) j ∙ or_right (fit g u S p) (and_both t x.0), cond_no (passes_after h u S p) (passes_after g u S p || passes h p) j ∙ or_right (passes_after g u S p) x.1), quiet_alone g h a u (first_has h p x.0) c))
          (λ t.
          let (x, c) = sound g d u (or_only (has g u) (has h u) j i) (sym (cond_no (required_first h) (required_next g u S) t) ∙ f) in
          ((cond_no (fit h u S p) (fit g u S p || (done g u S && first h p)) j ∙ or_left _ x.0, cond_no (passes_after h u S p) (passes_after g u S p || passes h p) j ∙ or_left _ x.1), quiet_g g h a u j t (fit_has g u S p x.0) c)))
      sound (alt g h) (d, k, a) u i e =
          bool_cases
          (has h u)
          (λ j.
          let (x, c) = sound h k u j (sym (cond_yes (required_next h u S) (required_next g u S) j) ∙ e) in
          ((cond_yes (fit h u S p) (fit g u S p) j ∙ x.0, cond_yes (passes_after h u S p) (passes_after g u S p) j ∙ x.1), quiet_alt_h g h a u j (fit_has h u S p x.0) c))
          (λ j.
          let (x, c) = sound g d u (or_only (has g u) (has h u) j i) (sym (cond_no (required_next h u S) (required_next g u S) j) ∙ e) in
          ((cond_no (fit h u S p) (fit g u S p) j ∙ x.0, cond_no (passes_after h u S p) (passes_after g u S p) j ∙ x.1), quiet_alt_g g h a u j (fit_has g u S p x.0) c))
      sound (opt g) d u i e = sound g d u i e
      sound (plus g) (d, n) u i e =
          let (x, c) = sound g d u i e in
          ((or_left _ x.0, x.1), λ h o m. absurd (plain_other p g n h o))
      sound (and m) d u i e =
          bool_cases
          (now_done m u S)
          (λ t.
          let (x, c) = rest_sound m d (sym (cond_yes (required_rest m S) (required_now m u S) t) ∙ e) in
          ((or_right (now_fit m u S p) (and_both t x.0), or_right (now_passes m u S p) x.1), λ h o n. absurd (c h o n)))
          (λ t.
          let (x, c) = sound_now m d u i (sym (cond_no (required_rest m S) (required_now m u S) t) ∙ e) in
          ((or_left _ x.0, or_left _ x.1), λ h o n q v y. c h o n q v (or_first (now_fit m u S q) _ y (λ l. not_both t (and_left (now_done m u S) _ l)))))

      sound_now : (m : Members) → GoodM m → (u : ℕ) → has_m m u ≡ true → required_now m u S ≡ p → AfterM S m u p × QuietM m u
      sound_now (one g) d u i e = sound g d u i e
      sound_now (also m g) (d, k, a) u i e =
          bool_cases
          (has g u)
          (λ j.
          let (x, c) = sound g k u j (sym (cond_yes (required_next g u S) (required_now m u S) j) ∙ e) in
          ((cond_yes (fit g u S p) (now_fit m u S p) j ∙ x.0, cond_yes (passes_after g u S p) (now_passes m u S p) j ∙ x.1), quiet_own m g a u j (fit_has g u S p x.0) c))
          (λ j.
          let (x, c) = sound_now m d u (or_only (has_m m u) (has g u) j i) (sym (cond_no (required_next g u S) (required_now m u S) j) ∙ e) in
          ((cond_no (fit g u S p) (now_fit m u S p) j ∙ x.0, cond_no (passes_after g u S p) (now_passes m u S p) j ∙ x.1), quiet_others m g a u j (now_fit_has m u S p x.0) c))

    -- And the required place is the fold's.
    mutual
      pub complete : (g : Group) → Good g → (u : ℕ) → has g u ≡ true → State g u S → After S g u p → Quiet g u → required_next g u S ≡ p
      complete (place n) d u i s x c = absurd (false≢true x.0)
      complete (seq g h) (d, k, a) u i s x c =
          bool_cases
          (has h u)
          (λ j.
          cond_yes (required_next h u S) (cond (done g u S) (required_first h) (required_next g u S)) j
          ∙ complete h k u j (seq_second g h a u S j s) (after_second S g h a u p j x) (λ z o n. (λ q v y. c z (inr o) n q v (cond_yes (fit h u S q) (fit g u S q || (done g u S && first h q)) j ∙ y))))
          (λ j.
          let l : has g u ≡ true = or_only (has g u) (has h u) j i in
          let (v, f) = seq_first g h a u S l s in
          cond_no (required_next h u S) (cond (done g u S) (required_first h) (required_next g u S)) j
          ∙ or_cases (has g p) (has h p)
          (λ r.
          let w = after_g S g h a u p j r x in
          cond_no (required_first h) (required_next g u S) (not_true (done g u S) (λ t. done_must S g d u p l t w.1))
          ∙ complete g d u l v w (λ z o n. (λ q y t. c z (inl o) n q y (cond_no (fit h u S q) (fit g u S q || (done g u S && first h q)) j ∙ or_left _ t))))
          (λ r.
          let (w, t) = after_h S g h a u p j r x in
          cond_yes (required_first h) (required_next g u S) t
          ∙ complete0 h k w (λ z o.
          let (q, y) = some_first z in
          c z (inr o) (fresh_meets z S (held h) (λ m n. other_held h p z m o n) f) q (first_has z q y) (cond_no (fit h u S q) (fit g u S q || (done g u S && first h q)) j ∙ or_right (fit g u S q) (and_both t (first_other p h k z q o w.0 y)))))
          (fit_has (seq g h) u S p x.0))
      complete (alt g h) (d, k, a) u i s x c =
          bool_cases
          (has h u)
          (λ j.
          cond_yes (required_next h u S) (required_next g u S) j
          ∙ complete h k u j (alt_second g h a u S j s) (alt_after_h S g h a u p j x) (λ z o n. (λ q v y. c z (inr o) n q v (cond_yes (fit h u S q) (fit g u S q) j ∙ y))))
          (λ j.
          let l : has g u ≡ true = or_only (has g u) (has h u) j i in
          cond_no (required_next h u S) (required_next g u S) j
          ∙ complete g d u l (alt_first g h a u S l s) (alt_after_g S g h a u p j x) (λ z o n. (λ q v y. c z (inl o) n q v (cond_no (fit h u S q) (fit g u S q) j ∙ y))))
      complete (opt g) d u i s x c = complete g d u i (opt_state g u S s) x c
      complete (plus g) (d, n) u i (s, z, e, v, w) x c =
          complete g d u i (plus_state g n u S w s z e refl) (or_first (fit g u S p) _ x.0 (λ l. done_must S g d u p i (and_left (done g u S) _ l) x.1), x.1) (λ h o m. absurd (plain_other p g n h o))
      complete (and m) d u i s x c =
          let v = and_state m u S s in
          let t = state_m_taken m u S v in
          bool_cases
          (now_done m u S)
          (λ n.
          let w = and_rest S m d u p i t n x in
          cond_yes (required_rest m S) (required_now m u S) n
          ∙ rest_complete m d w (λ h o r. let (q, y) = some_first h in c h o r q (first_has h q y) (or_right (now_fit m u S q) (and_both n (rest_next m d h o r w q y)))))
          (λ n.
          let w = and_now S m d u p i t n x in
          cond_no (required_rest m S) (required_now m u S) n
          ∙ complete_now m d u i v w (λ h o r. (λ q y l. c h o r q y (or_left _ l))))

      complete_now : (m : Members) → GoodM m → (u : ℕ) → has_m m u ≡ true → StateM m u S → AfterM S m u p → QuietM m u → required_now m u S ≡ p
      complete_now (one g) d u i s x c = complete g d u i (one_state g u S s) x c
      complete_now (also m g) (d, k, a) u i s x c =
          bool_cases
          (has g u)
          (λ j.
          cond_yes (required_next g u S) (required_now m u S) j
          ∙ complete g k u j ((more_state m g a u S s).0 j) (now_own S m g u p j x) (λ z o n. (λ q v y. c z (inl (inr o)) n q v (cond_yes (fit g u S q) (now_fit m u S q) j ∙ y))))
          (λ j.
          let l : has_m m u ≡ true = or_only (has_m m u) (has g u) j i in
          cond_no (required_next g u S) (required_now m u S) j
          ∙ complete_now m d u l ((more_state m g a u S s).1 l) (now_others S m g u p j x) (λ z o n. (λ q v y. c z (inl (inl o)) n q v (cond_no (fit g u S q) (now_fit m u S q) j ∙ y))))
