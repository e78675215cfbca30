-- A place that may come next and that every walk passes, form by form: in which part of the group it is.
use Rattle.std.specs.Prelude.{ℕ, ◌≡◌, refl, Bool, true, false, ◌&&◌, ◌||◌, not, cond, ◌⊎◌, eqb}
use Rattle.std.proofs.Common.{sym, ◌∙◌, ap, subst, inl, inr, eq-eqb}
use Rattle.std.proofs.lemmas.Bool.{false≢true}
use mathlib.Core.List.{List, [], ◌∷◌, ◌++◌, append_assoc, append-nil, cons≢nil}
use borrow.Author.Tests as tests
use Rattle.basic_laws.specs.Truth.{or_left, or_right, or_cases, and_left, and_right, not_true, not_both, bool_cases, cond_yes, cond_no}
use Rattle.model_sets.specs.Sets.{has, has_m, nullable, first, first_m}
use Rattle.rules.specs.Walk.{Group, place, seq, alt, opt, plus, and, Members, one, also, Runs, once, more, joined, Walk}
use Rattle.and_laws.specs.Base.{mem, mem_left, mem_right, Apart, Ends, ends_split, ends_mem, Cuts, cuts, Inside, inside, nil≢middle}
use Rattle.and_laws.specs.Sets.{held, meets, Plain, Good, GoodM, plain_held, held_has, walk_in, meets_common, common_meets}
use Rattle.and_laws.specs.Blocks.{block, Arr, walk_arr, At, before, here, after, at_block}
use Rattle.and_laws.specs.Left.{Agrees, agrees_less, agrees_second, agrees_out, agrees_own, ends_in_lem, arr_has}
use Rattle.and_laws.specs.Fold.{some_walk, null_walk, first_begins}
use Rattle.and_laws.specs.Rest.{any_m}
use Rattle.and_laws.specs.Decide.{passes, passes_m, required_first_walk, fit, now_fit, done, now_done, passes_after, now_passes, done_left, done_now, required_first_left, required_first_now, or_only}

-- What begins, is passed or comes next is a place of the group.

pub first_has : (g : Group) (p : ℕ) → first g p ≡ true → has g p ≡ true
first_has g p e = let (t, w) = first_begins g p e in walk_in g (p ∷ t) w p (or_left _ (eq-eqb p p refl))

pub required_first_has : (g : Group) (p : ℕ) → passes g p ≡ true → has g p ≡ true
required_first_has g p e = let (w, x) = some_walk g in walk_in g w x p (required_first_walk g p e w x)

pub required_first_null : (g : Group) (p : ℕ) → passes g p ≡ true → nullable g ≡ true → ⊥
required_first_null g p e n = false≢true (required_first_walk g p e [] (null_walk g n))

cond_either : {C : Type 0} (c x y : Bool) → cond c x y ≡ true → (x ≡ true → C) → (y ≡ true → C) → C
cond_either true x y e f k = f e
cond_either false x y e f k = k e

pub any_has : (t : Group → Bool) (p : ℕ) → ((g : Group) → t g ≡ true → has g p ≡ true) → (m : Members) → any_m t m ≡ true → has_m m p ≡ true
any_has t p f (one g) e = f g e
any_has t p f (also m g) e = or_cases (any_m t m) _ (λ i. or_left _ (any_has t p f m i)) (λ i. or_right (has_m m p) (f g i)) e

mutual
  pub fit_has : (g : Group) (u : ℕ) (S : ℕ → Bool) (p : ℕ) → fit g u S p ≡ true → has g p ≡ true
  fit_has (place n) u S p e = absurd (false≢true e)
  fit_has (seq g h) u S p e =
      cond_either (has h u) _ _ e (λ i. or_right (has g p) (fit_has h u S p i)) (or_cases (fit g u S p) _ (λ i. or_left _ (fit_has g u S p i)) (λ i. or_right (has g p) (first_has h p (and_right (done g u S) _ i))))
  fit_has (alt g h) u S p e = cond_either (has h u) _ _ e (λ i. or_right (has g p) (fit_has h u S p i)) (λ i. or_left _ (fit_has g u S p i))
  fit_has (opt g) u S p e = fit_has g u S p e
  fit_has (plus g) u S p e = or_cases (fit g u S p) _ (λ i. fit_has g u S p i) (λ i. first_has g p (and_right (done g u S) _ i)) e
  fit_has (and m) u S p e =
      or_cases (now_fit m u S p) _ (λ i. now_fit_has m u S p i) (λ i. any_has (λ (g : Group). not (meets g S) && first g p) p (λ g j. first_has g p (and_right (not (meets g S)) _ j)) m (and_right (now_done m u S) _ i)) e

  pub now_fit_has : (m : Members) (u : ℕ) (S : ℕ → Bool) (p : ℕ) → now_fit m u S p ≡ true → has_m m p ≡ true
  now_fit_has (one g) u S p e = fit_has g u S p e
  now_fit_has (also m g) u S p e = cond_either (has g u) _ _ e (λ i. or_right (has_m m p) (fit_has g u S p i)) (λ i. or_left _ (now_fit_has m u S p i))

mutual
  pub required_after_has : (g : Group) (u : ℕ) (S : ℕ → Bool) (p : ℕ) → passes_after g u S p ≡ true → has g p ≡ true
  required_after_has (place n) u S p e = absurd (false≢true e)
  required_after_has (seq g h) u S p e =
      cond_either (has h u) _ _ e (λ i. or_right (has g p) (required_after_has h u S p i)) (or_cases (passes_after g u S p) _ (λ i. or_left _ (required_after_has g u S p i)) (λ i. or_right (has g p) (required_first_has h p i)))
  required_after_has (alt g h) u S p e = cond_either (has h u) _ _ e (λ i. or_right (has g p) (required_after_has h u S p i)) (λ i. or_left _ (required_after_has g u S p i))
  required_after_has (opt g) u S p e = required_after_has g u S p e
  required_after_has (plus g) u S p e = required_after_has g u S p e
  required_after_has (and m) u S p e =
      or_cases (now_passes m u S p) _ (λ i. now_must_has m u S p i) (λ i. any_has (λ (g : Group). not (meets g S) && passes g p) p (λ g j. required_first_has g p (and_right (not (meets g S)) _ j)) m i) e

  pub now_must_has : (m : Members) (u : ℕ) (S : ℕ → Bool) (p : ℕ) → now_passes m u S p ≡ true → has_m m p ≡ true
  now_must_has (one g) u S p e = required_after_has g u S p e
  now_must_has (also m g) u S p e = cond_either (has g u) _ _ e (λ i. or_right (has_m m p) (required_after_has g u S p i)) (λ i. or_left _ (now_must_has m u S p i))

-- The state of some beginning: u its last place, S the places taken in "&" groups.

abbrev pub State : Group → ℕ → (ℕ → Bool) → Type 0
State g u S = (s : List ℕ) × (z : List ℕ) × Ends s u × Agrees (held g) s S × Walk g (s ++ z)

abbrev pub StateM : Members → ℕ → (ℕ → Bool) → Type 0
StateM m u S = (x : List (List ℕ)) × (v : List ℕ) × (z : List ℕ) × (y : List (List ℕ)) × Ends v u × Agrees (has_m m) (joined x ++ v) S × Arr Walk m (x ++ (v ++ z) ∷ y)

-- No place in an "&" group of it is taken.
abbrev pub Fresh : Group → (ℕ → Bool) → Type 0
Fresh h S = (p : ℕ) → held h p ≡ true → S p ≡ true → ⊥

module _ (g h : Group) (d : Apart (has g) (has h)) (u : ℕ) (S : ℕ → Bool) where
  seq_fresh : (s c : List ℕ) → Agrees (held (seq g h)) s S → Walk g (s ++ c) → Fresh h S
  seq_fresh s c i w p j k = d p (walk_in g (s ++ c) w p (mem_left s c p ((i p (or_right (held g p) j)).0 k))) (held_has h p j)

  seq_low : (s : List ℕ) → Agrees (held (seq g h)) s S → Agrees (held g) s S
  seq_low s i = agrees_less (held (seq g h)) (held g) s S (λ p l. or_left _ l) i

  pub seq_first : has g u ≡ true → State (seq g h) u S → State g u S × Fresh h S
  seq_first n (s, z, e, i, (a, b, q, x, y)) = go (cuts s z a b q)
    where
      last : (c : List ℕ) → s ≡ a ++ c → b ≡ c ++ z → ((c ≡ []) × Ends a u) ⊎ Ends c u → State g u S × Fresh h S
      last c p r (inl (m, j)) =
          let w : Walk g (s ++ []) = rw append-nil (subst (Walk g) (sym (p ∙ ap (◌++◌ a) m ∙ append-nil a)) x) in
          ((s, [], e, seq_low s i, w), seq_fresh s [] i w)
      last c p r (inr j) = absurd (d u n (ends_in_lem (has h) c z u j (walk_in h (c ++ z) (subst (Walk h) r y))))

      go : Cuts s z a b → State g u S × Fresh h S
      go (inl (c, p, r)) = last c p r (ends_split a c u (rw p at e))
      go (inr (c, p, r)) =
          let w : Walk g (s ++ c) = subst (Walk g) p x in
          ((s, c, e, seq_low s i, w), seq_fresh s c i w)

  pub seq_second : has h u ≡ true → State (seq g h) u S → State h u S
  seq_second n (s, z, e, i, (a, b, q, x, y)) = go (cuts s z a b q)
    where
      last : (c : List ℕ) → s ≡ a ++ c → b ≡ c ++ z → ((c ≡ []) × Ends a u) ⊎ Ends c u → State h u S
      last c p r (inl (m, j)) = absurd (d u (walk_in g a x u (ends_mem a u j)) n)
      last c p r (inr j) =
          (c, z, j, agrees_second (has g) (held h) a c S (walk_in g a x) (λ q l o. d q l (held_has h q o)) (agrees_less (held (seq g h)) (held h) (a ++ c) S (λ q l. or_right (held g q) l) (subst (λ (l : List ℕ). Agrees (held (seq g h)) l S) p i)), subst (Walk h) r y)

      go : Cuts s z a b → State h u S
      go (inl (c, p, r)) = last c p r (ends_split a c u (rw p at e))
      go (inr (c, p, r)) = absurd (d u (ends_in_lem (has g) s c u e (walk_in g (s ++ c) (subst (Walk g) p x))) n)

  pub alt_first : has g u ≡ true → State (alt g h) u S → State g u S
  alt_first n (s, z, e, i, inl w) = (s, z, e, agrees_less (held (alt g h)) (held g) s S (λ p l. or_left _ l) i, w)
  alt_first n (s, z, e, i, inr w) = absurd (d u n (ends_in_lem (has h) s z u e (walk_in h (s ++ z) w)))

  pub alt_second : has h u ≡ true → State (alt g h) u S → State h u S
  alt_second n (s, z, e, i, inl w) = absurd (d u (ends_in_lem (has g) s z u e (walk_in g (s ++ z) w)) n)
  alt_second n (s, z, e, i, inr w) = (s, z, e, agrees_less (held (alt g h)) (held h) s S (λ p l. or_right (held g p) l) i, w)

pub opt_state : (g : Group) (u : ℕ) (S : ℕ → Bool) → State (opt g) u S → State g u S
opt_state g u S ([], z, e, i, w) = absurd e
opt_state g u S (p ∷ s, z, e, i, inl n) = absurd (cons≢nil n)
opt_state g u S (p ∷ s, z, e, i, inr w) = (p ∷ s, z, e, i, w)

-- Without "&" any place of the group is the last of some beginning.
pub plus_state : (g : Group) → Plain g → (u : ℕ) (S : ℕ → Bool) → {w : List ℕ} → Runs (Walk g) w → (s z : List ℕ) → Ends s u → w ≡ s ++ z → State g u S
plus_state g n u S (once x) s z e q = (s, z, e, (λ p i. absurd (plain_held g n p i)), subst (Walk g) q x)
plus_state g n u S (more a b c x r) s z e q = go (λ s j l. plus_state g n u S r s z j l) (cuts s z a b (sym q ∙ c))
  where
    last : ((s : List ℕ) → Ends s u → b ≡ s ++ z → State g u S) → (c : List ℕ) → b ≡ c ++ z → ((c ≡ []) × Ends a u) ⊎ Ends c u → State g u S
    last k c y (inl (m, j)) = (a, [], j, (λ p i. absurd (plain_held g n p i)), rw append-nil x)
    last k c y (inr j) = k c j y

    go : ((s : List ℕ) → Ends s u → b ≡ s ++ z → State g u S) → Cuts s z a b → State g u S
    go k (inl (c, p, y)) = last k c y (ends_split a c u (rw p at e))
    go k (inr (c, p, y)) = (s, c, e, (λ p i. absurd (plain_held g n p i)), subst (Walk g) p x)

pub and_state : (m : Members) (u : ℕ) (S : ℕ → Bool) → State (and m) u S → StateM m u S
and_state m u S (s, z, e, i, w) = go (walk_arr m (s ++ z) w)
  where
    at : (bs : List (List ℕ)) → Arr Walk m bs → Inside s z bs u → StateM m u S
    at bs o (x, v, z2, y, b, p, r, j) = (x, v, z2, y, j, subst (λ (l : List ℕ). Agrees (has_m m) l S) p i, subst (Arr Walk m) b o)

    go : ((bs : List (List ℕ)) × (s ++ z ≡ joined bs) × Arr Walk m bs) → StateM m u S
    go (bs, q, o) = at bs o (inside bs s z u e q)

-- The last place is taken.
pub state_m_taken : (m : Members) (u : ℕ) (S : ℕ → Bool) → StateM m u S → S u ≡ true
state_m_taken m u S (x, v, z, y, e, i, o) = (i u (arr_has m x v z y u e o)).1 (mem_right (joined x) v u (ends_mem v u e))

pub one_state : (g : Group) (u : ℕ) (S : ℕ → Bool) → StateM (one g) u S → State g u S
one_state g u S (x, v, z, y, e, i, (w, q, n)) = go (at_block [] [] w x (v ++ z) y (append-nil (block w) ∙ sym q))
  where
    go : At [] [] w x (v ++ z) y → State g u S
    go (before c p r) = absurd (nil≢middle c (v ++ z) y r)
    go (here p r l) = (v, z, e, agrees_less (has g) (held g) v S (held_has g) (subst (λ (h : List (List ℕ)). Agrees (has g) (joined h ++ v) S) (sym r) i), subst (Walk g) p n)
    go (after c p r) = absurd (nil≢middle x (v ++ z) c r)

module _ (m : Members) (g : Group) (d : Apart (has_m m) (has g)) (u : ℕ) (S : ℕ → Bool) where
  pub more_state : StateM (also m g) u S → (has g u ≡ true → State g u S) × (has_m m u ≡ true → StateM m u S)
  more_state (x, v, z, y, e, i, (a, b, w, q, o, n)) = go (at_block a b w x (v ++ z) y (sym q))
    where
      go : At a b w x (v ++ z) y → (has g u ≡ true → State g u S) × (has_m m u ≡ true → StateM m u S)
      go (before c p r) =
          let o2 : Arr Walk m ((a ++ c) ++ (v ++ z) ∷ y) = subst (Arr Walk m) (ap (◌++◌ a) r ∙ sym (append_assoc a c ((v ++ z) ∷ y))) o in
          (λ j. absurd (d u (arr_has m (a ++ c) v z y u e o2) j), λ j. (a ++ c, v, z, y, e, agrees_out S m g d a c w v n (subst (λ (l : List (List ℕ)). Agrees (has_m (also m g)) (joined l ++ v) S) p i), o2))
      go (here p r l) =
          let n2 : Walk g (v ++ z) = subst (Walk g) p n in
          (λ j. (v, z, e, agrees_own S m g d x y v (subst (Arr Walk m) (rw (r, l)) o) i, n2), λ j. absurd (d u j (ends_in_lem (has g) v z u e (walk_in g (v ++ z) n2))))
      go (after c p r) =
          let o2 : Arr Walk m (x ++ (v ++ z) ∷ (c ++ b)) = subst (Arr Walk m) (ap (λ (l : List (List ℕ)). l ++ b) r ∙ append_assoc x ((v ++ z) ∷ c) b) o in
          (λ j. absurd (d u (arr_has m x v z (c ++ b) u e o2) j), λ j. (x, v, z, c ++ b, e, agrees_less (has_m (also m g)) (has_m m) (joined x ++ v) S (λ p l. or_left _ l) i, o2))

pub fresh_meets : (h : Group) (S : ℕ → Bool) (f : ℕ → Bool) → ((p : ℕ) → has h p ≡ true → f p ≡ true) → ((p : ℕ) → f p ≡ true → S p ≡ true → ⊥) → meets h S ≡ false
fresh_meets h S f i n = not_true (meets h S) (λ j. let (p, x, y) = meets_common h S j in n p (i p x) y)

-- Of two tests the one holds whose group has the place.
pub or_first : (a b : Bool) → a || b ≡ true → (b ≡ true → ⊥) → a ≡ true
or_first a b e n = or_only a b (not_true b n) e

pub or_last : (a b : Bool) → a || b ≡ true → (a ≡ true → ⊥) → b ≡ true
or_last a b e n = or_cases a b (λ i. absurd (n i)) (λ i. i) e

-- The place begins the group, and every walk passes it.
abbrev pub Start : Group → ℕ → Type 0
Start g p = (first g p ≡ true) × (passes g p ≡ true)

abbrev pub StartM : Members → ℕ → Type 0
StartM m p = (first_m m p ≡ true) × (passes_m m p ≡ true)

pub first_m_has : (m : Members) (p : ℕ) → first_m m p ≡ true → has_m m p ≡ true
first_m_has m p e = first_has (and m) p e

module _ (g h : Group) (d : Apart (has g) (has h)) (p : ℕ) where
  pub start_first : has g p ≡ true → Start (seq g h) p → Start g p
  start_first i (x, y) = (or_first (first g p) _ x (λ j. d p i (first_has h p (and_right (nullable g) _ j))), or_first (passes g p) _ y (λ j. d p i (required_first_has h p j)))

  pub start_second : has h p ≡ true → Start (seq g h) p → Start h p × (nullable g ≡ true)
  start_second i (x, y) =
      let k = or_last (first g p) _ x (λ j. d p (first_has g p j) i) in
      ((and_right (nullable g) _ k, or_last (passes g p) _ y (λ j. d p (required_first_has g p j) i)), and_left (nullable g) _ k)

module _ (S : ℕ → Bool) where
  -- The member has not begun, and can begin with the place.
  abbrev pub rest_first : ℕ → Group → Bool
  rest_first r g = not (meets g S) && first g r

  abbrev pub rest_must : ℕ → Group → Bool
  rest_must r g = not (meets g S) && passes g r

  pub rest_first_has : (r : ℕ) (g : Group) → rest_first r g ≡ true → has g r ≡ true
  rest_first_has r g e = first_has g r (and_right (not (meets g S)) _ e)

  pub rest_must_has : (r : ℕ) (g : Group) → rest_must r g ≡ true → has g r ≡ true
  rest_must_has r g e = required_first_has g r (and_right (not (meets g S)) _ e)

  abbrev pub RestM : Members → ℕ → Type 0
  RestM m r = (any_m (rest_first r) m ≡ true) × (any_m (rest_must r) m ≡ true)

  module _ (m : Members) (g : Group) (a : Apart (has_m m) (has g)) (r : ℕ) where
    pub rest_others : has_m m r ≡ true → RestM (also m g) r → RestM m r
    rest_others i (x, y) = (or_first (any_m (rest_first r) m) _ x (λ j. a r i (rest_first_has r g j)), or_first (any_m (rest_must r) m) _ y (λ j. a r i (rest_must_has r g j)))

    pub rest_own : has g r ≡ true → RestM (also m g) r → (rest_first r g ≡ true) × (rest_must r g ≡ true)
    rest_own i (x, y) =
        (or_last (any_m (rest_first r) m) _ x (λ j. a r (any_has (rest_first r) r (rest_first_has r) m j) i), or_last (any_m (rest_must r) m) _ y (λ j. a r (any_has (rest_must r) r (rest_must_has r) m j) i))

  pub rest_has : (m : Members) (r : ℕ) → RestM m r → has_m m r ≡ true
  rest_has m r (x, y) = any_has (rest_first r) r (rest_first_has r) m x

  -- The place at hand is in a member that has begun.
  now_met : (m : Members) → GoodM m → (u r : ℕ) → has_m m u ≡ true → S u ≡ true → now_fit m u S r ≡ true → any_m (rest_must r) m ≡ true → ⊥
  now_met (one g) d u r i t x y = not_both (tests.not-true (meets g S) (and_left (not (meets g S)) _ y)) (common_meets g S u i t)
  now_met (also m g) (d, k, a) u r i t x y =
      bool_cases
      (has g u)
      (λ j.
      let v : has g r ≡ true = fit_has g u S r (sym (cond_yes (fit g u S r) (now_fit m u S r) j) ∙ x) in
      or_cases (any_m (rest_must r) m) _ (λ l. a r (any_has (rest_must r) r (rest_must_has r) m l) v) (λ l. not_both (tests.not-true (meets g S) (and_left (not (meets g S)) _ l)) (common_meets g S u j t)) y)
      (λ j.
      let n : now_fit m u S r ≡ true = sym (cond_no (fit g u S r) (now_fit m u S r) j) ∙ x in
      or_cases (any_m (rest_must r) m) _ (λ l. now_met m d u r (or_only (has_m m u) (has g u) j i) t n l) (λ l. a r (now_fit_has m u S r n) (rest_must_has r g l)) y)

  abbrev pub After : Group → ℕ → ℕ → Type 0
  After g u r = (fit g u S r ≡ true) × (passes_after g u S r ≡ true)

  abbrev pub AfterM : Members → ℕ → ℕ → Type 0
  AfterM m u r = (now_fit m u S r ≡ true) × (now_passes m u S r ≡ true)

  pub done_must : (g : Group) → Good g → (u r : ℕ) → has g u ≡ true → done g u S ≡ true → passes_after g u S r ≡ true → ⊥
  done_must g d u r i e f = false≢true (required_first_left g d u S r f [] (done_left g u S i e))

  module _ (g h : Group) (d : Apart (has g) (has h)) (u r : ℕ) where
    pub after_second : has h u ≡ true → After (seq g h) u r → After h u r
    after_second j (x, y) = (sym (cond_yes (fit h u S r) (fit g u S r || (done g u S && first h r)) j) ∙ x, sym (cond_yes (passes_after h u S r) (passes_after g u S r || passes h r) j) ∙ y)

    after_first : has h u ≡ false → After (seq g h) u r → (fit g u S r || (done g u S && first h r) ≡ true) × (passes_after g u S r || passes h r ≡ true)
    after_first j (x, y) = (sym (cond_no (fit h u S r) (fit g u S r || (done g u S && first h r)) j) ∙ x, sym (cond_no (passes_after h u S r) (passes_after g u S r || passes h r) j) ∙ y)

    pub after_g : has h u ≡ false → has g r ≡ true → After (seq g h) u r → After g u r
    after_g j i z =
        let (x, y) = after_first j z in
        (or_first (fit g u S r) _ x (λ l. d r i (first_has h r (and_right (done g u S) _ l))), or_first (passes_after g u S r) _ y (λ l. d r i (required_first_has h r l)))

    pub after_h : has h u ≡ false → has h r ≡ true → After (seq g h) u r → Start h r × (done g u S ≡ true)
    after_h j i z =
        let (x, y) = after_first j z in
        let l = or_last (fit g u S r) _ x (λ o. d r (fit_has g u S r o) i) in
        ((and_right (done g u S) _ l, or_last (passes_after g u S r) _ y (λ o. d r (required_after_has g u S r o) i)), and_left (done g u S) _ l)

    pub alt_after_h : has h u ≡ true → After (alt g h) u r → After h u r
    alt_after_h j (x, y) = (sym (cond_yes (fit h u S r) (fit g u S r) j) ∙ x, sym (cond_yes (passes_after h u S r) (passes_after g u S r) j) ∙ y)

    pub alt_after_g : has h u ≡ false → After (alt g h) u r → After g u r
    alt_after_g j (x, y) = (sym (cond_no (fit h u S r) (fit g u S r) j) ∙ x, sym (cond_no (passes_after h u S r) (passes_after g u S r) j) ∙ y)

  module _ (m : Members) (d : GoodM m) (u r : ℕ) (i : has_m m u ≡ true) (t : S u ≡ true) where
    -- Where the member at hand is done, the place is in another.
    pub and_rest : now_done m u S ≡ true → After (and m) u r → RestM m r
    and_rest n (x, y) =
        let k : any_m (rest_must r) m ≡ true = or_last (now_passes m u S r) _ y (λ l. false≢true (required_first_now m d u S r l [] (done_now m u S i n))) in
        (and_right (now_done m u S) _ (or_last (now_fit m u S r) _ x (λ l. now_met m d u r i t l k)), k)

    -- Where it is not done, the place is in it.
    pub and_now : now_done m u S ≡ false → After (and m) u r → AfterM m u r
    and_now n (x, y) =
        let k : now_fit m u S r ≡ true = or_first (now_fit m u S r) _ x (λ l. not_both n (and_left (now_done m u S) _ l)) in
        (k, or_first (now_passes m u S r) _ y (λ l. now_met m d u r i t k l))

  module _ (m : Members) (g : Group) (u r : ℕ) where
    pub now_own : has g u ≡ true → AfterM (also m g) u r → After g u r
    now_own j (x, y) = (sym (cond_yes (fit g u S r) (now_fit m u S r) j) ∙ x, sym (cond_yes (passes_after g u S r) (now_passes m u S r) j) ∙ y)

    pub now_others : has g u ≡ false → AfterM (also m g) u r → AfterM m u r
    now_others j (x, y) = (sym (cond_no (fit g u S r) (now_fit m u S r) j) ∙ x, sym (cond_no (passes_after g u S r) (now_passes m u S r) j) ∙ y)
