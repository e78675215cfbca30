-- Next, complete and "every walk passes p" as folds over the group, from the last place and the set; exact over `Left`, and so over walks.
use Rattle.std.specs.Prelude.{ℕ, ◌≡◌, refl, Bool, true, false, ◌&&◌, ◌||◌, not, cond, ◌⊎◌, ◌↔◌, eqb}
use Rattle.std.proofs.Common.{sym, ◌∙◌, ap, subst, inl, inr}
use Rattle.std.proofs.lemmas.Bool.{false≢true}
use mathlib.Core.List.{List, [], ◌∷◌, ◌++◌, append_assoc, append-nil, cons≢nil, head-eq_of_cons-eq}
use Rattle.basic_laws.specs.Truth.{or_left, or_right, or_cases, and_left, and_right, and_both, not_both, bool_cases, cond_yes, cond_no, or_none}
use Rattle.model_sets.specs.Sets.{has, has_m, nullable, first}
use Rattle.rules.specs.Walk.{Group, place, seq, alt, opt, plus, and, Members, one, also, Runs, once, more, joined, Walk, Begins, MayComeNext, Complete}
use Rattle.and_laws.specs.Base.{mem, mem_left, mem_right, mem_cases, Ends, joined_append, apart_no}
use Rattle.and_laws.specs.Sets.{held, meets, Good, GoodM, ends_has}
use Rattle.and_laws.specs.Blocks.{block, Arr, joined_block, walk_arr}
use Rattle.and_laws.specs.Later.{Remains, nil_parts}
use Rattle.and_laws.specs.Left.{Left, Now, Agrees, walk_left}
use Rattle.and_laws.specs.Back.{left_walk}
use Rattle.and_laws.specs.Fold.{one_walk, add_back, some_walk, null_walk, first_begins}
use Rattle.and_laws.specs.Exact.{walk_null, walk_first}
use Rattle.and_laws.specs.Rest.{all_m, any_m, arr_some, arr_empty, empty_arr, arr_starts, starts_arr, arr_passes, arr_avoids}

-- Every walk passes p.
abbrev mutual
  pub passes : Group → ℕ → Bool
  passes (place n) p = eqb n p
  passes (seq g h) p = passes g p || passes h p
  passes (alt g h) p = passes g p && passes h p
  passes (opt g) p = false
  passes (plus g) p = passes g p
  passes (and m) p = passes_m m p

  pub passes_m : Members → ℕ → Bool
  passes_m (one g) p = passes g p
  passes_m (also m g) p = passes_m m p || passes g p

runs_must : (g : Group) (p : ℕ) → ((w : List ℕ) → Walk g w → mem w p ≡ true) → {w : List ℕ} → Runs (Walk g) w → mem w p ≡ true
runs_must g p f (once {w} x) = f w x
runs_must g p f (more s t e x r) = subst (λ (l : List ℕ). mem l p ≡ true) (sym e) (mem_left s t p (f s x))

mutual
  pub required_first_walk : (g : Group) (p : ℕ) → passes g p ≡ true → (w : List ℕ) → Walk g w → mem w p ≡ true
  required_first_walk (place n) p e w x = subst (λ (l : List ℕ). mem l p ≡ true) (sym x) (or_left _ e)
  required_first_walk (seq g h) p e w (s, t, c, x, y) =
      subst (λ (l : List ℕ). mem l p ≡ true) (sym c) (or_cases (passes g p) _ (λ i. mem_left s t p (required_first_walk g p i s x)) (λ i. mem_right s t p (required_first_walk h p i t y)) e)
  required_first_walk (alt g h) p e w (inl x) = required_first_walk g p (and_left (passes g p) _ e) w x
  required_first_walk (alt g h) p e w (inr x) = required_first_walk h p (and_right (passes g p) _ e) w x
  required_first_walk (opt g) p e w x = absurd (false≢true e)
  required_first_walk (plus g) p e w x = runs_must g p (λ w x. required_first_walk g p e w x) x
  required_first_walk (and m) p e w x = let (bs, q, o) = walk_arr m w x in subst (λ (l : List ℕ). mem l p ≡ true) (sym q) (required_first_arr m p e bs o)

  required_first_arr : (m : Members) (p : ℕ) → passes_m m p ≡ true → (bs : List (List ℕ)) → Arr Walk m bs → mem (joined bs) p ≡ true
  required_first_arr (one g) p e bs (w, q, x) =
      subst (λ (l : List ℕ). mem l p ≡ true) (sym (ap joined (q ∙ sym (append-nil (block w))) ∙ joined_block w [] ∙ append-nil w)) (required_first_walk g p e w x)
  required_first_arr (also m g) p e bs (a, b, w, q, o, x) =
      subst
      (λ (l : List ℕ). mem l p ≡ true)
      (sym (ap joined q ∙ joined_append a (block w ++ b) ∙ ap (◌++◌ (joined a)) (joined_block w b)))
      (or_cases
      (passes_m m p)
      _
      (λ i. mem_cases (joined a) (joined b) p (mem_left (joined a) (w ++ joined b) p) (λ j. mem_right (joined a) (w ++ joined b) p (mem_right w (joined b) p j)) (rw joined_append at (required_first_arr m p i (a ++ b) o)))
      (λ i. mem_right (joined a) (w ++ joined b) p (mem_left w (joined b) p (required_first_walk g p i w x)))
      e)

abbrev pub Avoids : Group → ℕ → Type 0
Avoids g p = (w : List ℕ) × Walk g w × (mem w p ≡ true → ⊥)

alt_avoids : (g h : Group) (p : ℕ) (a b : Bool) → a && b ≡ false → (a ≡ false → Avoids g p) → (b ≡ false → Avoids h p) → Avoids (alt g h) p
alt_avoids g h p true b e f k = let (w, x, n) = k e in (w, inr x, n)
alt_avoids g h p false b e f k = let (w, x, n) = f refl in (w, inl x, n)

mutual
  pub avoids : (g : Group) (p : ℕ) → passes g p ≡ false → Avoids g p
  avoids (place n) p e = (n ∷ [], refl, λ i. or_cases (eqb n p) false (not_both e) (λ j. false≢true j) i)
  avoids (seq g h) p e =
      let (s, x, i) = avoids g p (or_none (passes g p) (passes h p) e).0 in
      let (t, y, j) = avoids h p (or_none (passes g p) (passes h p) e).1 in
      (s ++ t, (s, t, refl, x, y), mem_cases s t p i j)
  avoids (alt g h) p e = alt_avoids g h p (passes g p) (passes h p) e (λ i. avoids g p i) (λ i. avoids h p i)
  avoids (opt g) p e = ([], inl refl, λ i. false≢true i)
  avoids (plus g) p e = let (s, x, i) = avoids g p e in (s, once x, i)
  avoids (and m) p e = avoids_m m p e

  avoids_m : (m : Members) (p : ℕ) → passes_m m p ≡ false → Avoids (and m) p
  avoids_m (one g) p e = let (s, x, i) = avoids g p e in (s, one_walk g s x, i)
  avoids_m (also m g) p e =
      let (s, x, i) = avoids_m m p (or_none (passes_m m p) (passes g p) e).0 in
      let (t, y, j) = avoids g p (or_none (passes_m m p) (passes g p) e).1 in
      (s ++ t, add_back m g s t x y, mem_cases s t p i j)

-- After the last place u, with S taken.

abbrev mutual
  -- Content is complete.
  pub done : Group → ℕ → (ℕ → Bool) → Bool
  done (place n) u S = true
  done (seq g h) u S = cond (has h u) (done h u S) (done g u S && nullable h)
  done (alt g h) u S = cond (has h u) (done h u S) (done g u S)
  done (opt g) u S = done g u S
  done (plus g) u S = done g u S
  done (and m) u S = now_done m u S && all_m (λ (g : Group). meets g S || nullable g) m

  pub now_done : Members → ℕ → (ℕ → Bool) → Bool
  now_done (one g) u S = done g u S
  now_done (also m g) u S = cond (has g u) (done g u S) (now_done m u S)

abbrev mutual
  -- The place p may come next.
  pub fit : Group → ℕ → (ℕ → Bool) → ℕ → Bool
  fit (place n) u S p = false
  fit (seq g h) u S p = cond (has h u) (fit h u S p) (fit g u S p || (done g u S && first h p))
  fit (alt g h) u S p = cond (has h u) (fit h u S p) (fit g u S p)
  fit (opt g) u S p = fit g u S p
  fit (plus g) u S p = fit g u S p || (done g u S && first g p)
  fit (and m) u S p = now_fit m u S p || (now_done m u S && any_m (λ (g : Group). not (meets g S) && first g p) m)

  pub now_fit : Members → ℕ → (ℕ → Bool) → ℕ → Bool
  now_fit (one g) u S p = fit g u S p
  now_fit (also m g) u S p = cond (has g u) (fit g u S p) (now_fit m u S p)

abbrev mutual
  -- Whatever remains passes p.
  pub passes_after : Group → ℕ → (ℕ → Bool) → ℕ → Bool
  passes_after (place n) u S p = false
  passes_after (seq g h) u S p = cond (has h u) (passes_after h u S p) (passes_after g u S p || passes h p)
  passes_after (alt g h) u S p = cond (has h u) (passes_after h u S p) (passes_after g u S p)
  passes_after (opt g) u S p = passes_after g u S p
  passes_after (plus g) u S p = passes_after g u S p
  passes_after (and m) u S p = now_passes m u S p || any_m (λ (g : Group). not (meets g S) && passes g p) m

  pub now_passes : Members → ℕ → (ℕ → Bool) → ℕ → Bool
  now_passes (one g) u S p = passes_after g u S p
  now_passes (also m g) u S p = cond (has g u) (passes_after g u S p) (now_passes m u S p)

pub or_only : (a b : Bool) → b ≡ false → a || b ≡ true → a ≡ true
or_only a b n e = or_cases a b (λ i. i) (λ j. absurd (not_both n j)) e

-- These laws are of the members that do not hold u.
module _ (S : ℕ → Bool) where
  pub remains_some : (g : Group) → (w : List ℕ) × Remains S g w
  remains_some g = bool_cases (meets g S) (λ e. ([], inl (e, refl))) (λ e. let (w, x) = some_walk g in (w, inr (e, x)))

  rem_null : (g : Group) → Remains S g [] → meets g S || nullable g ≡ true
  rem_null g (inl (e, n)) = or_left _ e
  rem_null g (inr (e, x)) = or_right (meets g S) (walk_null g x)

  null_rem : (g : Group) → meets g S || nullable g ≡ true → Remains S g []
  null_rem g e = bool_cases (meets g S) (λ i. inl (i, refl)) (λ i. inr (i, null_walk g (or_cases (meets g S) _ (λ j. absurd (not_both i j)) (λ j. j) e)))

  not_yes : (a b : Bool) → not a && b ≡ true → (a ≡ false) × (b ≡ true)
  not_yes true b e = absurd (false≢true e)
  not_yes false b e = (refl, e)

  yes_not : (a b : Bool) → a ≡ false → b ≡ true → not a && b ≡ true
  yes_not a b e f = rw (e, f)

  no_not : (a b : Bool) → not a && b ≡ false → (a ≡ true) ⊎ ((a ≡ false) × (b ≡ false))
  no_not true b e = inl refl
  no_not false b e = inr (refl, e)

  module _ (p : ℕ) where
    rem_first : (g : Group) (z : List ℕ) → Remains S g (p ∷ z) → not (meets g S) && first g p ≡ true
    rem_first g z (inl (e, n)) = absurd (cons≢nil n)
    rem_first g z (inr (e, x)) = yes_not (meets g S) (first g p) e (walk_first g p z x)

    first_rem : (g : Group) → not (meets g S) && first g p ≡ true → (z : List ℕ) × Remains S g (p ∷ z)
    first_rem g e =
        let (i, j) = not_yes (meets g S) (first g p) e in
        let (t, w) = first_begins g p j in
        (t, inr (i, w))

    rem_must : (g : Group) (w : List ℕ) → not (meets g S) && passes g p ≡ true → Remains S g w → mem w p ≡ true
    rem_must g w e (inl (i, n)) = absurd (not_both (not_yes (meets g S) (passes g p) e).0 i)
    rem_must g w e (inr (i, x)) = required_first_walk g p (not_yes (meets g S) (passes g p) e).1 w x

    required_first_rem : (g : Group) → not (meets g S) && passes g p ≡ false → (w : List ℕ) × Remains S g w × (mem w p ≡ true → ⊥)
    required_first_rem g e = go (no_not (meets g S) (passes g p) e)
      where
        go : (meets g S ≡ true) ⊎ ((meets g S ≡ false) × (passes g p ≡ false)) → (w : List ℕ) × Remains S g w × (mem w p ≡ true → ⊥)
        go (inl i) = ([], inl (i, refl), λ j. false≢true j)
        go (inr (i, j)) = let (w, x, n) = avoids g p j in (w, inr (i, x), n)

-- The test of completeness says what the walks say.

mutual
  pub left_done : (g : Group) → Good g → (u : ℕ) (S : ℕ → Bool) → Left g u S [] → done g u S ≡ true
  left_done (place n) d u S l = refl
  left_done (seq g h) (d, k, a) u S (inl (i, l)) = cond_yes (done h u S) (done g u S && nullable h) i ∙ left_done h k u S l
  left_done (seq g h) (d, k, a) u S (inr (i, x, y, e, l, w)) =
      let n = nil_parts x y e in
      cond_no (done h u S) (done g u S && nullable h) (apart_no a i) ∙ and_both (left_done g d u S (subst (Left g u S) n.0 l)) (walk_null h (subst (Walk h) n.1 w))
  left_done (alt g h) (d, k, a) u S (inl (i, l)) = cond_no (done h u S) (done g u S) (apart_no a i) ∙ left_done g d u S l
  left_done (alt g h) (d, k, a) u S (inr (i, l)) = cond_yes (done h u S) (done g u S) i ∙ left_done h k u S l
  left_done (opt g) d u S l = left_done g d u S l
  left_done (plus g) (d, n) u S (x, y, e, l, r) = left_done g d u S (subst (Left g u S) (nil_parts x y e).0 l)
  left_done (and m) d u S (x, bs, e, n, o) =
      let i = nil_parts x (joined bs) e in
      and_both (now_done_lem m d u S (subst (Now m u S) i.0 n)) (arr_empty (Remains S) (λ (g : Group). meets g S || nullable g) (rem_null S) m bs (sym i.1) o)

  now_done_lem : (m : Members) → GoodM m → (u : ℕ) (S : ℕ → Bool) → Now m u S [] → now_done m u S ≡ true
  now_done_lem (one g) d u S n = left_done g d u S n
  now_done_lem (also m g) (d, k, a) u S (inl (i, l)) = cond_yes (done g u S) (now_done m u S) i ∙ left_done g k u S l
  now_done_lem (also m g) (d, k, a) u S (inr (i, l)) = cond_no (done g u S) (now_done m u S) (apart_no a i) ∙ now_done_lem m d u S l

mutual
  pub done_left : (g : Group) (u : ℕ) (S : ℕ → Bool) → has g u ≡ true → done g u S ≡ true → Left g u S []
  done_left (place n) u S i e = refl
  done_left (seq g h) u S i e =
      bool_cases
      (has h u)
      (λ j. inl (j, done_left h u S j (sym (cond_yes (done h u S) (done g u S && nullable h) j) ∙ e)))
      (λ j.
      let c : done g u S && nullable h ≡ true = sym (cond_no (done h u S) (done g u S && nullable h) j) ∙ e in
      let k : has g u ≡ true = or_only (has g u) (has h u) j i in
      inr (k, [], [], refl, done_left g u S k (and_left (done g u S) _ c), null_walk h (and_right (done g u S) _ c)))
  done_left (alt g h) u S i e =
      bool_cases
      (has h u)
      (λ j. inr (j, done_left h u S j (sym (cond_yes (done h u S) (done g u S) j) ∙ e)))
      (λ j. let k : has g u ≡ true = or_only (has g u) (has h u) j i in inl (k, done_left g u S k (sym (cond_no (done h u S) (done g u S) j) ∙ e)))
  done_left (opt g) u S i e = done_left g u S i e
  done_left (plus g) u S i e = ([], [], refl, done_left g u S i e, inl refl)
  done_left (and m) u S i e =
      ([], [], refl, done_now m u S i (and_left (now_done m u S) _ e), empty_arr (Remains S) (λ (g : Group). meets g S || nullable g) (null_rem S) m (and_right (now_done m u S) _ e))

  pub done_now : (m : Members) (u : ℕ) (S : ℕ → Bool) → has_m m u ≡ true → now_done m u S ≡ true → Now m u S []
  done_now (one g) u S i e = done_left g u S i e
  done_now (also m g) u S i e =
      bool_cases
      (has g u)
      (λ j. inl (j, done_left g u S j (sym (cond_yes (done g u S) (now_done m u S) j) ∙ e)))
      (λ j. let k : has_m m u ≡ true = or_only (has_m m u) (has g u) j i in inr (k, done_now m u S k (sym (cond_no (done g u S) (now_done m u S) j) ∙ e)))

-- The test of what may come next says what the walks say.

head_of : {C : Type 0} (p : ℕ) (t a b : List ℕ) → p ∷ t ≡ a ++ b → (a ≡ [] → b ≡ p ∷ t → C) → ((c : List ℕ) → a ≡ p ∷ c → C) → C
head_of p t [] b e f k = f refl (sym e)
head_of p t (q ∷ a) b e f k = k a (rw (head-eq_of_cons-eq e))

mutual
  pub left_fit : (g : Group) → Good g → (u : ℕ) (S : ℕ → Bool) (p : ℕ) (t : List ℕ) → Left g u S (p ∷ t) → fit g u S p ≡ true
  left_fit (place n) d u S p t l = absurd (cons≢nil l)
  left_fit (seq g h) (d, k, a) u S p t (inl (i, l)) = cond_yes (fit h u S p) (fit g u S p || (done g u S && first h p)) i ∙ left_fit h k u S p t l
  left_fit (seq g h) (d, k, a) u S p t (inr (i, x, y, e, l, w)) =
      cond_no (fit h u S p) (fit g u S p || (done g u S && first h p)) (apart_no a i) ∙ head_of p t x y e (λ n b. or_right (fit g u S p) (and_both (left_done g d u S (subst (Left g u S) n l)) (walk_first h p t (subst (Walk h) b w)))) (λ c n. or_left _ (left_fit g d u S p c (subst (Left g u S) n l)))
  left_fit (alt g h) (d, k, a) u S p t (inl (i, l)) = cond_no (fit h u S p) (fit g u S p) (apart_no a i) ∙ left_fit g d u S p t l
  left_fit (alt g h) (d, k, a) u S p t (inr (i, l)) = cond_yes (fit h u S p) (fit g u S p) i ∙ left_fit h k u S p t l
  left_fit (opt g) d u S p t l = left_fit g d u S p t l
  left_fit (plus g) (d, m) u S p t (x, y, e, l, inl z) = head_of p t x y e (λ n b. absurd (cons≢nil (sym b ∙ z))) (λ c n. or_left _ (left_fit g d u S p c (subst (Left g u S) n l)))
  left_fit (plus g) (d, m) u S p t (x, y, e, l, inr r) =
      head_of p t x y e (λ n b. or_right (fit g u S p) (and_both (left_done g d u S (subst (Left g u S) n l)) (walk_first (plus g) p t (subst (Runs (Walk g)) b r)))) (λ c n. or_left _ (left_fit g d u S p c (subst (Left g u S) n l)))
  left_fit (and m) d u S p t (x, bs, e, w, o) =
      head_of p t x (joined bs) e (λ n b. or_right (now_fit m u S p) (and_both (now_done_lem m d u S (subst (Now m u S) n w)) (arr_starts (Remains S) (λ (g : Group). not (meets g S) && first g p) p (rem_first S p) m bs t (sym b) o))) (λ c n. or_left _ (now_fit_lem m d u S p c (subst (Now m u S) n w)))

  now_fit_lem : (m : Members) → GoodM m → (u : ℕ) (S : ℕ → Bool) (p : ℕ) (t : List ℕ) → Now m u S (p ∷ t) → now_fit m u S p ≡ true
  now_fit_lem (one g) d u S p t n = left_fit g d u S p t n
  now_fit_lem (also m g) (d, k, a) u S p t (inl (i, l)) = cond_yes (fit g u S p) (now_fit m u S p) i ∙ left_fit g k u S p t l
  now_fit_lem (also m g) (d, k, a) u S p t (inr (i, l)) = cond_no (fit g u S p) (now_fit m u S p) (apart_no a i) ∙ now_fit_lem m d u S p t l

abbrev Goes : Group → ℕ → (ℕ → Bool) → ℕ → Type 0
Goes g u S p = (t : List ℕ) × Left g u S (p ∷ t)

abbrev GoesM : Members → ℕ → (ℕ → Bool) → ℕ → Type 0
GoesM m u S p = (t : List ℕ) × Now m u S (p ∷ t)

mutual
  pub fit_left : (g : Group) (u : ℕ) (S : ℕ → Bool) (p : ℕ) → has g u ≡ true → fit g u S p ≡ true → Goes g u S p
  fit_left (place n) u S p i e = absurd (false≢true e)
  fit_left (seq g h) u S p i e =
      bool_cases
      (has h u)
      (λ j. let (t, l) = fit_left h u S p j (sym (cond_yes (fit h u S p) (fit g u S p || (done g u S && first h p)) j) ∙ e) in (t, inl (j, l)))
      (λ j.
      let k : has g u ≡ true = or_only (has g u) (has h u) j i in
      or_cases
      (fit g u S p)
      _
      (λ c.
      let (t, l) = fit_left g u S p k c in
      let (w, x) = some_walk h in
      (t ++ w, inr (k, p ∷ t, w, refl, l, x)))
      (λ c. let (t, x) = first_begins h p (and_right (done g u S) _ c) in (t, inr (k, [], p ∷ t, refl, done_left g u S k (and_left (done g u S) _ c), x)))
      (sym (cond_no (fit h u S p) (fit g u S p || (done g u S && first h p)) j) ∙ e))
  fit_left (alt g h) u S p i e =
      bool_cases
      (has h u)
      (λ j. let (t, l) = fit_left h u S p j (sym (cond_yes (fit h u S p) (fit g u S p) j) ∙ e) in (t, inr (j, l)))
      (λ j.
      let k : has g u ≡ true = or_only (has g u) (has h u) j i in
      let (t, l) = fit_left g u S p k (sym (cond_no (fit h u S p) (fit g u S p) j) ∙ e) in
      (t, inl (k, l)))
  fit_left (opt g) u S p i e = fit_left g u S p i e
  fit_left (plus g) u S p i e =
      or_cases
      (fit g u S p)
      _
      (λ c. let (t, l) = fit_left g u S p i c in (t, (p ∷ t, [], sym (append-nil (p ∷ t)), l, inl refl)))
      (λ c. let (t, x) = first_begins g p (and_right (done g u S) _ c) in (t, ([], p ∷ t, refl, done_left g u S i (and_left (done g u S) _ c), inr (once x))))
      e
  fit_left (and m) u S p i e =
      or_cases
      (now_fit m u S p)
      _
      (λ c.
      let (t, n) = fit_now m u S p i c in
      let (bs, o) = arr_some (Remains S) (remains_some S) m in
      (t ++ joined bs, (p ∷ t, bs, refl, n, o)))
      (λ c.
      let (z, bs, o) = starts_arr (Remains S) (λ (g : Group). not (meets g S) && first g p) p (first_rem S p) (remains_some S) m (and_right (now_done m u S) _ c) in
      (z ++ joined bs, ([], (p ∷ z) ∷ bs, refl, done_now m u S i (and_left (now_done m u S) _ c), o)))
      e

  pub fit_now : (m : Members) (u : ℕ) (S : ℕ → Bool) (p : ℕ) → has_m m u ≡ true → now_fit m u S p ≡ true → GoesM m u S p
  fit_now (one g) u S p i e = fit_left g u S p i e
  fit_now (also m g) u S p i e =
      bool_cases
      (has g u)
      (λ j. let (t, l) = fit_left g u S p j (sym (cond_yes (fit g u S p) (now_fit m u S p) j) ∙ e) in (t, inl (j, l)))
      (λ j.
      let k : has_m m u ≡ true = or_only (has_m m u) (has g u) j i in
      let (t, l) = fit_now m u S p k (sym (cond_no (fit g u S p) (now_fit m u S p) j) ∙ e) in
      (t, inr (k, l)))

-- The test of what every remainder passes says what the walks say.

mutual
  pub required_first_left : (g : Group) → Good g → (u : ℕ) (S : ℕ → Bool) (p : ℕ) → passes_after g u S p ≡ true → (t : List ℕ) → Left g u S t → mem t p ≡ true
  required_first_left (place n) d u S p e t l = absurd (false≢true e)
  required_first_left (seq g h) (d, k, a) u S p e t (inl (i, l)) = required_first_left h k u S p (sym (cond_yes (passes_after h u S p) (passes_after g u S p || passes h p) i) ∙ e) t l
  required_first_left (seq g h) (d, k, a) u S p e t (inr (i, x, y, q, l, w)) =
      subst
      (λ (z : List ℕ). mem z p ≡ true)
      (sym q)
      (or_cases
      (passes_after g u S p)
      _
      (λ j. mem_left x y p (required_first_left g d u S p j x l))
      (λ j. mem_right x y p (required_first_walk h p j y w))
      (sym (cond_no (passes_after h u S p) (passes_after g u S p || passes h p) (apart_no a i)) ∙ e))
  required_first_left (alt g h) (d, k, a) u S p e t (inl (i, l)) = required_first_left g d u S p (sym (cond_no (passes_after h u S p) (passes_after g u S p) (apart_no a i)) ∙ e) t l
  required_first_left (alt g h) (d, k, a) u S p e t (inr (i, l)) = required_first_left h k u S p (sym (cond_yes (passes_after h u S p) (passes_after g u S p) i) ∙ e) t l
  required_first_left (opt g) d u S p e t l = required_first_left g d u S p e t l
  required_first_left (plus g) (d, m) u S p e t (x, y, q, l, r) = subst (λ (z : List ℕ). mem z p ≡ true) (sym q) (mem_left x y p (required_first_left g d u S p e x l))
  required_first_left (and m) d u S p e t (x, bs, q, n, o) =
      subst
      (λ (z : List ℕ). mem z p ≡ true)
      (sym q)
      (or_cases
      (now_passes m u S p)
      _
      (λ j. mem_left x (joined bs) p (required_first_now m d u S p j x n))
      (λ j. mem_right x (joined bs) p (arr_passes (Remains S) (λ (g : Group). not (meets g S) && passes g p) p (rem_must S p) m bs j o))
      e)

  pub required_first_now : (m : Members) → GoodM m → (u : ℕ) (S : ℕ → Bool) (p : ℕ) → now_passes m u S p ≡ true → (t : List ℕ) → Now m u S t → mem t p ≡ true
  required_first_now (one g) d u S p e t n = required_first_left g d u S p e t n
  required_first_now (also m g) (d, k, a) u S p e t (inl (i, l)) = required_first_left g k u S p (sym (cond_yes (passes_after g u S p) (now_passes m u S p) i) ∙ e) t l
  required_first_now (also m g) (d, k, a) u S p e t (inr (i, l)) = required_first_now m d u S p (sym (cond_no (passes_after g u S p) (now_passes m u S p) (apart_no a i)) ∙ e) t l

abbrev Round : Group → ℕ → (ℕ → Bool) → ℕ → Type 0
Round g u S p = (t : List ℕ) × Left g u S t × (mem t p ≡ true → ⊥)

abbrev RoundM : Members → ℕ → (ℕ → Bool) → ℕ → Type 0
RoundM m u S p = (t : List ℕ) × Now m u S t × (mem t p ≡ true → ⊥)

mutual
  pub left_round : (g : Group) (u : ℕ) (S : ℕ → Bool) (p : ℕ) → has g u ≡ true → passes_after g u S p ≡ false → Round g u S p
  left_round (place n) u S p i e = ([], refl, λ j. false≢true j)
  left_round (seq g h) u S p i e =
      bool_cases
      (has h u)
      (λ j. let (t, l, n) = left_round h u S p j (sym (cond_yes (passes_after h u S p) (passes_after g u S p || passes h p) j) ∙ e) in (t, inl (j, l), n))
      (λ j.
      let k : has g u ≡ true = or_only (has g u) (has h u) j i in
      let c = or_none (passes_after g u S p) (passes h p) (sym (cond_no (passes_after h u S p) (passes_after g u S p || passes h p) j) ∙ e) in
      let (t, l, n) = left_round g u S p k c.0 in
      let (w, x, o) = avoids h p c.1 in
      (t ++ w, inr (k, t, w, refl, l, x), mem_cases t w p n o))
  left_round (alt g h) u S p i e =
      bool_cases
      (has h u)
      (λ j. let (t, l, n) = left_round h u S p j (sym (cond_yes (passes_after h u S p) (passes_after g u S p) j) ∙ e) in (t, inr (j, l), n))
      (λ j.
      let k : has g u ≡ true = or_only (has g u) (has h u) j i in
      let (t, l, n) = left_round g u S p k (sym (cond_no (passes_after h u S p) (passes_after g u S p) j) ∙ e) in
      (t, inl (k, l), n))
  left_round (opt g) u S p i e = left_round g u S p i e
  left_round (plus g) u S p i e = let (t, l, n) = left_round g u S p i e in (t, (t, [], sym (append-nil t), l, inl refl), n)
  left_round (and m) u S p i e =
      let c = or_none (now_passes m u S p) (any_m (λ (g : Group). not (meets g S) && passes g p) m) e in
      let (t, l, n) = now_round m u S p i c.0 in
      let (bs, o, k) = arr_avoids (Remains S) (λ (g : Group). not (meets g S) && passes g p) p (required_first_rem S p) m c.1 in
      (t ++ joined bs, (t, bs, refl, l, o), mem_cases t (joined bs) p n k)

  now_round : (m : Members) (u : ℕ) (S : ℕ → Bool) (p : ℕ) → has_m m u ≡ true → now_passes m u S p ≡ false → RoundM m u S p
  now_round (one g) u S p i e = left_round g u S p i e
  now_round (also m g) u S p i e =
      bool_cases
      (has g u)
      (λ j. let (t, l, n) = left_round g u S p j (sym (cond_yes (passes_after g u S p) (now_passes m u S p) j) ∙ e) in (t, inl (j, l), n))
      (λ j.
      let k : has_m m u ≡ true = or_only (has_m m u) (has g u) j i in
      let (t, l, n) = now_round m u S p k (sym (cond_no (passes_after g u S p) (now_passes m u S p) j) ∙ e) in
      (t, inr (k, l), n))

-- Over walks: of a beginning s with last place u, and any set S that has of the places in "&" groups those of s.
module _ (g : Group) (good : Good g) (u : ℕ) (S : ℕ → Bool) (s : List ℕ) (e : Ends s u) (agree : Agrees (held g) s S) (begun : Begins g s) where
  pub next_fold : (p : ℕ) → (fit g u S p ≡ true) ↔ MayComeNext g s p
  next_fold p = (there, back)
    where
      there : fit g u S p ≡ true → MayComeNext g s p
      there i =
          let (t, l) = fit_left g u S p (ends_has g s u e begun) i in
          (t, rw append_assoc (left_walk g good u S s begun.0 (p ∷ t) e agree begun.1 l))

      back : MayComeNext g s p → fit g u S p ≡ true
      back (t, w) = left_fit g good u S p t (walk_left g good u S s (p ∷ t) e agree (rw append_assoc at w))

  pub complete_fold : (done g u S ≡ true) ↔ Complete g s
  complete_fold = (there, back)
    where
      there : done g u S ≡ true → Complete g s
      there i = rw append-nil at (left_walk g good u S s begun.0 [] e agree begun.1 (done_left g u S (ends_has g s u e begun) i))

      back : Complete g s → done g u S ≡ true
      back w = left_done g good u S (walk_left g good u S s [] e agree (rw append-nil w))

  pub required_first_fold : (p : ℕ) → (passes_after g u S p ≡ true) ↔ ((t : List ℕ) → Walk g (s ++ t) → mem t p ≡ true)
  required_first_fold p = (λ i t w. required_first_left g good u S p i t (walk_left g good u S s t e agree w), back)
    where
      back : ((t : List ℕ) → Walk g (s ++ t) → mem t p ≡ true) → passes_after g u S p ≡ true
      back f =
          bool_cases
          (passes_after g u S p)
          (λ i. i)
          (λ i. let (t, l, n) = left_round g u S p (ends_has g s u e begun) i in absurd (n (f t (left_walk g good u S s begun.0 t e agree begun.1 l))))

-- At the start.
pub next_start : (g : Group) (p : ℕ) → (first g p ≡ true) ↔ MayComeNext g [] p
next_start g p = (first_begins g p, λ (t, w). walk_first g p t w)

pub complete_start : (g : Group) → (nullable g ≡ true) ↔ Complete g []
complete_start g = (null_walk g, walk_null g)

pub required_first_start : (g : Group) (p : ℕ) → (passes g p ≡ true) ↔ ((t : List ℕ) → Walk g t → mem t p ≡ true)
required_first_start g p = (required_first_walk g p, λ f. bool_cases (passes g p) (λ i. i) (λ i. let (t, w, n) = avoids g p i in absurd (n (f t w))))
