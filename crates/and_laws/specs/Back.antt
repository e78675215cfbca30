-- The residual, the other way: what `Left` says may remain does complete a beginning; so two beginnings alike have the same continuations.
use Rattle.std.specs.Prelude.{ℕ, ◌≡◌, refl, Bool, true, ◌⊎◌}
use Rattle.std.proofs.Common.{sym, ◌∙◌, ap, subst, inl, inr}
use mathlib.Core.List.{List, [], ◌∷◌, ◌++◌, append_assoc, append-nil, cons≢nil, head-eq_of_cons-eq, tail-eq_of_cons-eq}
use Rattle.basic_laws.specs.Truth.{or_left, or_right}
use Rattle.model_sets.specs.Sets.{has, has_m}
use Rattle.rules.specs.Walk.{Group, place, seq, alt, opt, plus, and, Members, one, also, Runs, once, more, joined, Walk, Begins, MayComeNext}
use Rattle.and_laws.specs.Base.{mem, Apart, Ends, ends_split, Cuts, cuts, joined_append, Inside, inside, nil≢middle}
use Rattle.and_laws.specs.Sets.{held, Plain, Good, GoodM, plain_held, held_has, walk_in}
use Rattle.and_laws.specs.Blocks.{block, Arr, block_some, walk_arr, arr_walk, At, before, here, after, at_block}
use Rattle.and_laws.specs.Later.{later_arr}
use Rattle.and_laws.specs.Left.{Left, Now, Agrees, agrees_less, agrees_second, agrees_out, agrees_own, ends_in_lem, met_begun, lies_begun, walk_left, arr_has}

abbrev Joins : Group → Type 0
Joins g = (u : ℕ) (S : ℕ → Bool) (s z t : List ℕ) → Ends s u → Agrees (held g) s S → Walk g (s ++ z) → Left g u S t → Walk g (s ++ t)

abbrev JoinsM : Members → Type 0
JoinsM m = (u : ℕ) (S : ℕ → Bool) (x : List (List ℕ)) (v z a : List ℕ) (y : List (List ℕ)) → Ends v u → Agrees (has_m m) (joined x ++ v) S → Arr Walk m (x ++ (v ++ z) ∷ y) → Now m u S a → Arr Walk m (x ++ (v ++ a) ∷ y)

seq_joins : (g h : Group) → Apart (has g) (has h) → Joins g → Joins h → Joins (seq g h)
seq_joins g h d f k u S s z t e i (a, b, q, x, y) l = go (cuts s z a b q) l
  where
    first : (s c : List ℕ) → Ends s u → Agrees (held (seq g h)) s S → Walk g (s ++ c) → Left (seq g h) u S t → Walk (seq g h) (s ++ t)
    first s c e i w (inl (j, l)) = absurd (d u (ends_in_lem (has g) s c u e (walk_in g (s ++ c) w)) j)
    first s c e i w (inr (j, a, b, q, l, y)) =
        (s ++ a, b, ap (◌++◌ s) q ∙ sym (append_assoc s a b), f u S s c a e (agrees_less (held (seq g h)) (held g) s S (λ p n. or_left _ n) i) w l, y)

    second : (c : List ℕ) → s ≡ a ++ c → Walk h (c ++ z) → Ends c u → Left (seq g h) u S t → Walk (seq g h) (s ++ t)
    second c p w e2 (inl (j, l)) =
        (a, c ++ t, rw p (append_assoc a c t), x, k u S c z t e2 (agrees_second (has g) (held h) a c S (walk_in g a x) (λ q l n. d q l (held_has h q n)) (agrees_less (held (seq g h)) (held h) (a ++ c) S (λ q l. or_right (held g q) l) (subst (λ (l : List ℕ). Agrees (held (seq g h)) l S) p i))) w l)
    second c p w e2 (inr r) = absurd (d u r.0 (ends_in_lem (has h) c z u e2 (walk_in h (c ++ z) w)))

    last : (c : List ℕ) → s ≡ a ++ c → b ≡ c ++ z → ((c ≡ []) × Ends a u) ⊎ Ends c u → Left (seq g h) u S t → Walk (seq g h) (s ++ t)
    last c p r (inl (n, j)) l = first s [] e i (rw append-nil (subst (Walk g) (sym (p ∙ rw (n, append-nil))) x)) l
    last c p r (inr j) l = second c p (subst (Walk h) r y) j l

    go : Cuts s z a b → Left (seq g h) u S t → Walk (seq g h) (s ++ t)
    go (inl (c, p, r)) l = last c p r (ends_split a c u (rw p at e)) l
    go (inr (c, p, r)) l = first s c e i (subst (Walk g) p x) l

module _ (g : Group) (n : Plain g) (f : Joins g) (u : ℕ) (S : ℕ → Bool) (t : List ℕ) where
  plus_first : (s z : List ℕ) → Ends s u → Walk g (s ++ z) → Left (plus g) u S t → Runs (Walk g) (s ++ t)
  plus_first s z e w (a, b, q, l, inl r) =
      once (subst (λ (y : List ℕ). Walk g (s ++ y)) (sym (q ∙ rw (r, append-nil))) (f u S s z a e (λ p i. absurd (plain_held g n p i)) w l))
  plus_first s z e w (a, b, q, l, inr r) =
      more (s ++ a) b (ap (◌++◌ s) q ∙ sym (append_assoc s a b)) (f u S s z a e (λ p i. absurd (plain_held g n p i)) w l) r

  plus_joins : {w : List ℕ} → Runs (Walk g) w → (s z : List ℕ) → Ends s u → w ≡ s ++ z → Left (plus g) u S t → Runs (Walk g) (s ++ t)
  plus_joins (once x) s z e q l = plus_first s z e (subst (Walk g) q x) l
  plus_joins (more a b c x r) s z e q l = go (λ s j y. plus_joins r s z j y l) (cuts s z a b (sym q ∙ c))
    where
      last : ((s : List ℕ) → Ends s u → b ≡ s ++ z → Runs (Walk g) (s ++ t)) → (c : List ℕ) → s ≡ a ++ c → b ≡ c ++ z → ((c ≡ []) × Ends a u) ⊎ Ends c u → Runs (Walk g) (s ++ t)
      last k c p y (inl (m, j)) = plus_first s [] e (rw append-nil (subst (Walk g) (sym (p ∙ rw (m, append-nil))) x)) l
      last k c p y (inr j) = more a (c ++ t) (ap (λ (l : List ℕ). l ++ t) p ∙ append_assoc a c t) x (k c j y)

      go : ((s : List ℕ) → Ends s u → b ≡ s ++ z → Runs (Walk g) (s ++ t)) → Cuts s z a b → Runs (Walk g) (s ++ t)
      go k (inl (c, p, y)) = last k c p y (ends_split a c u (rw p at e))
      go k (inr (c, p, y)) = plus_first s c e (subst (Walk g) p x) l

and_joins : (m : Members) → GoodM m → JoinsM m → Joins (and m)
and_joins m d f u S s z t e i w (a, bs, q, n, l) = go (walk_arr m (s ++ z) w)
  where
    at : (cs : List (List ℕ)) → Arr Walk m cs → Inside s z cs u → Walk (and m) (s ++ t)
    at cs o (x, v, z2, y, b, p, r, j) =
        let o2 : Arr Walk m (x ++ (v ++ z2) ∷ y) = subst (Arr Walk m) b o in
        let o3 : Arr Walk m ((x ++ (v ++ z2) ∷ []) ++ bs) = later_arr m S d (x ++ (v ++ z2) ∷ []) y bs (rw append_assoc o2) (met_begun m u S s e i x v z2 p y j o2) (lies_begun m u S s e i x v z2 p) l in
        let o4 : Arr Walk m (x ++ (v ++ a) ∷ bs) = f u S x v z2 a bs j (subst (λ (l : List ℕ). Agrees (has_m m) l S) p i) (rw append_assoc at o3) n in
        subst (Walk (and m)) (joined_append x ((v ++ a) ∷ bs) ∙ ap (◌++◌ (joined x)) (append_assoc v a (joined bs)) ∙ sym (append_assoc (joined x) v (a ++ joined bs)) ∙ rw (p, q)) (arr_walk m (x ++ (v ++ a) ∷ bs) o4)

    go : ((cs : List (List ℕ)) × (s ++ z ≡ joined cs) × Arr Walk m cs) → Walk (and m) (s ++ t)
    go (cs, q, o) = at cs o (inside cs s z u e q)

more_joins : (m : Members) (g : Group) → Apart (has_m m) (has g) → JoinsM m → Joins g → JoinsM (also m g)
more_joins m g d f k u S x v z t y e i (a, b, w, q, o, n) l = go (at_block a b w x (v ++ z) y (sym q)) l
  where
    early : (c : List (List ℕ)) → x ≡ a ++ (block w ++ c) → Arr Walk m ((a ++ c) ++ (v ++ z) ∷ y) → Now (also m g) u S t → Arr Walk (also m g) (x ++ (v ++ t) ∷ y)
    early c p o (inl (j, l)) = absurd (d u (arr_has m (a ++ c) v z y u e o) j)
    early c p o (inr (j, l)) =
        (a, c ++ (v ++ t) ∷ y, w, rw p (append_assoc a (block w ++ c) ((v ++ t) ∷ y) ∙ ap (◌++◌ a) (append_assoc (block w) c ((v ++ t) ∷ y))), rw append_assoc at (f u S (a ++ c) v z t y e (agrees_out S m g d a c w v n (subst (λ (l : List (List ℕ)). Agrees (has_m (also m g)) (joined l ++ v) S) p i)) o l), n)

    late : (c : List (List ℕ)) → y ≡ c ++ (block w ++ b) → Arr Walk m (x ++ (v ++ z) ∷ (c ++ b)) → Now (also m g) u S t → Arr Walk (also m g) (x ++ (v ++ t) ∷ y)
    late c p o (inl (j, l)) = absurd (d u (arr_has m x v z (c ++ b) u e o) j)
    late c p o (inr (j, l)) =
        (x ++ (v ++ t) ∷ c, b, w, rw p (sym (append_assoc x ((v ++ t) ∷ c) (block w ++ b))), rw append_assoc (f u S x v z t (c ++ b) e (agrees_less (has_m (also m g)) (has_m m) (joined x ++ v) S (λ p l. or_left _ l) i) o l), n)

    own : Arr Walk m (x ++ y) → Walk g (v ++ z) → Now (also m g) u S t → Arr Walk (also m g) (x ++ (v ++ t) ∷ y)
    own o n (inl (j, l)) = (x, y, v ++ t, rw (block_some v t u e), o, k u S v z t e (agrees_own S m g d x y v o i) n l)
    own o n (inr (j, l)) = absurd (d u j (ends_in_lem (has g) v z u e (walk_in g (v ++ z) n)))

    go : At a b w x (v ++ z) y → Now (also m g) u S t → Arr Walk (also m g) (x ++ (v ++ t) ∷ y)
    go (before c p r) l = early c p (subst (Arr Walk m) (ap (◌++◌ a) r ∙ sym (append_assoc a c ((v ++ z) ∷ y))) o) l
    go (here p r j) l = own (subst (Arr Walk m) (rw (r, j)) o) (subst (Walk g) p n) l
    go (after c p r) l = late c p (subst (Arr Walk m) (ap (λ (l : List (List ℕ)). l ++ b) r ∙ append_assoc x ((v ++ z) ∷ c) b) o) l

one_joins : (g : Group) → Joins g → JoinsM (one g)
one_joins g k u S x v z t y e i (w, q, n) l = go (at_block [] [] w x (v ++ z) y (append-nil (block w) ∙ sym q))
  where
    go : At [] [] w x (v ++ z) y → Arr Walk (one g) (x ++ (v ++ t) ∷ y)
    go (before c p r) = absurd (nil≢middle c (v ++ z) y r)
    go (here p r j) =
        (v ++ t, rw (← r, ← j, block_some v t u e), k u S v z t e (agrees_less (has g) (held g) v S (held_has g) (subst (λ (h : List (List ℕ)). Agrees (has g) (joined h ++ v) S) (sym r) i)) (subst (Walk g) p n) l)
    go (after c p r) = absurd (nil≢middle x (v ++ z) c r)

mutual
  pub left_walk : (g : Group) → Good g → Joins g
  left_walk (place n) d u S [] z t e i w l = absurd e
  left_walk (place n) d u S (p ∷ []) z t e i w l = rw (l, head-eq_of_cons-eq w)
  left_walk (place n) d u S (p ∷ (q ∷ s)) z t e i w l = absurd (cons≢nil (tail-eq_of_cons-eq w))
  left_walk (seq g h) (d, k, a) u S s z t e i w l = seq_joins g h a (λ u S s z t e i w l. left_walk g d u S s z t e i w l) (λ u S s z t e i w l. left_walk h k u S s z t e i w l) u S s z t e i w l
  left_walk (alt g h) (d, k, a) u S s z t e i (inl w) (inl (j, l)) = inl (left_walk g d u S s z t e (agrees_less (held (alt g h)) (held g) s S (λ p l. or_left _ l) i) w l)
  left_walk (alt g h) (d, k, a) u S s z t e i (inl w) (inr (j, l)) = absurd (a u (ends_in_lem (has g) s z u e (walk_in g (s ++ z) w)) j)
  left_walk (alt g h) (d, k, a) u S s z t e i (inr w) (inl (j, l)) = absurd (a u j (ends_in_lem (has h) s z u e (walk_in h (s ++ z) w)))
  left_walk (alt g h) (d, k, a) u S s z t e i (inr w) (inr (j, l)) = inr (left_walk h k u S s z t e (agrees_less (held (alt g h)) (held h) s S (λ p l. or_right (held g p) l) i) w l)
  left_walk (opt g) d u S [] z t e i w l = absurd e
  left_walk (opt g) d u S (p ∷ s) z t e i (inl n) l = absurd (cons≢nil n)
  left_walk (opt g) d u S (p ∷ s) z t e i (inr w) l = inr (left_walk g d u S (p ∷ s) z t e i w l)
  left_walk (plus g) (d, n) u S s z t e i w l = plus_joins g n (λ u S s z t e i w l. left_walk g d u S s z t e i w l) u S t w s z e refl l
  left_walk (and m) d u S s z t e i w l = and_joins m d (λ u S x v z a y e i o l. members_walk m d u S x v z a y e i o l) u S s z t e i w l

  members_walk : (m : Members) → GoodM m → JoinsM m
  members_walk (one g) d u S x v z a y e i o l = one_joins g (λ u S s z t e i w l. left_walk g d u S s z t e i w l) u S x v z a y e i o l
  members_walk (also m g) (d, k, c) u S x v z a y e i o l = more_joins m g c (λ u S x v z a y e i o l. members_walk m d u S x v z a y e i o l) (λ u S s z t e i w l. left_walk g k u S s z t e i w l) u S x v z a y e i o l

-- What the reader needs: the same last place, and in "&" groups the same places taken.
pub record Alike (g : Group) (s t : List ℕ) : Type 0 where
  pub last : (u : ℕ) × Ends s u × Ends t u
  pub same : (p : ℕ) → held g p ≡ true → mem s p ≡ mem t p

-- Two beginnings that are alike have the same continuations.
pub alike : (g : Group) → Good g → (s t v : List ℕ) → Begins g t → Alike g s t → Walk g (s ++ v) → Walk g (t ++ v)
alike g d s t v (z, w) a x =
    let (u, i, j) = a.last in
    left_walk g d u (mem s) t z v j (λ p h. (λ k. sym (a.same p h) ∙ k, λ k. a.same p h ∙ k)) w (walk_left g d u (mem s) s v i (λ p h. (λ k. k, λ k. k)) x)

pub alike_next : (g : Group) → Good g → (s t : List ℕ) (p : ℕ) → Begins g t → Alike g s t → MayComeNext g s p → MayComeNext g t p
alike_next g d s t p b a (v, w) = (v, rw append_assoc (alike g d s t (p ∷ v) b a (rw append_assoc at w)))
