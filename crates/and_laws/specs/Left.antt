-- The residual: what may remain of a walk after a beginning, from its last place and the set of places taken in "&" groups; both directions.
use Rattle.std.specs.Prelude.{ℕ, ◌≡◌, refl, Bool, true, ◌⊎◌}
use Rattle.std.proofs.Common.{sym, ◌∙◌, ap, subst, inl, inr}
use mathlib.Core.List.{List, [], ◌∷◌, ◌++◌, append_assoc, append-nil, cons≢nil, tail-eq_of_cons-eq}
use Rattle.basic_laws.specs.Truth.{or_left, or_right}
use Rattle.model_sets.specs.Sets.{has, has_m}
use Rattle.rules.specs.Walk.{Group, place, seq, alt, opt, plus, and, Members, one, also, Runs, once, more, joined, Walk}
use Rattle.and_laws.specs.Base.{mem, mem_left, mem_right, mem_cases, In, Apart, Ends, ends_split, ends_mem, Cuts, cuts, joined_append, Inside, inside, nil≢middle}
use Rattle.and_laws.specs.Sets.{held, Plain, Good, GoodM, plain_held, held_has, walk_in}
use Rattle.and_laws.specs.Blocks.{block, Arr, joined_block, walk_arr, arr_in, At, before, here, after, at_block}
use Rattle.and_laws.specs.Later.{Remains, Met, met_join, met_all, Lies, arr_later, mem_middle}

-- What may remain of g once u is the last place taken and S the places taken.
abbrev mutual
  pub Left : Group → ℕ → (ℕ → Bool) → List ℕ → Type 0
  Left (place n) u S t = t ≡ []
  Left (seq g h) u S t = ((has h u ≡ true) × Left h u S t) ⊎ ((has g u ≡ true) × (a : List ℕ) × (b : List ℕ) × (t ≡ a ++ b) × Left g u S a × Walk h b)
  Left (alt g h) u S t = ((has g u ≡ true) × Left g u S t) ⊎ ((has h u ≡ true) × Left h u S t)
  Left (opt g) u S t = Left g u S t
  Left (plus g) u S t = (a : List ℕ) × (b : List ℕ) × (t ≡ a ++ b) × Left g u S a × ((b ≡ []) ⊎ Runs (Walk g) b)
  Left (and m) u S t = (a : List ℕ) × (bs : List (List ℕ)) × (t ≡ a ++ joined bs) × Now m u S a × Arr (Remains S) m bs

  -- This is what may remain of the member that holds u.
  pub Now : Members → ℕ → (ℕ → Bool) → List ℕ → Type 0
  Now (one g) u S a = Left g u S a
  Now (also m g) u S a = ((has g u ≡ true) × Left g u S a) ⊎ ((has_m m u ≡ true) × Now m u S a)

-- Of the places that pass the test, those in S are those of s.
abbrev pub Agrees : (ℕ → Bool) → List ℕ → (ℕ → Bool) → Type 0
Agrees f s S = (p : ℕ) → f p ≡ true → (S p ≡ true → mem s p ≡ true) × (mem s p ≡ true → S p ≡ true)

pub agrees_less : (f k : ℕ → Bool) (s : List ℕ) (S : ℕ → Bool) → ((p : ℕ) → k p ≡ true → f p ≡ true) → Agrees f s S → Agrees k s S
agrees_less f k s S i h p e = h p (i p e)

-- Places before those of the second member do not count for it.
pub agrees_second : (f k : ℕ → Bool) (a c : List ℕ) (S : ℕ → Bool) → In f a → Apart f k → Agrees k (a ++ c) S → Agrees k c S
agrees_second f k a c S i d h p e =
    (λ x. mem_cases a c p (λ y. absurd (d p (i p y) e)) (λ y. y) ((h p e).0 x), λ y. (h p e).1 (mem_right a c p y))

pub ends_in_lem : (f : ℕ → Bool) (s t : List ℕ) (u : ℕ) → Ends s u → In f (s ++ t) → f u ≡ true
ends_in_lem f s t u e i = i u (mem_left s t u (ends_mem s u e))

-- The place at hand in an "&" group.

pub in_at : (f : ℕ → Bool) (x : List (List ℕ)) (v z : List ℕ) (y : List (List ℕ)) (u : ℕ) → Ends v u → In f (joined (x ++ (v ++ z) ∷ y)) → f u ≡ true
in_at f x v z y u e i = i u (rw joined_append (mem_right (joined x) ((v ++ z) ++ joined y) u (mem_left (v ++ z) (joined y) u (mem_left v z u (ends_mem v u e)))))

pub arr_has : (m : Members) (x : List (List ℕ)) (v z : List ℕ) (y : List (List ℕ)) (u : ℕ) → Ends v u → Arr Walk m (x ++ (v ++ z) ∷ y) → has_m m u ≡ true
arr_has m x v z y u e o = in_at (has_m m) x v z y u e (arr_in m (x ++ (v ++ z) ∷ y) o)

module _ (S : ℕ → Bool) (m : Members) (g : Group) (apart : Apart (has_m m) (has g)) where
  -- The other members agree without this one's sequence.
  pub agrees_out : (a c : List (List ℕ)) (w v : List ℕ) → Walk g w → Agrees (has_m (also m g)) (joined (a ++ (block w ++ c)) ++ v) S → Agrees (has_m m) (joined (a ++ c) ++ v) S
  agrees_out a c w v x h p e =
      let k = h p (or_left _ e) in (
        λ i. mem_cases (joined (a ++ (block w ++ c))) v p (mem_middle a c w p (λ j. absurd (apart p e (walk_in g w x p j))) (mem_left (joined (a ++ c)) v p)) (mem_right (joined (a ++ c)) v p) (k.0 i),
        λ i. k.1 (mem_cases (joined (a ++ c)) v p (λ j. mem_left (joined (a ++ (block w ++ c))) v p (back p j)) (mem_right (joined (a ++ (block w ++ c))) v p) i),
      )
    where
      back : (p : ℕ) → mem (joined (a ++ c)) p ≡ true → mem (joined (a ++ (block w ++ c))) p ≡ true
      back p j =
          rw joined_append (mem_cases (joined a) (joined c) p (mem_left (joined a) (joined (block w ++ c)) p) (λ i. mem_right (joined a) (joined (block w ++ c)) p (rw joined_block (mem_right w (joined c) p i))) (rw joined_append at j))

  -- This member agrees with its own sequence.
  pub agrees_own : (x z : List (List ℕ)) (v : List ℕ) → Arr Walk m (x ++ z) → Agrees (has_m (also m g)) (joined x ++ v) S → Agrees (held g) v S
  agrees_own x z v o h =
      agrees_second (has_m m) (held g) (joined x) v S (λ p i. arr_in m (x ++ z) o p (rw joined_append (mem_left (joined x) (joined z) p i))) (λ p i j. apart p i (held_has g p j)) (agrees_less (has_m (also m g)) (held g) (joined x ++ v) S (λ p e. or_right (has_m m p) (held_has g p e)) h)

-- What a law about one group says: of a beginning s with last place u and the set S.
abbrev Rests : Group → Type 0
Rests g = (u : ℕ) (S : ℕ → Bool) (s t : List ℕ) → Ends s u → Agrees (held g) s S → Walk g (s ++ t) → Left g u S t

abbrev RestsM : Members → Type 0
RestsM m = (u : ℕ) (S : ℕ → Bool) (x : List (List ℕ)) (v z : List ℕ) (y : List (List ℕ)) → Ends v u → Agrees (has_m m) (joined x ++ v) S → Arr Walk m (x ++ (v ++ z) ∷ y) → Now m u S z

seq_rests : (g h : Group) → Apart (has g) (has h) → Rests g → Rests h → Rests (seq g h)
seq_rests g h d f k u S s t e i (a, b, q, x, y) = go (cuts s t a b q)
  where
    last : (c : List ℕ) → s ≡ a ++ c → b ≡ c ++ t → ((c ≡ []) × Ends a u) ⊎ Ends c u → Left (seq g h) u S t
    last c p r (inl (n, j)) =
        let z : s ≡ a = p ∙ rw (n, append-nil) in
        inr (walk_in g a x u (ends_mem a u j), [], t, refl, f u S a [] j (subst (λ (l : List ℕ). Agrees (held g) l S) z (agrees_less (held (seq g h)) (held g) s S (λ q l. or_left _ l) i)) (rw append-nil x), subst (Walk h) (r ∙ rw n) y)
    last c p r (inr j) =
        let y2 : Walk h (c ++ t) = subst (Walk h) r y in
        inl (ends_in_lem (has h) c t u j (walk_in h (c ++ t) y2), k u S c t j (agrees_second (has g) (held h) a c S (walk_in g a x) (λ q l n. d q l (held_has h q n)) (agrees_less (held (seq g h)) (held h) (a ++ c) S (λ q l. or_right (held g q) l) (subst (λ (l : List ℕ). Agrees (held (seq g h)) l S) p i))) y2)

    go : Cuts s t a b → Left (seq g h) u S t
    go (inl (c, p, r)) = last c p r (ends_split a c u (rw p at e))
    go (inr (c, p, r)) =
        let x2 : Walk g (s ++ c) = subst (Walk g) p x in
        inr (ends_in_lem (has g) s c u e (walk_in g (s ++ c) x2), c, b, r, f u S s c e (agrees_less (held (seq g h)) (held g) s S (λ q l. or_left _ l) i) x2, y)

-- Under "+" over a group without "&" only the last place counts.
plus_rests : (g : Group) → Plain g → Rests g → (u : ℕ) (S : ℕ → Bool) → {w : List ℕ} → Runs (Walk g) w → (s t : List ℕ) → Ends s u → w ≡ s ++ t → Left (plus g) u S t
plus_rests g n f u S (once x) s t e q = (t, [], sym (append-nil t), f u S s t e (λ p i. absurd (plain_held g n p i)) (subst (Walk g) q x), inl refl)
plus_rests g n f u S (more a b c x r) s t e q = go (λ s j l. plus_rests g n f u S r s t j l) (cuts s t a b (sym q ∙ c))
  where
    none : (s : List ℕ) → Agrees (held g) s S
    none s p i = absurd (plain_held g n p i)

    last : ((s : List ℕ) → Ends s u → b ≡ s ++ t → Left (plus g) u S t) → (c : List ℕ) → b ≡ c ++ t → ((c ≡ []) × Ends a u) ⊎ Ends c u → Left (plus g) u S t
    last k c y (inl (m, j)) = ([], t, refl, f u S a [] j (none a) (rw append-nil x), inr (subst (Runs (Walk g)) (y ∙ rw m) r))
    last k c y (inr j) = k c j y

    go : ((s : List ℕ) → Ends s u → b ≡ s ++ t → Left (plus g) u S t) → Cuts s t a b → Left (plus g) u S t
    go k (inl (c, p, y)) = last k c y (ends_split a c u (rw p at e))
    go k (inr (c, p, y)) = (c, b, y, f u S s c e (none s) (subst (Walk g) p x), inr r)

-- The sequences before the place at hand, and its own, are those that the places taken touch.
module _ (m : Members) (u : ℕ) (S : ℕ → Bool) (s : List ℕ) (e : Ends s u) (i : Agrees (has_m m) s S) (x : List (List ℕ)) (v z : List ℕ) (p : s ≡ joined x ++ v) where
  pub met_begun : (y : List (List ℕ)) → Ends v u → Arr Walk m (x ++ (v ++ z) ∷ y) → Met S (x ++ (v ++ z) ∷ [])
  met_begun y j o =
      met_join
      S
      x
      ((v ++ z) ∷ [])
      (met_all S x (λ q l. (i q (arr_in m (x ++ (v ++ z) ∷ y) o q (rw joined_append (mem_left (joined x) ((v ++ z) ++ joined y) q l)))).1 (rw p (mem_left (joined x) v q l))))
      (inr (u, mem_left v z u (ends_mem v u j), (i u (in_at (has_m m) x v z y u j (arr_in m (x ++ (v ++ z) ∷ y) o))).1 (ends_mem s u e)), refl)

  pub lies_begun : Lies m S (x ++ (v ++ z) ∷ [])
  lies_begun q l n =
      rw joined_append (mem_cases (joined x) v q (mem_left (joined x) ((v ++ z) ++ []) q) (λ k. mem_right (joined x) ((v ++ z) ++ []) q (mem_left (v ++ z) [] q (mem_left v z q k))) (rw p at ((i q l).0 n)))

and_rests : (m : Members) → GoodM m → RestsM m → Rests (and m)
and_rests m d f u S s t e i w = go (walk_arr m (s ++ t) w)
  where
    at : (bs : List (List ℕ)) → Arr Walk m bs → Inside s t bs u → Left (and m) u S t
    at bs o (x, v, z, y, b, p, r, j) =
        let o2 : Arr Walk m (x ++ (v ++ z) ∷ y) = subst (Arr Walk m) b o in
        (z, y, r, f u S x v z y j (subst (λ (l : List ℕ). Agrees (has_m m) l S) p i) o2, arr_later m S d (x ++ (v ++ z) ∷ []) y (rw append_assoc o2) (met_begun m u S s e i x v z p y j o2) (lies_begun m u S s e i x v z p))

    go : ((bs : List (List ℕ)) × (s ++ t ≡ joined bs) × Arr Walk m bs) → Left (and m) u S t
    go (bs, q, o) = at bs o (inside bs s t u e q)

more_rests : (m : Members) (g : Group) → Apart (has_m m) (has g) → RestsM m → Rests g → RestsM (also m g)
more_rests m g d f k u S x v z y e i (a, b, w, q, o, n) = go (at_block a b w x (v ++ z) y (sym q))
  where
    go : At a b w x (v ++ z) y → Now (also m g) u S z
    go (before c p r) =
        let o2 : Arr Walk m ((a ++ c) ++ (v ++ z) ∷ y) = subst (Arr Walk m) (ap (◌++◌ a) r ∙ sym (append_assoc a c ((v ++ z) ∷ y))) o in
        inr (arr_has m (a ++ c) v z y u e o2, f u S (a ++ c) v z y e (agrees_out S m g d a c w v n (subst (λ (l : List (List ℕ)). Agrees (has_m (also m g)) (joined l ++ v) S) p i)) o2)
    go (here p r l) =
        let n2 : Walk g (v ++ z) = subst (Walk g) p n in
        inl (ends_in_lem (has g) v z u e (walk_in g (v ++ z) n2), k u S v z e (agrees_own S m g d x y v (subst (Arr Walk m) (rw (r, l)) o) i) n2)
    go (after c p r) =
        let o2 : Arr Walk m (x ++ (v ++ z) ∷ (c ++ b)) = subst (Arr Walk m) (ap (λ (l : List (List ℕ)). l ++ b) r ∙ append_assoc x ((v ++ z) ∷ c) b) o in
        inr (arr_has m x v z (c ++ b) u e o2, f u S x v z (c ++ b) e (agrees_less (has_m (also m g)) (has_m m) (joined x ++ v) S (λ p l. or_left _ l) i) o2)

one_rests : (g : Group) → Rests g → RestsM (one g)
one_rests g k u S x v z y e i (w, q, n) = go (at_block [] [] w x (v ++ z) y (append-nil (block w) ∙ sym q))
  where
    go : At [] [] w x (v ++ z) y → Now (one g) u S z
    go (before c p r) = absurd (nil≢middle c (v ++ z) y r)
    go (here p r l) = k u S v z e (agrees_less (has g) (held g) v S (held_has g) (subst (λ (h : List (List ℕ)). Agrees (has g) (joined h ++ v) S) (sym r) i)) (subst (Walk g) p n)
    go (after c p r) = absurd (nil≢middle x (v ++ z) c r)

mutual
  pub walk_left : (g : Group) → Good g → Rests g
  walk_left (place n) d u S [] t e i w = absurd e
  walk_left (place n) d u S (p ∷ []) t e i w = tail-eq_of_cons-eq w
  walk_left (place n) d u S (p ∷ (q ∷ s)) t e i w = absurd (cons≢nil (tail-eq_of_cons-eq w))
  walk_left (seq g h) (d, k, a) u S s t e i w = seq_rests g h a (λ u S s t e i w. walk_left g d u S s t e i w) (λ u S s t e i w. walk_left h k u S s t e i w) u S s t e i w
  walk_left (alt g h) (d, k, a) u S s t e i (inl w) = inl (ends_in_lem (has g) s t u e (walk_in g (s ++ t) w), walk_left g d u S s t e (agrees_less (held (alt g h)) (held g) s S (λ p l. or_left _ l) i) w)
  walk_left (alt g h) (d, k, a) u S s t e i (inr w) = inr (ends_in_lem (has h) s t u e (walk_in h (s ++ t) w), walk_left h k u S s t e (agrees_less (held (alt g h)) (held h) s S (λ p l. or_right (held g p) l) i) w)
  walk_left (opt g) d u S [] t e i w = absurd e
  walk_left (opt g) d u S (p ∷ s) t e i (inl n) = absurd (cons≢nil n)
  walk_left (opt g) d u S (p ∷ s) t e i (inr w) = walk_left g d u S (p ∷ s) t e i w
  walk_left (plus g) (d, n) u S s t e i w = plus_rests g n (λ u S s t e i w. walk_left g d u S s t e i w) u S w s t e refl
  walk_left (and m) d u S s t e i w = and_rests m d (λ u S x v z y e i o. members_left m d u S x v z y e i o) u S s t e i w

  members_left : (m : Members) → GoodM m → RestsM m
  members_left (one g) d u S x v z y e i o = one_rests g (λ u S s t e i w. walk_left g d u S s t e i w) u S x v z y e i o
  members_left (also m g) (d, k, a) u S x v z y e i o = more_rests m g a (λ u S x v z y e i o. members_left m d u S x v z y e i o) (λ u S s t e i w. walk_left g k u S s t e i w) u S x v z y e i o
