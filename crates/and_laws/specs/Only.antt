-- The places of a walk that belong to one part: of a walk through "&" they are a walk of that part. Views of what a last place does.
use Rattle.std.specs.Prelude.{ℕ, ◌≡◌, refl, Bool, true, false, cond, ◌⊎◌}
use Rattle.std.proofs.Common.{sym, ◌∙◌, ap, subst, inl, inr}
use Rattle.std.proofs.lemmas.Bool.{false≢true}
use mathlib.Core.List.{List, [], ◌∷◌, ◌++◌, append_assoc, append-nil, tail-eq_of_cons-eq}
use Rattle.basic_laws.specs.Truth.{not_true}
use Rattle.model_sets.specs.Sets.{has, has_m}
use Rattle.rules.specs.Walk.{Group, seq, plus, and, Members, also, Runs, once, more, joined, Walk, Begins}
use Rattle.and_laws.specs.Base.{mem, mem_left, mem_right, mem_head, In, Apart, in_append, Ends, ends_snoc, ends_split, ends_some, Cuts, cuts, joined_append, Inside, inside}
use Rattle.and_laws.specs.Sets.{walk_in}
use Rattle.and_laws.specs.Blocks.{block, Arr, joined_block, walk_arr, arr_walk, arr_in, At, before, here, after, at_block}
use Rattle.and_laws.specs.Later.{nil_parts}

abbrev pub only : (ℕ → Bool) → List ℕ → List ℕ
only f [] = []
only f (p ∷ w) = cond (f p) (p ∷ only f w) (only f w)

only_append : (f : ℕ → Bool) (a b : List ℕ) → only f (a ++ b) ≡ only f a ++ only f b
only_append f [] b = refl
only_append f (p ∷ a) b = go (f p) (only_append f a b)
  where
    go : (c : Bool) → only f (a ++ b) ≡ only f a ++ only f b → cond c (p ∷ only f (a ++ b)) (only f (a ++ b)) ≡ cond c (p ∷ only f a) (only f a) ++ only f b
    go true e = ap (◌∷◌ p) e
    go false e = e

only_in : (f : ℕ → Bool) (w : List ℕ) → In f w → only f w ≡ w
only_in f [] i = refl
only_in f (p ∷ w) i = rw (i p (mem_head p w), only_in f w (λ q j. i q (mem_right (p ∷ []) w q j)))

only_out : (f k : ℕ → Bool) → Apart f k → (w : List ℕ) → In k w → only f w ≡ []
only_out f k d [] i = refl
only_out f k d (p ∷ w) i = rw (not_true (f p) (λ e. d p e (i p (mem_head p w))), only_out f k d w (λ q j. i q (mem_right (p ∷ []) w q j)))

-- A list whose places pass both tests is empty.
pub in_both : (f k : ℕ → Bool) → Apart f k → (w : List ℕ) → In f w → In k w → w ≡ []
in_both f k d w i j = sym (only_in f w i) ∙ only_out f k d w j

-- These laws are of a part of k within parts of f.
module _ (f k : ℕ → Bool) (d : Apart f k) (a w c : List ℕ) (i : In f a) (j : In k w) (l : In f c) where
  pub only_mid : only k (a ++ (w ++ c)) ≡ w
  only_mid = rw (only_append k a (w ++ c), only_append k w c, only_out k f (λ p x y. d p y x) a i, only_in k w j, only_out k f (λ p x y. d p y x) c l) (append-nil w)

  pub only_sides : only f (a ++ (w ++ c)) ≡ a ++ c
  only_sides = rw (only_append f a (w ++ c), only_append f w c, only_in f a i, only_out f k d w j, only_in f c l)

module _ (f k : ℕ → Bool) (d : Apart f k) (a w : List ℕ) (i : In f a) (j : In k w) where
  pub only_end : only k (a ++ w) ≡ w
  only_end = rw (only_append k a w, only_out k f (λ p x y. d p y x) a i, only_in k w j)

  pub only_start : only f (a ++ w) ≡ a
  only_start = rw (only_append f a w, only_in f a i, only_out f k d w j) (append-nil a)

pub in_first : (f : ℕ → Bool) (a b : List ℕ) → In f (a ++ b) → In f a
in_first f a b i p j = i p (mem_left a b p j)

pub in_second : (f : ℕ → Bool) (a b : List ℕ) → In f (a ++ b) → In f b
in_second f a b i p j = i p (mem_right a b p j)

pub begins_in : (g : Group) (s t : List ℕ) → Begins g (s ++ t) → In (has g) s
begins_in g s t (v, w) = in_first (has g) s t (in_first (has g) (s ++ t) v (walk_in g ((s ++ t) ++ v) w))

pub arr_in_first : (m : Members) (x y : List (List ℕ)) → Arr Walk m (x ++ y) → In (has_m m) (joined x)
arr_in_first m x y o = in_first (has_m m) (joined x) (joined y) (subst (In (has_m m)) (joined_append x y) (arr_in m (x ++ y) o))

pub arr_in_second : (m : Members) (x y : List (List ℕ)) → Arr Walk m (x ++ y) → In (has_m m) (joined y)
arr_in_second m x y o = in_second (has_m m) (joined x) (joined y) (subst (In (has_m m)) (joined_append x y) (arr_in m (x ++ y) o))

-- These laws are of last places.

pub ends_unique : (s : List ℕ) (u v : ℕ) → Ends s u → Ends s v → u ≡ v
ends_unique [] u v i j = absurd i
ends_unique (p ∷ s) u v (inl (n, e)) (inl (k, f)) = sym e ∙ f
ends_unique (p ∷ s) u v (inl (n, e)) (inr j) = absurd (ends_some s v j n)
ends_unique (p ∷ s) u v (inr i) (inl (k, f)) = absurd (ends_some s u i k)
ends_unique (p ∷ s) u v (inr i) (inr j) = ends_unique s u v i j

pub ends_of : (p : ℕ) (s : List ℕ) → (u : ℕ) × Ends (p ∷ s) u
ends_of p [] = (p, inl (refl, refl))
ends_of p (q ∷ s) = let (u, e) = ends_of q s in (u, inr e)

abbrev pub Snoc : List ℕ → ℕ → List ℕ → List ℕ → Type 0
Snoc s q a c = (d : List ℕ) × (c ≡ d ++ q ∷ []) × (s ≡ a ++ d)

pub snoc_cut : (s : List ℕ) (q u : ℕ) (a c : List ℕ) → s ++ q ∷ [] ≡ a ++ c → Ends c u → Snoc s q a c
snoc_cut s q u a c e k = go (cuts s (q ∷ []) a c e)
  where
    up : (d : List ℕ) → a ≡ s ++ d → q ∷ [] ≡ d ++ c → Snoc s q a c
    up [] i j = ([], sym j, sym (append-nil s) ∙ sym i ∙ sym (append-nil a))
    up (x ∷ d) i j = absurd (ends_some c u k (nil_parts d c (tail-eq_of_cons-eq j)).1)

    go : Cuts s (q ∷ []) a c → Snoc s q a c
    go (inl (d, i, j)) = (d, j, i)
    go (inr (d, i, j)) = up d i j

-- Views: a place that may come next, in a sequence, in a repetition, in an "&" group.

pub data SeqNext (g h : Group) (s : List ℕ) (p : ℕ) : Type 0 where
  in_g : Begins g (s ++ p ∷ []) → SeqNext g h s p
  in_h : (a c : List ℕ) → s ≡ a ++ c → Walk g a → Begins h (c ++ p ∷ []) → SeqNext g h s p

pub seq_next : (g h : Group) (s : List ℕ) (p : ℕ) → Begins (seq g h) (s ++ p ∷ []) → SeqNext g h s p
seq_next g h s p (t, (a, b, q, x, y)) = go (cuts (s ++ p ∷ []) t a b q)
  where
    last : (c : List ℕ) → s ++ p ∷ [] ≡ a ++ c → b ≡ c ++ t → ((c ≡ []) × Ends a p) ⊎ Ends c p → SeqNext g h s p
    last c i j (inl (n, k)) = in_g ([], rw append-nil (subst (Walk g) (sym (i ∙ rw (n, append-nil))) x))
    last c i j (inr k) = let (d, l, m) = snoc_cut s p p a c i k in in_h a d m x (t, subst (Walk h) (j ∙ ap (λ (o : List ℕ). o ++ t) l) y)

    go : Cuts (s ++ p ∷ []) t a b → SeqNext g h s p
    go (inl (c, i, j)) = last c i j (ends_split a c p (rw i at (ends_snoc s p)))
    go (inr (c, i, j)) = in_g (c, subst (Walk g) i x)

-- The place stands after some whole walks, in the next one.
pub data PlusNext (g : Group) (s : List ℕ) (p : ℕ) : Type 0 where
  in_run : (r c : List ℕ) → s ≡ r ++ c → (r ≡ []) ⊎ Runs (Walk g) r → Begins g (c ++ p ∷ []) → PlusNext g s p

run_on : (g : Group) (a : List ℕ) (p : ℕ) (d : List ℕ) → Walk g a → PlusNext g d p → PlusNext g (a ++ d) p
run_on g a p d x (in_run r c e (inl n) b) = in_run a c (rw (e, n)) (inr (once x)) b
run_on g a p d x (in_run r c e (inr k) b) = in_run (a ++ r) c (rw e (sym (append_assoc a r c))) (inr (more a r refl x k)) b

pub plus_next : (g : Group) (p : ℕ) → {w : List ℕ} → Runs (Walk g) w → (s t : List ℕ) → w ≡ (s ++ p ∷ []) ++ t → PlusNext g s p
plus_next g p (once x) s t e = in_run [] s refl (inl refl) (t, subst (Walk g) e x)
plus_next g p (more a b q x r) s t e = go (λ d i. plus_next g p r d t i) (cuts (s ++ p ∷ []) t a b (sym e ∙ q))
  where
    last : ((d : List ℕ) → b ≡ (d ++ p ∷ []) ++ t → PlusNext g d p) → (c : List ℕ) → s ++ p ∷ [] ≡ a ++ c → b ≡ c ++ t → ((c ≡ []) × Ends a p) ⊎ Ends c p → PlusNext g s p
    last f c i j (inl (n, k)) = in_run [] s refl (inl refl) ([], rw append-nil (subst (Walk g) (sym (i ∙ rw (n, append-nil))) x))
    last f c i j (inr k) = let (d, l, m) = snoc_cut s p p a c i k in subst (λ (z : List ℕ). PlusNext g z p) (sym m) (run_on g a p d x (f d (j ∙ ap (λ (o : List ℕ). o ++ t) l)))

    go : ((d : List ℕ) → b ≡ (d ++ p ∷ []) ++ t → PlusNext g d p) → Cuts (s ++ p ∷ []) t a b → PlusNext g s p
    go f (inl (c, i, j)) = last f c i j (ends_split a c p (rw i at (ends_snoc s p)))
    go f (inr (c, i, j)) = in_run [] s refl (inl refl) (c, subst (Walk g) i x)

-- The last place of some whole walks is the last of one that is not empty.
pub runs_last : (g : Group) (u : ℕ) → {w : List ℕ} → Runs (Walk g) w → Ends w u → (a : List ℕ) × Walk g a × Ends a u
runs_last g u (once {w} x) e = (w, x, e)
runs_last g u (more a b q x r) e = go (λ i. runs_last g u r i) (ends_split a b u (rw q at e))
  where
    go : (Ends b u → (a : List ℕ) × Walk g a × Ends a u) → ((b ≡ []) × Ends a u) ⊎ Ends b u → (a : List ℕ) × Walk g a × Ends a u
    go f (inl (n, k)) = (a, x, k)
    go f (inr k) = f k

pub data MoreNext (m : Members) (g : Group) (s : List ℕ) (p : ℕ) : Type 0 where
  own : (x y : List (List ℕ)) (v : List ℕ) → s ≡ joined x ++ v → Arr Walk m (x ++ y) → Begins g (v ++ p ∷ []) → MoreNext m g s p
  other : (a c : List (List ℕ)) (w v z : List ℕ) (y : List (List ℕ)) → s ≡ joined a ++ (w ++ (joined c ++ v)) → (w ≡ []) ⊎ Walk g w → Arr Walk m ((a ++ c) ++ (v ++ p ∷ z) ∷ y) → MoreNext m g s p

pub more_next : (m : Members) (g : Group) (s : List ℕ) (p : ℕ) → Begins (and (also m g)) (s ++ p ∷ []) → MoreNext m g s p
more_next m g s p (t, w) = go (walk_arr (also m g) ((s ++ p ∷ []) ++ t) w)
  where
    at : (a b : List (List ℕ)) (w : List ℕ) (x : List (List ℕ)) (v z : List ℕ) (y : List (List ℕ)) → s ≡ joined x ++ v → Arr Walk m (a ++ b) → Walk g w → At a b w x (v ++ p ∷ z) y → MoreNext m g s p
    at a b w x v z y e o n (before c i j) =
        other a c w v z y (e ∙ ap (λ (l : List ℕ). l ++ v) (ap joined i ∙ joined_append a (block w ++ c) ∙ ap (◌++◌ (joined a)) (joined_block w c)) ∙ append_assoc (joined a) (w ++ joined c) v ∙ ap (◌++◌ (joined a)) (append_assoc w (joined c) v)) (inr n) (subst (Arr Walk m) (ap (◌++◌ a) j ∙ sym (append_assoc a c ((v ++ p ∷ z) ∷ y))) o)
    at a b w x v z y e o n (here i j k) = own x y v e (subst (Arr Walk m) (rw (j, k)) o) (z, rw append_assoc (subst (Walk g) i n))
    at a b w x v z y e o n (after c i j) =
        other x [] [] v z (c ++ b) e (inl refl) (rw append-nil (subst (Arr Walk m) (ap (λ (l : List (List ℕ)). l ++ b) j ∙ append_assoc x ((v ++ p ∷ z) ∷ c) b) o))

    in_block : (bs : List (List ℕ)) → Arr Walk (also m g) bs → Inside (s ++ p ∷ []) t bs p → MoreNext m g s p
    in_block bs (a, b, w, e, o, n) (x, v, z, y, i, j, k, l) =
        let (d, q, r) = snoc_cut s p p (joined x) v j l in
        at a b w x d z y r o n (at_block a b w x (d ++ p ∷ z) y (sym e ∙ i ∙ ap (λ (o : List ℕ). x ++ (o ++ z) ∷ y) q ∙ ap (λ (o : List ℕ). x ++ o ∷ y) (append_assoc d (p ∷ []) z)))

    go : ((bs : List (List ℕ)) × ((s ++ p ∷ []) ++ t ≡ joined bs) × Arr Walk (also m g) bs) → MoreNext m g s p
    go (bs, e, o) = in_block bs o (inside bs (s ++ p ∷ []) t p (ends_snoc s p) e)

-- Whole walks.

pub walk_parts : (m : Members) (g : Group) → Apart (has_m m) (has g) → (w : List ℕ) → Walk (and (also m g)) w → Walk (and m) (only (has_m m) w) × Walk g (only (has g) w)
walk_parts m g d w x = go (walk_arr (also m g) w x)
  where
    go : ((bs : List (List ℕ)) × (w ≡ joined bs) × Arr Walk (also m g) bs) → Walk (and m) (only (has_m m) w) × Walk g (only (has g) w)
    go (bs, e, (a, b, v, q, o, n)) =
        let z : w ≡ joined a ++ (v ++ joined b) = e ∙ ap joined q ∙ joined_append a (block v ++ b) ∙ ap (◌++◌ (joined a)) (joined_block v b) in (
          subst (Walk (and m)) (joined_append a b ∙ sym (only_sides (has_m m) (has g) d (joined a) v (joined b) (arr_in_first m a b o) (walk_in g v n) (arr_in_second m a b o)) ∙ rw z) (arr_walk m (a ++ b) o),
          subst (Walk g) (sym (only_mid (has_m m) (has g) d (joined a) v (joined b) (arr_in_first m a b o) (walk_in g v n) (arr_in_second m a b o)) ∙ rw z) n,
        )

-- This is what the views say of the parts.
module _ (m : Members) (g : Group) (d : Apart (has_m m) (has g)) (s : List ℕ) (p : ℕ) where
  pub own_only : (x y : List (List ℕ)) (v : List ℕ) → s ≡ joined x ++ v → Arr Walk m (x ++ y) → Begins g (v ++ p ∷ []) → only (has g) s ≡ v
  own_only x y v e o b = rw e (only_end (has_m m) (has g) d (joined x) v (arr_in_first m x y o) (begins_in g v (p ∷ []) b))

  pub own_rest : (x y : List (List ℕ)) (v : List ℕ) → s ≡ joined x ++ v → Arr Walk m (x ++ y) → Begins g (v ++ p ∷ []) → only (has_m m) s ≡ joined x
  own_rest x y v e o b = rw e (only_start (has_m m) (has g) d (joined x) v (arr_in_first m x y o) (begins_in g v (p ∷ []) b))

  module _ (a c : List (List ℕ)) (w v z : List ℕ) (y : List (List ℕ)) (e : s ≡ joined a ++ (w ++ (joined c ++ v))) (t : (w ≡ []) ⊎ Walk g w) (o : Arr Walk m ((a ++ c) ++ (v ++ p ∷ z) ∷ y)) where
    other_places : In (has_m m) (joined a ++ (joined c ++ v))
    other_places = subst (In (has_m m)) (ap (λ (l : List ℕ). l ++ v) (joined_append a c) ∙ append_assoc (joined a) (joined c) v) (in_append (has_m m) (joined (a ++ c)) v (arr_in_first m (a ++ c) ((v ++ p ∷ z) ∷ y) o) (in_first (has_m m) v (p ∷ z) (in_first (has_m m) (v ++ p ∷ z) (joined y) (arr_in_second m (a ++ c) ((v ++ p ∷ z) ∷ y) o))))

    pub other_tail : In (has_m m) (joined c ++ v)
    other_tail = in_second (has_m m) (joined a) (joined c ++ v) other_places

    own_places : In (has g) w
    own_places = go t
      where
        go : (w ≡ []) ⊎ Walk g w → In (has g) w
        go (inl n) = λ q i. absurd (false≢true (rw n at i))
        go (inr x) = walk_in g w x

    pub other_only : only (has g) s ≡ w
    other_only = rw e (only_mid (has_m m) (has g) d (joined a) w (joined c ++ v) (in_first (has_m m) (joined a) (joined c ++ v) other_places) own_places other_tail)

    pub other_rest : only (has_m m) s ≡ joined (a ++ c) ++ v
    other_rest = rw e (only_sides (has_m m) (has g) d (joined a) w (joined c ++ v) (in_first (has_m m) (joined a) (joined c ++ v) other_places) own_places other_tail ∙ sym (ap (λ (l : List ℕ). l ++ v) (joined_append a c) ∙ append_assoc (joined a) (joined c) v))

    pub other_begins : Begins (and m) (only (has_m m) s ++ p ∷ [])
    other_begins = (z ++ joined y, subst (Walk (and m)) (joined_append (a ++ c) ((v ++ p ∷ z) ∷ y) ∙ ap (◌++◌ (joined (a ++ c))) (append_assoc v (p ∷ z) (joined y)) ∙ sym (append_assoc (joined (a ++ c)) v (p ∷ (z ++ joined y))) ∙ rw (← other_rest) (sym (append_assoc (only (has_m m) s) (p ∷ []) (z ++ joined y)))) (arr_walk m ((a ++ c) ++ (v ++ p ∷ z) ∷ y) o))
