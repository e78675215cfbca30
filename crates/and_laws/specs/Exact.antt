-- The fold for pairs is exact: whatever is so of walks (null, first, complete and p next, p and q both next), the fold says.
use Rattle.std.specs.Prelude.{ℕ, ◌≡◌, refl, true, false, ◌&&◌, ◌||◌, ◌⊎◌, eqb}
use Rattle.std.proofs.Common.{sym, ◌∙◌, ap, subst, inl, inr, eq-eqb}
use Rattle.std.proofs.lemmas.Bool.{false≢true}
use mathlib.Core.List.{List, [], ◌∷◌, ◌++◌, append_assoc, append-nil, nil≢cons, cons≢nil, head-eq_of_cons-eq, tail-eq_of_cons-eq}
use Rattle.basic_laws.specs.Truth.{or_left, or_right, or_cases, and_both}
use Rattle.model_sets.specs.Sets.{has, has_m, nullable, nullable_m, first, first_m}
use Rattle.rules.specs.Walk.{Group, place, seq, alt, opt, plus, and, Members, one, also, Runs, once, more, joined, Walk, Begins}
use Rattle.and_laws.specs.Base.{In, Apart, Ends, ends_append, joined_append, starts, nil≢middle}
use Rattle.and_laws.specs.Sets.{held, Plain, Good, GoodM, plain_held, walk_in}
use Rattle.and_laws.specs.Blocks.{block, Arr, joined_block, walk_arr, At, before, here, after, at_block, Where, early, late, where_block}
use Rattle.and_laws.specs.Later.{nil_parts}
use Rattle.and_laws.specs.Back.{alike_next}
use Rattle.and_laws.specs.Fold.{ends, ends_m, GoesOn, walk_one}
use Rattle.and_laws.specs.Only.{only, in_both, only_mid, only_sides, only_end, only_start, in_first, in_second, begins_in, arr_in_first, ends_of, SeqNext, in_g, in_h, seq_next, PlusNext, in_run, plus_next, runs_last, MoreNext, own, other, more_next, walk_parts, own_only, other_begins}

-- What has an empty walk is told to be nullable.

runs_null : (g : Group) → (Walk g [] → nullable g ≡ true) → {w : List ℕ} → Runs (Walk g) w → [] ≡ w → nullable g ≡ true
runs_null g f (once x) e = f (subst (Walk g) (sym e) x)
runs_null g f (more s t c x r) e = f (subst (Walk g) (nil_parts s t (e ∙ c)).0 x)

mutual
  pub walk_null : (g : Group) → Walk g [] → nullable g ≡ true
  walk_null (place n) w = absurd (nil≢cons w)
  walk_null (seq g h) (s, t, e, x, y) = and_both (walk_null g (subst (Walk g) (nil_parts s t e).0 x)) (walk_null h (subst (Walk h) (nil_parts s t e).1 y))
  walk_null (alt g h) (inl w) = or_left _ (walk_null g w)
  walk_null (alt g h) (inr w) = or_right (nullable g) (walk_null h w)
  walk_null (opt g) w = refl
  walk_null (plus g) w = runs_null g (λ x. walk_null g x) w refl
  walk_null (and m) w = let (bs, e, o) = walk_arr m [] w in arr_null m bs e o

  arr_null : (m : Members) (bs : List (List ℕ)) → [] ≡ joined bs → Arr Walk m bs → nullable_m m ≡ true
  arr_null (one g) bs e (w, q, x) = walk_null g (subst (Walk g) (sym (e ∙ ap joined (q ∙ sym (append-nil (block w))) ∙ joined_block w [] ∙ append-nil w)) x)
  arr_null (also m g) bs e (a, b, w, q, o, x) =
      let k : [] ≡ joined a ++ (w ++ joined b) = e ∙ ap joined q ∙ joined_append a (block w ++ b) ∙ ap (◌++◌ (joined a)) (joined_block w b) in
      let i = nil_parts (joined a) (w ++ joined b) k in
      let j = nil_parts w (joined b) (sym i.1) in
      and_both (arr_null m (a ++ b) (sym (joined_append a b ∙ ap (λ (l : List ℕ). l ++ joined b) i.0 ∙ j.1)) o) (walk_null g (subst (Walk g) j.0 x))

-- What begins a walk is told to be first.

runs_first : (g : Group) (p : ℕ) → ((t : List ℕ) → Walk g (p ∷ t) → first g p ≡ true) → {w : List ℕ} → Runs (Walk g) w → (t : List ℕ) → w ≡ p ∷ t → first g p ≡ true
runs_first g p f (once x) t e = f t (subst (Walk g) e x)
runs_first g p f (more [] b c x r) t e = runs_first g p f r t (sym c ∙ e)
runs_first g p f (more (q ∷ a) b c x r) t e = f a (subst (λ (y : ℕ). Walk g (y ∷ a)) (sym (head-eq_of_cons-eq (sym e ∙ c))) x)

mutual
  pub walk_first : (g : Group) (p : ℕ) (t : List ℕ) → Walk g (p ∷ t) → first g p ≡ true
  walk_first (place n) p t w = eq-eqb n p (sym (head-eq_of_cons-eq w))
  walk_first (seq g h) p t ([], b, e, x, y) = or_right (first g p) (and_both (walk_null g x) (walk_first h p t (subst (Walk h) (sym e) y)))
  walk_first (seq g h) p t (q ∷ a, b, e, x, y) = or_left _ (walk_first g p a (subst (λ (z : ℕ). Walk g (z ∷ a)) (sym (head-eq_of_cons-eq e)) x))
  walk_first (alt g h) p t (inl w) = or_left _ (walk_first g p t w)
  walk_first (alt g h) p t (inr w) = or_right (first g p) (walk_first h p t w)
  walk_first (opt g) p t (inl e) = absurd (cons≢nil e)
  walk_first (opt g) p t (inr w) = walk_first g p t w
  walk_first (plus g) p t w = runs_first g p (λ t x. walk_first g p t x) w t refl
  walk_first (and m) p t w =
      let (bs, e, o) = walk_arr m (p ∷ t) w in
      let (x, z, y, q) = starts bs p t e in
      arr_first m p x z y (subst (Arr Walk m) q o)

  pub arr_first : (m : Members) (p : ℕ) (x : List (List ℕ)) (z : List ℕ) (y : List (List ℕ)) → Arr Walk m (x ++ (p ∷ z) ∷ y) → first_m m p ≡ true
  arr_first (one g) p x z y (w, e, n) = go (λ t x. walk_first g p t x) (at_block [] [] w x (p ∷ z) y (append-nil (block w) ∙ sym e))
    where
      go : ((t : List ℕ) → Walk g (p ∷ t) → first g p ≡ true) → At [] [] w x (p ∷ z) y → first g p ≡ true
      go f (before c i j) = absurd (nil≢middle c (p ∷ z) y j)
      go f (here i j k) = f z (subst (Walk g) i n)
      go f (after c i j) = absurd (nil≢middle x (p ∷ z) c j)
  arr_first (also m g) p x z y (a, b, w, e, o, n) = go (λ t x. walk_first g p t x) (λ x y o. arr_first m p x z y o) (at_block a b w x (p ∷ z) y (sym e))
    where
      go : ((t : List ℕ) → Walk g (p ∷ t) → first g p ≡ true) → ((x y : List (List ℕ)) → Arr Walk m (x ++ (p ∷ z) ∷ y) → first_m m p ≡ true) → At a b w x (p ∷ z) y → first_m (also m g) p ≡ true
      go f k (before c i j) = or_left _ (k (a ++ c) y (subst (Arr Walk m) (ap (◌++◌ a) j ∙ sym (append_assoc a c ((p ∷ z) ∷ y))) o))
      go f k (here i j l) = or_right (first_m m p) (f z (subst (Walk g) i n))
      go f k (after c i j) = or_left _ (k x (c ++ b) (subst (Arr Walk m) (ap (λ (l : List (List ℕ)). l ++ b) j ∙ append_assoc x ((p ∷ z) ∷ c) b) o))

pub begins_first : (g : Group) (p : ℕ) → Begins g (p ∷ []) → first g p ≡ true
begins_first g p (t, w) = walk_first g p t w

-- What goes on after a walk is told by `ends`.

-- In a group without "&" only the last place counts.
pub plain_next : (g : Group) → Good g → Plain g → (u p : ℕ) (a c : List ℕ) → Ends a u → Ends c u → Begins g a → Begins g (c ++ p ∷ []) → Begins g (a ++ p ∷ [])
plain_next g d n u p a c i j b k = alike_next g d c a p b (record { last = (u, j, i); same = λ q h. absurd (plain_held g n q h) }) k

walk_begins : (g : Group) (s : List ℕ) → Walk g s → Begins g s
walk_begins g s w = ([], rw append-nil w)

-- Where p goes on after whole walks, it begins a walk or goes on after one.
pub plus_goes : (g : Group) → Good g → Plain g → (s r c : List ℕ) (p : ℕ) → s ≡ r ++ c → Runs (Walk g) s → Begins g (c ++ p ∷ []) → (first g p ≡ true) ⊎ GoesOn g p
plus_goes g d n s r [] p e x b = inl (begins_first g p b)
plus_goes g d n s r (q ∷ c) p e x b =
    let (u, i) = ends_of q c in
    let (a, w, j) = runs_last g u x (rw e (ends_append r (q ∷ c) u i)) in
    inr (a, w, plain_next g d n u p a (q ∷ c) j i (walk_begins g a w) b)

seq_on : (g h : Group) → Apart (has g) (has h) → (p : ℕ) → (GoesOn g p → ends g p ≡ true) → (GoesOn h p → ends h p ≡ true) → GoesOn (seq g h) p → ends (seq g h) p ≡ true
seq_on g h d p f k (s, (a, b, e, x, y), z) = go (seq_next g h s p z)
  where
    go : SeqNext g h s p → ends (seq g h) p ≡ true
    go (in_g v) =
        let n : b ≡ [] = in_both (has g) (has h) d b (in_second (has g) a b (subst (In (has g)) e (begins_in g s (p ∷ []) v))) (walk_in h b y) in
        or_left _ (and_both (walk_null h (subst (Walk h) n y)) (f (s, subst (Walk g) (sym (e ∙ ap (◌++◌ a) n ∙ append-nil a)) x, v)))
    go (in_h a2 c q w v) =
        let n : b ≡ c = sym (only_end (has g) (has h) d a b (walk_in g a x) (walk_in h b y)) ∙ ap (only (has h)) (sym e ∙ q) ∙ only_end (has g) (has h) d a2 c (walk_in g a2 w) (begins_in h c (p ∷ []) v) in
        or_right (nullable h && ends g p) (k (c, subst (Walk h) n y, v))

alt_on : (g h : Group) → Apart (has g) (has h) → (p : ℕ) → (GoesOn g p → ends g p ≡ true) → (GoesOn h p → ends h p ≡ true) → GoesOn (alt g h) p → ends (alt g h) p ≡ true
alt_on g h d p f k (s, inl x, (t, inl y)) = or_left _ (or_left _ (f (s, x, (t, y))))
alt_on g h d p f k (s, inl x, (t, inr y)) =
    let n : s ≡ [] = in_both (has g) (has h) d s (walk_in g s x) (begins_in h s (p ∷ []) (t, y)) in
    or_right (ends g p || ends h p) (or_right (nullable h && first g p) (and_both (walk_null g (subst (Walk g) n x)) (walk_first h p t (subst (λ (l : List ℕ). Walk h ((l ++ p ∷ []) ++ t)) n y))))
alt_on g h d p f k (s, inr x, (t, inl y)) =
    let n : s ≡ [] = in_both (has g) (has h) d s (begins_in g s (p ∷ []) (t, y)) (walk_in h s x) in
    or_right (ends g p || ends h p) (or_left _ (and_both (walk_null h (subst (Walk h) n x)) (walk_first g p t (subst (λ (l : List ℕ). Walk g ((l ++ p ∷ []) ++ t)) n y))))
alt_on g h d p f k (s, inr x, (t, inr y)) = or_left _ (or_right (ends g p) (k (s, x, (t, y))))

opt_on : (g : Group) (p : ℕ) → (GoesOn g p → ends g p ≡ true) → GoesOn (opt g) p → ends (opt g) p ≡ true
opt_on g p f (s, x, (t, inl n)) = absurd (nil≢middle s p t (sym n ∙ append_assoc s (p ∷ []) t))
opt_on g p f (s, inl n, (t, inr y)) = or_right (ends g p) (walk_first g p t (subst (λ (l : List ℕ). Walk g ((l ++ p ∷ []) ++ t)) n y))
opt_on g p f (s, inr x, (t, inr y)) = or_left _ (f (s, x, (t, y)))

plus_on : (g : Group) → Good g → Plain g → (p : ℕ) → (GoesOn g p → ends g p ≡ true) → GoesOn (plus g) p → ends (plus g) p ≡ true
plus_on g d n p f (s, x, (t, y)) = go (plus_next g p y s t refl)
  where
    pick : (first g p ≡ true) ⊎ GoesOn g p → ends (plus g) p ≡ true
    pick (inl e) = or_right (ends g p) e
    pick (inr k) = or_left _ (f k)

    go : PlusNext g s p → ends (plus g) p ≡ true
    go (in_run r c e k b) = pick (plus_goes g d n s r c p e x b)

more_on : (m : Members) (g : Group) → Apart (has_m m) (has g) → (p : ℕ) → (GoesOn (and m) p → ends_m m p ≡ true) → (GoesOn g p → ends g p ≡ true) → GoesOn (and (also m g)) p → ends_m (also m g) p ≡ true
more_on m g d p f k (s, x, b) = go (more_next m g s p b)
  where
    go : MoreNext m g s p → ends_m (also m g) p ≡ true
    go (own y z v e o b) = or_right (ends_m m p) (k (v, subst (Walk g) (own_only m g d s p y z v e o b) (walk_parts m g d s x).1, b))
    go (other a c w v z y e t o) = or_left _ (f (only (has_m m) s, (walk_parts m g d s x).0, other_begins m g d s p a c w v z y e t o))

mutual
  pub on_ends : (g : Group) → Good g → (p : ℕ) → GoesOn g p → ends g p ≡ true
  on_ends (place n) d p (s, x, (t, y)) = absurd (cons≢nil (tail-eq_of_cons-eq (subst (λ (l : List ℕ). (l ++ p ∷ []) ++ t ≡ n ∷ []) x y)))
  on_ends (seq g h) (d, k, a) p x = seq_on g h a p (λ x. on_ends g d p x) (λ x. on_ends h k p x) x
  on_ends (alt g h) (d, k, a) p x = alt_on g h a p (λ x. on_ends g d p x) (λ x. on_ends h k p x) x
  on_ends (opt g) d p x = opt_on g p (λ x. on_ends g d p x) x
  on_ends (plus g) (d, n) p x = plus_on g d n p (λ x. on_ends g d p x) x
  on_ends (and m) d p x = on_m_ends m d p x

  pub on_m_ends : (m : Members) → GoodM m → (p : ℕ) → GoesOn (and m) p → ends_m m p ≡ true
  on_m_ends (one g) d p (s, x, (t, y)) = on_ends g d p (s, walk_one g s x, (t, walk_one g ((s ++ p ∷ []) ++ t) y))
  on_m_ends (also m g) (d, k, a) p x = more_on m g a p (λ x. on_m_ends m d p x) (λ x. on_ends g k p x) x

-- Between two members of an "&" group, what comes next begins its member or goes on after it.

pub edge : (m : Members) → GoodM m → (p : ℕ) (x y : List (List ℕ)) → Arr Walk m (x ++ y) → Begins (and m) (joined x ++ p ∷ []) → first_m m p || ends_m m p ≡ true
edge (one g) d p x y (w, e, n) (t, b) = go (where_block [] [] w x y (append-nil (block w) ∙ sym e))
  where
    v : Walk g ((joined x ++ p ∷ []) ++ t)
    v = walk_one g ((joined x ++ p ∷ []) ++ t) b

    go : Where [] [] w x y → first g p || ends g p ≡ true
    go (early c i j) =
        let z : joined x ≡ w = ap joined (i ∙ ap (◌++◌ (block w)) (nil_parts c y j).0) ∙ joined_block w [] ∙ append-nil w in
        or_right (first g p) (on_ends g d p (w, n, (t, subst (λ (l : List ℕ). Walk g ((l ++ p ∷ []) ++ t)) z v)))
    go (late c i j) = or_left _ (walk_first g p t (subst (λ (l : List ℕ). Walk g ((l ++ p ∷ []) ++ t)) (ap joined (nil_parts x c j).0) v))
edge (also m g) (d, k, apart) p x y (a, b, w, e, o, n) z = go (λ x y o b. edge m d p x y o b) (where_block a b w x y (sym e)) (more_next m g (joined x) p z)
  where
    low : first_m m p || ends_m m p ≡ true → first_m (also m g) p || ends_m (also m g) p ≡ true
    low e = or_cases (first_m m p) _ (λ i. or_left _ (or_left _ i)) (λ i. or_right (first_m (also m g) p) (or_left _ i)) e

    go : ((x y : List (List ℕ)) → Arr Walk m (x ++ y) → Begins (and m) (joined x ++ p ∷ []) → first_m m p || ends_m m p ≡ true) → Where a b w x y → MoreNext m g (joined x) p → first_m (also m g) p || ends_m (also m g) p ≡ true
    go f (early c i j) (own x2 y2 v q r s) =
        let o2 : Arr Walk m (a ++ (c ++ y)) = subst (Arr Walk m) (ap (◌++◌ a) j) o in
        let o3 : Arr Walk m ((a ++ c) ++ y) = subst (Arr Walk m) (sym (append_assoc a c y)) o2 in
        let h : In (has_m m) (joined a ++ joined c) = subst (In (has_m m)) (joined_append a c) (arr_in_first m (a ++ c) y o3) in
        let l : w ≡ v = sym (only_mid (has_m m) (has g) apart (joined a) w (joined c) (in_first (has_m m) (joined a) (joined c) h) (walk_in g w n) (in_second (has_m m) (joined a) (joined c) h)) ∙ ap (only (has g)) (sym (ap joined i ∙ joined_append a (block w ++ c) ∙ ap (◌++◌ (joined a)) (joined_block w c))) ∙ own_only m g apart (joined x) p x2 y2 v q r s in
        or_right (first_m (also m g) p) (or_right (ends_m m p) (on_ends g k p (v, subst (Walk g) l n, s)))
    go f (early c i j) (other a2 c2 w2 v z y2 q t r) =
        let o2 : Arr Walk m (a ++ (c ++ y)) = subst (Arr Walk m) (ap (◌++◌ a) j) o in
        let o3 : Arr Walk m ((a ++ c) ++ y) = subst (Arr Walk m) (sym (append_assoc a c y)) o2 in
        let h : In (has_m m) (joined a ++ joined c) = subst (In (has_m m)) (joined_append a c) (arr_in_first m (a ++ c) y o3) in
        let l : only (has_m m) (joined x) ≡ joined (a ++ c) = ap (only (has_m m)) (ap joined i ∙ joined_append a (block w ++ c) ∙ ap (◌++◌ (joined a)) (joined_block w c)) ∙ only_sides (has_m m) (has g) apart (joined a) w (joined c) (in_first (has_m m) (joined a) (joined c) h) (walk_in g w n) (in_second (has_m m) (joined a) (joined c) h) ∙ sym (joined_append a c) in
        low (f (a ++ c) y o3 (subst (λ (s : List ℕ). Begins (and m) (s ++ p ∷ [])) l (other_begins m g apart (joined x) p a2 c2 w2 v z y2 q t r)))
    go f (late c i j) (own x2 y2 v q r s) =
        let o2 : Arr Walk m (x ++ (c ++ b)) = subst (Arr Walk m) (ap (λ (s : List (List ℕ)). s ++ b) j ∙ append_assoc x c b) o in
        let l : v ≡ [] = in_both (has_m m) (has g) apart v (in_second (has_m m) (joined x2) v (subst (In (has_m m)) q (arr_in_first m x (c ++ b) o2))) (begins_in g v (p ∷ []) s) in
        or_left _ (or_right (first_m m p) (begins_first g p (subst (λ (z : List ℕ). Begins g (z ++ p ∷ [])) l s)))
    go f (late c i j) (other a2 c2 w2 v z y2 q t r) =
        let o2 : Arr Walk m (x ++ (c ++ b)) = subst (Arr Walk m) (ap (λ (s : List (List ℕ)). s ++ b) j ∙ append_assoc x c b) o in
        let l : only (has_m m) (joined x) ≡ joined x = ap (only (has_m m)) (sym (append-nil (joined x))) ∙ only_start (has_m m) (has g) apart (joined x) [] (arr_in_first m x (c ++ b) o2) (λ q i. absurd (false≢true i)) in
        low (f x (c ++ b) o2 (subst (λ (s : List ℕ). Begins (and m) (s ++ p ∷ [])) l (other_begins m g apart (joined x) p a2 c2 w2 v z y2 q t r)))
