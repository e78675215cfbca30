-- The members of an "&" group not yet begun: what remains of a walk is an order of theirs, and any order of theirs may take its place.
use Rattle.std.specs.Prelude.{ℕ, ◌≡◌, refl, Bool, true, false, ◌⊎◌}
use Rattle.std.proofs.Common.{sym, ◌∙◌, ap, subst, inl, inr}
use Rattle.std.proofs.lemmas.Bool.{false≢true}
use mathlib.Core.List.{List, [], ◌∷◌, ◌++◌, append_assoc, append-nil, nil≢cons}
use Rattle.basic_laws.specs.Truth.{or_left, or_right, not_true, not_both, bool_cases}
use Rattle.model_sets.specs.Sets.{has, has_m}
use Rattle.rules.specs.Walk.{Group, Members, one, also, joined, Walk}
use Rattle.and_laws.specs.Base.{mem, mem_left, mem_right, mem_cases, mem_head, Apart, joined_append}
use Rattle.and_laws.specs.Sets.{meets, GoodM, walk_in, Common, meets_common, common_meets}
use Rattle.and_laws.specs.Blocks.{block, Arr, joined_block, arr_in, Where, early, late, where_block}

-- A member other than the one at hand leaves nothing to come once it has begun, and a walk before.
abbrev pub Remains : (ℕ → Bool) → Group → List ℕ → Type 0
Remains S g w = ((meets g S ≡ true) × (w ≡ [])) ⊎ ((meets g S ≡ false) × Walk g w)

abbrev pub Touched : (ℕ → Bool) → List ℕ → Type 0
Touched S w = (w ≡ []) ⊎ Common (mem w) S

-- Each of the sequences is empty or has a place taken.
abbrev pub Met : (ℕ → Bool) → List (List ℕ) → Type 0
Met S [] = ◌≡◌ {A = ℕ} 0 0
Met S (w ∷ x) = Touched S w × Met S x

pub met_join : (S : ℕ → Bool) (a b : List (List ℕ)) → Met S a → Met S b → Met S (a ++ b)
met_join S [] b m n = n
met_join S (w ∷ a) b (t, m) n = (t, met_join S a b m n)

met_first : (S : ℕ → Bool) (a b : List (List ℕ)) → Met S (a ++ b) → Met S a
met_first S [] b m = refl
met_first S (w ∷ a) b (t, m) = (t, met_first S a b m)

met_second : (S : ℕ → Bool) (a b : List (List ℕ)) → Met S (a ++ b) → Met S b
met_second S [] b m = m
met_second S (w ∷ a) b (t, m) = met_second S a b m

met_block : (S : ℕ → Bool) (w : List ℕ) → Met S (block w) → Touched S w
met_block S [] m = inl refl
met_block S (p ∷ w) m = m.0

pub met_all : (S : ℕ → Bool) (x : List (List ℕ)) → ((p : ℕ) → mem (joined x) p ≡ true → S p ≡ true) → Met S x
met_all S [] f = refl
met_all S ([] ∷ x) f = (inl refl, met_all S x f)
met_all S ((p ∷ w) ∷ x) f = (inr (p, mem_head p w, f p (mem_head p (w ++ joined x))), met_all S x (λ q i. f q (mem_right (p ∷ w) (joined x) q i)))

module _ (S : ℕ → Bool) (a c : List (List ℕ)) (w : List ℕ) where
  met_out : Met S (a ++ (block w ++ c)) → Met S (a ++ c)
  met_out m = met_join S a c (met_first S a (block w ++ c) m) (met_second S (block w) c (met_second S a (block w ++ c) m))

  met_at : Met S (a ++ (block w ++ c)) → Touched S w
  met_at m = met_block S w (met_first S (block w) c (met_second S a (block w ++ c) m))

-- A place in the whole is in the part or in the rest.
pub mem_middle : {C : Type 0} (a c : List (List ℕ)) (w : List ℕ) (p : ℕ) → (mem w p ≡ true → C) → (mem (joined (a ++ c)) p ≡ true → C) → mem (joined (a ++ (block w ++ c))) p ≡ true → C
mem_middle a c w p f k i =
    mem_cases
    (joined a)
    (joined (block w ++ c))
    p
    (λ j. k (rw joined_append (mem_left (joined a) (joined c) p j)))
    (λ j. mem_cases w (joined c) p f (λ l. k (rw joined_append (mem_right (joined a) (joined c) p l))) (rw joined_block at j))
    (rw joined_append at i)

pub nil_parts : {A : Type 0} (a b : List A) → [] ≡ a ++ b → (a ≡ []) × (b ≡ [])
nil_parts [] b e = (refl, sym e)
nil_parts (x ∷ a) b e = absurd (nil≢cons e)

module _ (S : ℕ → Bool) (g : Group) (w : List ℕ) (x : Walk g w) where
  touched_none : Touched S w → meets g S ≡ false → w ≡ []
  touched_none (inl e) f = e
  touched_none (inr (p, i, j)) f = absurd (not_both f (common_meets g S p (walk_in g w x p i) j))

  -- A member that came early leaves nothing.
  remains_early : Touched S w → Remains S g []
  remains_early t = bool_cases (meets g S) (λ e. inl (e, refl)) (λ f. inr (f, subst (Walk g) (touched_none t f) x))

pub unmet : (S : ℕ → Bool) (g : Group) → (Common (has g) S → ⊥) → meets g S ≡ false
unmet S g f = not_true (meets g S) (λ e. f (meets_common g S e))

-- The members' places taken lie in x.
abbrev pub Lies : Members → (ℕ → Bool) → List (List ℕ) → Type 0
Lies m S x = (p : ℕ) → has_m m p ≡ true → S p ≡ true → mem (joined x) p ≡ true

module _ (S : ℕ → Bool) (m : Members) (g : Group) (apart : Apart (has_m m) (has g)) where
  lies_out : (a c : List (List ℕ)) (w : List ℕ) → Walk g w → Lies (also m g) S (a ++ (block w ++ c)) → Lies m S (a ++ c)
  lies_out a c w x l p i j = mem_middle a c w p (λ k. absurd (apart p i (walk_in g w x p k))) (λ k. k) (l p (or_left _ i) j)

  lies_less : (x : List (List ℕ)) → Lies (also m g) S x → Lies m S x
  lies_less x l p i j = l p (or_left _ i) j

  -- A member that is still to come has not begun.
  lies_unmet : (x y : List (List ℕ)) → Arr Walk m (x ++ y) → Lies (also m g) S x → meets g S ≡ false
  lies_unmet x y o l =
      unmet S g (λ (p, i, j). apart p (arr_in m (x ++ y) o p (rw joined_append (mem_left (joined x) (joined y) p (l p (or_right (has_m m p) i) j)))) i)

none_unmet : (S : ℕ → Bool) (g : Group) (x : List (List ℕ)) → x ≡ [] → Lies (one g) S x → meets g S ≡ false
none_unmet S g x e l = unmet S g (λ (p, i, j). false≢true (rw e at (l p i j)))

pub arr_later : (m : Members) (S : ℕ → Bool) → GoodM m → (x z : List (List ℕ)) → Arr Walk m (x ++ z) → Met S x → Lies m S x → Arr (Remains S) m z
arr_later (one g) S d x z (w, e, v) t l = go (where_block [] [] w x z (append-nil (block w) ∙ sym e))
  where
    go : Where [] [] w x z → Arr (Remains S) (one g) z
    go (early c p q) = ([], (nil_parts c z q).1, remains_early S g w v (met_at S [] c w (rw p at t)))
    go (late c p q) = let (i, j) = nil_parts x c q in (w, p ∙ rw (j, append-nil), inr (none_unmet S g x i l, v))
arr_later (also m g) S (d, k, apart) x z (a, b, w, e, o, v) t l = go (arr_later m S d) (where_block a b w x z (sym e))
  where
    go : ((x z : List (List ℕ)) → Arr Walk m (x ++ z) → Met S x → Lies m S x → Arr (Remains S) m z) → Where a b w x z → Arr (Remains S) (also m g) z
    go f (early c p q) =
        ([], z, [], refl, f (a ++ c) z (subst (Arr Walk m) (ap (◌++◌ a) q ∙ sym (append_assoc a c z)) o) (met_out S a c w (rw p at t)) (lies_out S m g apart a c w v (rw p at l)), remains_early S g w v (met_at S a c w (rw p at t)))
    go f (late c p q) =
        let o2 : Arr Walk m (x ++ (c ++ b)) = subst (Arr Walk m) (ap (λ (y : List (List ℕ)). y ++ b) q ∙ append_assoc x c b) o in
        (c, b, w, p, f x (c ++ b) o2 t (lies_less S m g apart x l), inr (lies_unmet S m g apart x (c ++ b) o2 l, v))

pub later_arr : (m : Members) (S : ℕ → Bool) → GoodM m → (x z y : List (List ℕ)) → Arr Walk m (x ++ z) → Met S x → Lies m S x → Arr (Remains S) m y → Arr Walk m (x ++ y)
later_arr (one g) S d x z y (w, e, v) t l (w2, e2, r) = go (where_block [] [] w x z (append-nil (block w) ∙ sym e)) r
  where
    go : Where [] [] w x z → Remains S g w2 → Arr Walk (one g) (x ++ y)
    go (early c p q) (inl (i, n)) =
        (w, rw (p, (nil_parts c z q).0, append-nil, e2, n, append-nil), v)
    go (early c p q) (inr (i, n)) = (w2, rw (p, (nil_parts c z q).0, touched_none S g w v (met_at S [] c w (rw p at t)) i, e2), n)
    go (late c p q) (inl (i, n)) = absurd (not_both (none_unmet S g x (nil_parts x c q).0 l) i)
    go (late c p q) (inr (i, n)) = (w2, rw ((nil_parts x c q).0, e2), n)
later_arr (also m g) S (d, k, apart) x z y (a, b, w, e, o, v) t l (a2, b2, w2, e2, o2, r) = go (later_arr m S d) (where_block a b w x z (sym e)) r
  where
    put : Arr Walk m (x ++ (a2 ++ b2)) → Walk g w2 → Arr Walk (also m g) (x ++ y)
    put u n = (x ++ a2, b2, w2, ap (◌++◌ x) e2 ∙ sym (append_assoc x a2 (block w2 ++ b2)), subst (Arr Walk m) (sym (append_assoc x a2 b2)) u, n)

    go : ((x z y : List (List ℕ)) → Arr Walk m (x ++ z) → Met S x → Lies m S x → Arr (Remains S) m y → Arr Walk m (x ++ y)) → Where a b w x z → Remains S g w2 → Arr Walk (also m g) (x ++ y)
    go f (early c p q) r =
        let u : Arr Walk m ((a ++ c) ++ (a2 ++ b2)) = f (a ++ c) z (a2 ++ b2) (subst (Arr Walk m) (ap (◌++◌ a) q ∙ sym (append_assoc a c z)) o) (met_out S a c w (rw p at t)) (lies_out S m g apart a c w v (rw p at l)) o2 in
        pick u r
      where
        pick : Arr Walk m ((a ++ c) ++ (a2 ++ b2)) → Remains S g w2 → Arr Walk (also m g) (x ++ y)
        pick u (inl (i, n)) =
            let h : y ≡ a2 ++ b2 = e2 ∙ rw n in
            (a, c ++ y, w, rw p (append_assoc a (block w ++ c) y ∙ ap (◌++◌ a) (append_assoc (block w) c y)), rw h (subst (Arr Walk m) (append_assoc a c (a2 ++ b2)) u), v)
        pick u (inr (i, n)) =
            let h : x ≡ a ++ c = p ∙ rw (touched_none S g w v (met_at S a c w (rw p at t)) i) in
            put (rw h u) n
    go f (late c p q) (inl (i, n)) = absurd (not_both (lies_unmet S m g apart x (c ++ b) (subst (Arr Walk m) (ap (λ (s : List (List ℕ)). s ++ b) q ∙ append_assoc x c b) o) l) i)
    go f (late c p q) (inr (i, n)) = put (f x (c ++ b) (a2 ++ b2) (subst (Arr Walk m) (ap (λ (s : List (List ℕ)). s ++ b) q ∙ append_assoc x c b) o) t (lies_less S m g apart x l) o2) n
