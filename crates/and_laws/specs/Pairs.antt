-- Ambiguity without listing orders: `clash g p q` is true exactly if some sequence has both p and q as next (`pair_exact`).
use Rattle.std.specs.Prelude.{ℕ, ◌<◌, ◌≡◌, refl, Bool, true, ◌&&◌, ◌||◌, ◌⊎◌, ◌↔◌, eqb}
use Rattle.std.proofs.Common.{sym, ◌∙◌, ap, subst, inl, inr, eq-eqb}
use mathlib.Core.List.{List, [], ◌∷◌, ◌++◌, append-nil, cons≢nil, head-eq_of_cons-eq, tail-eq_of_cons-eq}
use Rattle.basic_laws.specs.Truth.{or_left, or_right, and_both}
use Rattle.model_sets.specs.Sets.{has, has_m, first, first_m}
use Rattle.rules.specs.Walk.{Group, place, seq, alt, opt, plus, and, Members, one, also, Runs, more, joined, Walk, Begins}
use Rattle.rules.specs.Ambiguity.{PairAtFault}
use Rattle.and_laws.specs.Base.{mem, In, Apart, Ends, ends_append, ends_mem, mem_right, nil≢middle}
use Rattle.and_laws.specs.Sets.{Plain, Good, GoodM, walk_in}
use Rattle.and_laws.specs.Blocks.{Arr}
use Rattle.and_laws.specs.Later.{nil_parts}
use Rattle.and_laws.specs.Fold.{ends, ends_m, cross, clash, clash_m, GoesOn, Both, walk_one, begins_less, clash_both}
use Rattle.and_laws.specs.Only.{only, in_both, only_end, begins_in, ends_unique, ends_of, runs_last, SeqNext, in_g, in_h, seq_next, PlusNext, in_run, plus_next, MoreNext, own, other, more_next, own_only, own_rest, other_tail, other_only, other_begins}
use Rattle.and_laws.specs.Exact.{arr_first, begins_first, on_ends, plain_next, plus_goes, edge}

seq_clash : (g h : Group) → Good g → Apart (has g) (has h) → (p q : ℕ) → (Both g p q → clash g p q ≡ true) → (Both h p q → clash h p q ≡ true) → Both (seq g h) p q → clash (seq g h) p q ≡ true
seq_clash g h i d p q f k (s, x, y) = go (seq_next g h s p x) (seq_next g h s q y)
  where
    -- Where a place of g and one of h can both come next, g is walked.
    over : (p q : ℕ) → Begins g (s ++ p ∷ []) → (a c : List ℕ) → s ≡ a ++ c → Walk g a → Begins h (c ++ q ∷ []) → ends g p && first h q ≡ true
    over p q v a c e w b =
        let n : c ≡ [] = in_both (has g) (has h) d c (λ r j. begins_in g s (p ∷ []) v r (subst (λ (l : List ℕ). mem l r ≡ true) (sym e) (mem_right a c r j))) (begins_in h c (q ∷ []) b) in
        and_both (on_ends g i p (s, subst (Walk g) (sym (e ∙ ap (◌++◌ a) n ∙ append-nil a)) w, v)) (begins_first h q (subst (λ (l : List ℕ). Begins h (l ++ q ∷ [])) n b))

    go : SeqNext g h s p → SeqNext g h s q → clash (seq g h) p q ≡ true
    go (in_g v) (in_g w) = or_left _ (or_left _ (f (s, v, w)))
    go (in_g v) (in_h a c e w b) = or_right (clash g p q || clash h p q) (or_left _ (over p q v a c e w b))
    go (in_h a c e w b) (in_g v) = or_right (clash g p q || clash h p q) (or_right (ends g p && first h q) (over q p v a c e w b))
    go (in_h a c e w b) (in_h a2 c2 e2 w2 b2) =
        let n : c2 ≡ c = sym (only_end (has g) (has h) d a2 c2 (walk_in g a2 w2) (begins_in h c2 (q ∷ []) b2)) ∙ ap (only (has h)) (sym e2 ∙ e) ∙ only_end (has g) (has h) d a c (walk_in g a w) (begins_in h c (p ∷ []) b) in
        or_left _ (or_right (clash g p q) (k (c, b, subst (λ (l : List ℕ). Begins h (l ++ q ∷ [])) n b2)))

alt_clash : (g h : Group) → Apart (has g) (has h) → (p q : ℕ) → (Both g p q → clash g p q ≡ true) → (Both h p q → clash h p q ≡ true) → Both (alt g h) p q → clash (alt g h) p q ≡ true
alt_clash g h d p q f k (s, (a, inl x), (b, inl y)) = or_left _ (or_left _ (f (s, (a, x), (b, y))))
alt_clash g h d p q f k (s, (a, inl x), (b, inr y)) =
    let n : s ≡ [] = in_both (has g) (has h) d s (begins_in g s (p ∷ []) (a, x)) (begins_in h s (q ∷ []) (b, y)) in
    or_right (clash g p q || clash h p q) (or_left _ (and_both (begins_first g p (subst (λ (l : List ℕ). Begins g (l ++ p ∷ [])) n (a, x))) (begins_first h q (subst (λ (l : List ℕ). Begins h (l ++ q ∷ [])) n (b, y)))))
alt_clash g h d p q f k (s, (a, inr x), (b, inl y)) =
    let n : s ≡ [] = in_both (has g) (has h) d s (begins_in g s (q ∷ []) (b, y)) (begins_in h s (p ∷ []) (a, x)) in
    or_right (clash g p q || clash h p q) (or_right (first g p && first h q) (and_both (begins_first g q (subst (λ (l : List ℕ). Begins g (l ++ q ∷ [])) n (b, y))) (begins_first h p (subst (λ (l : List ℕ). Begins h (l ++ p ∷ [])) n (a, x)))))
alt_clash g h d p q f k (s, (a, inr x), (b, inr y)) = or_left _ (or_right (clash g p q) (k (s, (a, x), (b, y))))

opt_begins : (g : Group) (s : List ℕ) (p : ℕ) → Begins (opt g) (s ++ p ∷ []) → Begins g (s ++ p ∷ [])
opt_begins g [] p (t, inl n) = absurd (cons≢nil n)
opt_begins g (q ∷ s) p (t, inl n) = absurd (cons≢nil n)
opt_begins g [] p (t, inr w) = (t, w)
opt_begins g (q ∷ s) p (t, inr w) = (t, w)

plus_clash : (g : Group) → Good g → Plain g → (p q : ℕ) → (Both g p q → clash g p q ≡ true) → Both (plus g) p q → clash (plus g) p q ≡ true
plus_clash g d n p q f (s, (a, x), (b, y)) = go (plus_next g p x s a refl) (plus_next g q y s b refl)
  where
    -- The sequence s is whole walks, q begins one, and p goes on in the last.
    whole : (p q : ℕ) (r c k : List ℕ) (l : ℕ) → s ≡ r ++ [] → (r ≡ []) ⊎ Runs (Walk g) r → first g q ≡ true → s ≡ k ++ l ∷ c → Begins g ((l ∷ c) ++ p ∷ []) → ends g p && first g q ≡ true
    whole p q r c k l e (inl z) i j b = absurd (nil≢middle k l c (sym (sym j ∙ e ∙ ap (λ (o : List ℕ). o ++ []) z)))
    whole p q r c k l e (inr z) i j b = pick (plus_goes g d n s k (l ∷ c) p j (subst (Runs (Walk g)) (sym (e ∙ append-nil r)) z) b)
      where
        pick : (first g p ≡ true) ⊎ GoesOn g p → ends g p && first g q ≡ true
        pick (inl o) = and_both (on_ends g d p (again_on (ends_of l c))) i
          where
            again_on : (u : ℕ) × Ends (l ∷ c) u → GoesOn g p
            again_on (u, h) =
                let (w, v, t) = runs_last g u (subst (Runs (Walk g)) (sym (e ∙ append-nil r)) z) (rw j (ends_append k (l ∷ c) u h)) in
                (w, v, plain_next g d n u p w (l ∷ c) t h ([], rw append-nil v) b)
        pick (inr o) = and_both (on_ends g d p o) i

    go : PlusNext g s p → PlusNext g s q → clash (plus g) p q ≡ true
    go (in_run r [] e k b) (in_run r2 [] e2 k2 b2) = or_left _ (f ([], b, b2))
    go (in_run r [] e k b) (in_run r2 (l ∷ c) e2 k2 b2) = or_right (clash g p q) (or_right (ends g p && first g q) (whole q p r c r2 l e k (begins_first g p b) e2 b2))
    go (in_run r (l ∷ c) e k b) (in_run r2 [] e2 k2 b2) = or_right (clash g p q) (or_left _ (whole p q r2 c r l e2 k2 (begins_first g q b2) e b))
    go (in_run r (l ∷ c) e k b) (in_run r2 (l2 ∷ c2) e2 k2 b2) = same (ends_of l c) (ends_of l2 c2)
      where
        same : (u : ℕ) × Ends (l ∷ c) u → (u : ℕ) × Ends (l2 ∷ c2) u → clash (plus g) p q ≡ true
        same (u, i) (v, j) =
            let z : v ≡ u = ends_unique s v u (subst (λ (o : List ℕ). Ends o v) (sym e2) (ends_append r2 (l2 ∷ c2) v j)) (subst (λ (o : List ℕ). Ends o u) (sym e) (ends_append r (l ∷ c) u i)) in
            or_left _ (f (l ∷ c, b, plain_next g d n u q (l ∷ c) (l2 ∷ c2) i (subst (Ends (l2 ∷ c2)) z j) (begins_less g (l ∷ c) (p ∷ []) b) b2))

-- The place p is in a member before, and q is in the last.
more_cross : (m : Members) (g : Group) → GoodM m → Good g → Apart (has_m m) (has g) → (p q : ℕ) (s : List ℕ) → (x y : List (List ℕ)) (v : List ℕ) → s ≡ joined x ++ v → Arr Walk m (x ++ y) → Begins g (v ++ q ∷ []) → (a c : List (List ℕ)) (w v2 z : List ℕ) (y2 : List (List ℕ)) → s ≡ joined a ++ (w ++ (joined c ++ v2)) → (w ≡ []) ⊎ Walk g w → Arr Walk m ((a ++ c) ++ (v2 ++ p ∷ z) ∷ y2) → cross (first_m m p) (ends_m m p) (first g q) (ends g q) ≡ true
more_cross m g i j d p q s x y [] e o b a c w v2 z y2 e2 t o2 =
    or_left _ (and_both (edge m i p x y o (subst (λ (l : List ℕ). Begins (and m) (l ++ p ∷ [])) (own_rest m g d s q x y [] e o b) (other_begins m g d s p a c w v2 z y2 e2 t o2))) (begins_first g q b))
more_cross m g i j d p q s x y (n ∷ v) e o b a c w v2 z y2 e2 t o2 = go t (joined c ++ v2) refl
  where
    same : w ≡ n ∷ v
    same = sym (other_only m g d s p a c w v2 z y2 e2 t o2) ∙ own_only m g d s q x y (n ∷ v) e o b

    tail : In (has_m m) (joined c ++ v2)
    tail = other_tail m g d s p a c w v2 z y2 e2 t o2

    go : (w ≡ []) ⊎ Walk g w → (l : List ℕ) → joined c ++ v2 ≡ l → cross (first_m m p) (ends_m m p) (first g q) (ends g q) ≡ true
    go (inl k) l h = absurd (cons≢nil (sym same ∙ k))
    go (inr k) [] h =
        or_right ((first_m m p || ends_m m p) && first g q) (and_both (on_ends g j q (n ∷ v, subst (Walk g) same k, b)) (arr_first m p (a ++ c) z y2 (subst (λ (l : List ℕ). Arr Walk m ((a ++ c) ++ (l ++ p ∷ z) ∷ y2)) (nil_parts (joined c) v2 (sym h)).1 o2)))
    go (inr k) (h ∷ l) r = absurd (clash2 (ends_of h l) (ends_of n v))
      where
        clash2 : (u : ℕ) × Ends (h ∷ l) u → (u : ℕ) × Ends (n ∷ v) u → ⊥
        clash2 (u, f) (u2, f2) =
            let same_last : u ≡ u2 = ends_unique s u u2 (subst (λ (o : List ℕ). Ends o u) (sym (e2 ∙ ap (λ (o : List ℕ). joined a ++ (w ++ o)) r)) (ends_append (joined a) (w ++ h ∷ l) u (ends_append w (h ∷ l) u f))) (subst (λ (o : List ℕ). Ends o u2) (sym e) (ends_append (joined x) (n ∷ v) u2 f2)) in
            d u (tail u (subst (λ (o : List ℕ). mem o u ≡ true) (sym r) (ends_mem (h ∷ l) u f))) (subst (λ (o : ℕ). has g o ≡ true) (sym same_last) (begins_in g (n ∷ v) (q ∷ []) b u2 (ends_mem (n ∷ v) u2 f2)))

more_clash : (m : Members) (g : Group) → GoodM m → Good g → Apart (has_m m) (has g) → (p q : ℕ) → (Both (and m) p q → clash_m m p q ≡ true) → (Both g p q → clash g p q ≡ true) → Both (and (also m g)) p q → clash_m (also m g) p q ≡ true
more_clash m g i j d p q f k (s, x, y) = go (more_next m g s p x) (more_next m g s q y)
  where
    go : MoreNext m g s p → MoreNext m g s q → clash_m (also m g) p q ≡ true
    go (own x y v e o b) (own x2 y2 v2 e2 o2 b2) =
        let n : v2 ≡ v = sym (own_only m g d s q x2 y2 v2 e2 o2 b2) ∙ own_only m g d s p x y v e o b in
        or_left _ (or_right (clash_m m p q) (k (v, b, subst (λ (l : List ℕ). Begins g (l ++ q ∷ [])) n b2)))
    go (own x y v e o b) (other a c w v2 z y2 e2 t o2) =
        or_right (clash_m m p q || clash g p q) (or_right (cross (first_m m p) (ends_m m p) (first g q) (ends g q)) (more_cross m g i j d q p s x y v e o b a c w v2 z y2 e2 t o2))
    go (other a c w v2 z y2 e2 t o2) (own x y v e o b) =
        or_right (clash_m m p q || clash g p q) (or_left _ (more_cross m g i j d p q s x y v e o b a c w v2 z y2 e2 t o2))
    go (other a c w v z y e t o) (other a2 c2 w2 v2 z2 y2 e2 t2 o2) =
        or_left _ (or_left _ (f (only (has_m m) s, other_begins m g d s p a c w v z y e t o, other_begins m g d s q a2 c2 w2 v2 z2 y2 e2 t2 o2)))

place_clash : (n p q : ℕ) → Both (place n) p q → eqb n p && eqb n q ≡ true
place_clash n p q ([], (a, x), (b, y)) = and_both (eq-eqb n p (sym (head-eq_of_cons-eq x))) (eq-eqb n q (sym (head-eq_of_cons-eq y)))
place_clash n p q (r ∷ [], (a, x), (b, y)) = absurd (cons≢nil (tail-eq_of_cons-eq x))
place_clash n p q (r ∷ (h ∷ s), (a, x), (b, y)) = absurd (cons≢nil (tail-eq_of_cons-eq x))

mutual
  pub both_clash : (g : Group) → Good g → (p q : ℕ) → Both g p q → clash g p q ≡ true
  both_clash (place n) d p q x = place_clash n p q x
  both_clash (seq g h) (d, k, a) p q x = seq_clash g h d a p q (λ x. both_clash g d p q x) (λ x. both_clash h k p q x) x
  both_clash (alt g h) (d, k, a) p q x = alt_clash g h a p q (λ x. both_clash g d p q x) (λ x. both_clash h k p q x) x
  both_clash (opt g) d p q (s, x, y) = both_clash g d p q (s, opt_begins g s p x, opt_begins g s q y)
  both_clash (plus g) (d, n) p q x = plus_clash g d n p q (λ x. both_clash g d p q x) x
  both_clash (and m) d p q x = both_m_clash m d p q x

  pub both_m_clash : (m : Members) → GoodM m → (p q : ℕ) → Both (and m) p q → clash_m m p q ≡ true
  both_m_clash (one g) d p q (s, (a, x), (b, y)) = both_clash g d p q (s, (a, walk_one g ((s ++ p ∷ []) ++ a) x), (b, walk_one g ((s ++ q ∷ []) ++ b) y))
  both_m_clash (also m g) (d, k, a) p q x = more_clash m g d k a p q (λ x. both_m_clash m d p q x) (λ x. both_clash g k p q x) x

-- The fold is exact, with no order listed.
pub pair_exact : (g : Group) → Good g → (p q : ℕ) → (clash g p q ≡ true) ↔ Both g p q
pair_exact g d p q = (clash_both g p q, both_clash g d p q)

-- The pair at fault as the rules define it.
pub fault_clash : (same : ℕ → ℕ → Bool) (g : Group) → Good g → (p q : ℕ) → PairAtFault same g p q → (p < q) × (same p q ≡ true) × (clash g p q ≡ true)
fault_clash same g d p q (l, e, s, x, y) = (l, e, both_clash g d p q (s, x, y))

pub clash_fault : (same : ℕ → ℕ → Bool) (g : Group) (p q : ℕ) → p < q → same p q ≡ true → clash g p q ≡ true → PairAtFault same g p q
clash_fault same g p q l e c = let (s, x, y) = clash_both g p q c in (l, e, s, x, y)
