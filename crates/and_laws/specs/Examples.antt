-- Examples: (A & B) has exactly AB and BA; (A & B & C) exactly its six, ACB among them, which ((A & B) & C) lacks; folds compute.
use Rattle.std.specs.Prelude.{ℕ, ◌≡◌, refl, true, false, ◌⊎◌}
use Rattle.std.proofs.Common.{sym, ◌∙◌, ap, inl, inr}
use Rattle.std.proofs.lemmas.Bool.{false≢true}
use mathlib.Core.List.{List, [], ◌∷◌, ◌++◌, head-eq_of_cons-eq, tail-eq_of_cons-eq}
use Rattle.rules.specs.Walk.{Group, place, seq, and, Members, one, also, joined, Walk, Orders}
use Rattle.and_laws.specs.Base.{mem, ends_snoc}
use Rattle.and_laws.specs.Sets.{Good}
use Rattle.and_laws.specs.Later.{nil_parts}
use Rattle.and_laws.specs.Fold.{clash}
use Rattle.and_laws.specs.Decide.{fit, done, passes_after, left_fit}
use Rattle.and_laws.specs.Left.{walk_left}
use Rattle.and_laws.specs.Numbers.{numbered_good}

-- These laws say where a list of one or of two can be cut.
cut_one : {A : Type 0} (x : A) (a b : List A) → a ++ b ≡ x ∷ [] → ((a ≡ []) × (b ≡ x ∷ [])) ⊎ ((a ≡ x ∷ []) × (b ≡ []))
cut_one x [] b e = inl (refl, e)
cut_one x (y ∷ a) b e = let (i, j) = nil_parts a b (sym (tail-eq_of_cons-eq e)) in inr (rw (head-eq_of_cons-eq e, i), j)

cut_two : {A : Type 0} (x y : A) (a b : List A) → a ++ b ≡ x ∷ (y ∷ []) → ((a ≡ []) × (b ≡ x ∷ (y ∷ []))) ⊎ (((a ≡ x ∷ []) × (b ≡ y ∷ [])) ⊎ ((a ≡ x ∷ (y ∷ [])) × (b ≡ [])))
cut_two x y [] b e = inl (refl, e)
cut_two {A} x y (z ∷ a) b e = up (cut_one y a b (tail-eq_of_cons-eq e)) (head-eq_of_cons-eq e)
  where
    up : ((a ≡ []) × (b ≡ y ∷ [])) ⊎ ((a ≡ y ∷ []) × (b ≡ [])) → z ≡ x → ((z ∷ a ≡ []) × (b ≡ x ∷ (y ∷ []))) ⊎ (((z ∷ a ≡ x ∷ []) × (b ≡ y ∷ [])) ⊎ ((z ∷ a ≡ x ∷ (y ∷ [])) × (b ≡ [])))
    up (inl (i, j)) h = inr (inl (rw (i, h), j))
    up (inr (i, j)) h = inr (inr (rw (i, h), j))

abbrev ab : Members
ab = also (one (place 1)) (place 2)

abbrev pub TwoOrders : List (List ℕ) → Type 0
TwoOrders bs = (bs ≡ (1 ∷ []) ∷ ((2 ∷ []) ∷ [])) ⊎ (bs ≡ (2 ∷ []) ∷ ((1 ∷ []) ∷ []))

ab_orders : (bs : List (List ℕ)) → Orders ab bs → TwoOrders bs
ab_orders bs (a, b, w, e, (v, q, x), y) = go (cut_one v a b q)
  where
    go : ((a ≡ []) × (b ≡ v ∷ [])) ⊎ ((a ≡ v ∷ []) × (b ≡ [])) → TwoOrders bs
    go (inl (i, j)) = inr (e ∙ rw (i, j, x, y))
    go (inr (i, j)) = inl (e ∙ rw (i, j, x, y))

pub ab_walks : (w : List ℕ) → Walk (and ab) w → (w ≡ 1 ∷ (2 ∷ [])) ⊎ (w ≡ 2 ∷ (1 ∷ []))
ab_walks w (bs, e, o) = go (ab_orders bs o)
  where
    go : TwoOrders bs → (w ≡ 1 ∷ (2 ∷ [])) ⊎ (w ≡ 2 ∷ (1 ∷ []))
    go (inl q) = inl (e ∙ ap joined q)
    go (inr q) = inr (e ∙ ap joined q)

pub walk_ab : Walk (and ab) (1 ∷ (2 ∷ [])) × Walk (and ab) (2 ∷ (1 ∷ []))
walk_ab = (
  ((1 ∷ []) ∷ ((2 ∷ []) ∷ []), refl, ((1 ∷ []) ∷ [], [], 2 ∷ [], refl, (1 ∷ [], refl, refl), refl)),
  ((2 ∷ []) ∷ ((1 ∷ []) ∷ []), refl, ([], (1 ∷ []) ∷ [], 2 ∷ [], refl, (1 ∷ [], refl, refl), refl)),
)

abbrev abc : Members
abc = also ab (place 3)

abbrev pub Six : List ℕ → Type 0
Six w =
    ((w ≡ 3 ∷ (1 ∷ (2 ∷ []))) ⊎ ((w ≡ 1 ∷ (3 ∷ (2 ∷ []))) ⊎ (w ≡ 1 ∷ (2 ∷ (3 ∷ [])))))
    ⊎ ((w ≡ 3 ∷ (2 ∷ (1 ∷ []))) ⊎ ((w ≡ 2 ∷ (3 ∷ (1 ∷ []))) ⊎ (w ≡ 2 ∷ (1 ∷ (3 ∷ [])))))

pub abc_walks : (w : List ℕ) → Walk (and abc) w → Six w
abc_walks w (bs, e, (a, b, v, q, o, y)) = go (ab_orders (a ++ b) o)
  where
    left : ((a ≡ []) × (b ≡ (1 ∷ []) ∷ ((2 ∷ []) ∷ []))) ⊎ (((a ≡ (1 ∷ []) ∷ []) × (b ≡ (2 ∷ []) ∷ [])) ⊎ ((a ≡ (1 ∷ []) ∷ ((2 ∷ []) ∷ [])) × (b ≡ []))) → Six w
    left (inl (i, j)) = inl (inl (e ∙ ap joined q ∙ rw (i, j, y)))
    left (inr (inl (i, j))) = inl (inr (inl (e ∙ ap joined q ∙ rw (i, j, y))))
    left (inr (inr (i, j))) = inl (inr (inr (e ∙ ap joined q ∙ rw (i, j, y))))

    right : ((a ≡ []) × (b ≡ (2 ∷ []) ∷ ((1 ∷ []) ∷ []))) ⊎ (((a ≡ (2 ∷ []) ∷ []) × (b ≡ (1 ∷ []) ∷ [])) ⊎ ((a ≡ (2 ∷ []) ∷ ((1 ∷ []) ∷ [])) × (b ≡ []))) → Six w
    right (inl (i, j)) = inr (inl (e ∙ ap joined q ∙ rw (i, j, y)))
    right (inr (inl (i, j))) = inr (inr (inl (e ∙ ap joined q ∙ rw (i, j, y))))
    right (inr (inr (i, j))) = inr (inr (inr (e ∙ ap joined q ∙ rw (i, j, y))))

    go : TwoOrders (a ++ b) → Six w
    go (inl i) = left (cut_two (1 ∷ []) (2 ∷ []) a b i)
    go (inr i) = right (cut_two (2 ∷ []) (1 ∷ []) a b i)

pub walk_acb : Walk (and abc) (1 ∷ (3 ∷ (2 ∷ [])))
walk_acb =
    ((1 ∷ []) ∷ ((3 ∷ []) ∷ ((2 ∷ []) ∷ [])), refl, ((1 ∷ []) ∷ [], (2 ∷ []) ∷ [], 3 ∷ [], refl, ((1 ∷ []) ∷ [], [], 2 ∷ [], refl, (1 ∷ [], refl, refl), refl), refl))

abbrev nested : Members
nested = also (one (and ab)) (place 3)

nested_good : Good (and nested)
nested_good = numbered_good (and nested) 1 ((refl, refl), refl) ((refl, refl), refl)

pub nested_lacks : Walk (and nested) (1 ∷ (3 ∷ (2 ∷ []))) → ⊥
nested_lacks w = false≢true (left_fit (and nested) nested_good 1 (mem (1 ∷ [])) 3 (2 ∷ []) (walk_left (and nested) nested_good 1 (mem (1 ∷ [])) (1 ∷ []) (3 ∷ (2 ∷ [])) (ends_snoc [] 1) (λ p i. (λ j. j, λ j. j)) w))

-- ((A, C) & B): after A, C comes next and must, B may not; B and C never come next together, A and B do.
abbrev acb : Group
acb = and (also (one (seq (place 1) (place 2))) (place 3))

pub after_a : (fit acb 1 (mem (1 ∷ [])) 2 ≡ true) × (fit acb 1 (mem (1 ∷ [])) 3 ≡ false) × (passes_after acb 1 (mem (1 ∷ [])) 2 ≡ true) × (done acb 1 (mem (1 ∷ [])) ≡ false)
after_a = (refl, refl, refl, refl)

pub pairs_of : (clash acb 2 3 ≡ false) × (clash acb 1 3 ≡ true)
pairs_of = (refl, refl)

-- 32 members: judged by one pass over 32, not over 32! orders.
abbrev members : List ℕ → Group → Members
members [] g = one g
members (n ∷ s) g = also (members s g) (place n)

abbrev many : Group
many = and (members (2 ∷ (3 ∷ (4 ∷ (5 ∷ (6 ∷ (7 ∷ (8 ∷ (9 ∷ (10 ∷ (11 ∷ (12 ∷ (13 ∷ (14 ∷ (15 ∷ (16 ∷ (17 ∷ (18 ∷ (19 ∷ (20 ∷ (21 ∷ (22 ∷ (23 ∷ (24 ∷ (25 ∷ (26 ∷ (27 ∷ (28 ∷ (29 ∷ (30 ∷ (31 ∷ (32 ∷ []))))))))))))))))))))))))))))))) (place 1))

pub many_clash : (clash many 1 32 ≡ true) × (fit many 7 (mem (3 ∷ (7 ∷ []))) 3 ≡ false) × (fit many 7 (mem (3 ∷ (7 ∷ []))) 4 ≡ true)
many_clash = (refl, refl, refl)
