-- The search of a model's tables finds the model's first pair at fault, in the rules' terms.
use Rattle.std.specs.Prelude.{ℕ, zero, suc, ◌≤◌, ◌≡◌, Bool, true, false, ◌&&◌, List, [], ◌∷◌, ◌++◌, eqb}
use Rattle.std.proofs.Common.{sym, subst, ◌∙◌, inl, inr, append_assoc, arith, eqb-true}
use Rattle.std.proofs.Math.Path.{ap}
use Rattle.std.proofs.Math.Decide.{ℕ_discrete}
use Rattle.rules.specs.Walk.{Group, place, seq, alt, opt, plus, and, once, Walk, Begins, last_or0}
use Rattle.rules.specs.Ambiguity.{PairAtFault, FirstPair}
use Rattle.rules.specs.Judge.{same_place}
use Rattle.rules.specs.Bytes.{GRPGTCNT}
use Rattle.layout.specs.Sizes.{CODE}
use Rattle.basic_laws.specs.Truth.{and_left, and_right, and_both, or_cases, or_left, or_right, eqb_bit}
use Rattle.model_sets.specs.Sets.{size, Numbered, has, next_in}
use Rattle.model_sets.specs.Search.{search_pair}
use Rattle.and_laws.specs.Sets.{Plain}
use Rattle.and_laws.specs.Numbers.{Guarded, numbered_good}
use Rattle.and_laws.specs.Fold.{clash, some_walk}
use Rattle.and_laws.specs.Pairs.{both_clash}
use Rattle.and_laws.specs.Begun.{begins_none, last_or0_snoc, next_of_lem, next_last}
use Rattle.and_laws.specs.First.{clash_row, first_pair_of, first_pair_of_none, first_pair_of_is}
use Rattle.model_table.specs.Shows.{Says}
use Rattle.model_names.specs.Places.{places_of}
use Rattle.model_code.specs.Spelled.{codes, code_in, told_clash}
use Rattle.model_pairs.specs.Rows.{row_in, clash_in, Tells, fault_in}
use Rattle.and_laws.specs.Rows.{follow_from}

row_clash : (next : ℕ → ℕ → Bool) (n p q u : ℕ) → u ≤ n → next u p ≡ true → next u q ≡ true → clash_in next n p q ≡ true
row_clash next zero p q u l a b = let z : u ≡ 0 = omega arith in and_both (rw z at a) (rw z at b)
row_clash next (suc n) p q u l a b = go (ℕ_discrete u (suc n)) (λ k. row_clash next n p q u k a b)
  where
    go : Dec (u ≡ suc n) → (u ≤ n → clash_in next n p q ≡ true) → clash_in next (suc n) p q ≡ true
    go (yes z) f = or_right (clash_in next n p q) (and_both (rw z at a) (rw z at b))
    go (no ne) f = or_left _ (f (omega arith))

clash_both : (next : ℕ → ℕ → Bool) (n p q : ℕ) → clash_in next n p q ≡ true → (u : ℕ) × (u ≤ n) × (next u p ≡ true) × (next u q ≡ true)
clash_both next zero p q e = (0, omega arith, and_left (next 0 p) _ e, and_right (next 0 p) _ e)
clash_both next (suc n) p q e =
    or_cases
    (clash_in next n p q)
    _
    (λ x. let (u, l, a, b) = clash_both next n p q x in (u, omega arith, a, b))
    (λ y. (suc n, omega arith, and_left (next (suc n) p) _ y, and_right (next (suc n) p) _ y))
    e

-- Without "&", every place is passed by a walk.
abbrev Through : Group → ℕ → Type 0
Through g p = (s : List ℕ) × (t : List ℕ) × Walk g (s ++ p ∷ t)

through_first : (g h : Group) (p : ℕ) → Through g p → Through (seq g h) p
through_first g h p (s, t, x) =
    let (v, y) = some_walk h in
    (s, t ++ v, (s ++ p ∷ t, v, rw append_assoc, x, y))

through_second : (g h : Group) (p : ℕ) → Through h p → Through (seq g h) p
through_second g h p (s, t, y) =
    let (v, x) = some_walk g in
    (v ++ s, t, (v, s ++ p ∷ t, rw append_assoc, x, y))

through : (g : Group) → Plain g → (p : ℕ) → has g p ≡ true → Through g p
through (place n) b p i = ([], [], rw (eqb-true n p i))
through (seq g h) b p i = or_cases (has g p) (has h p) (λ x. through_first g h p (through g b.0 p x)) (λ y. through_second g h p (through h b.1 p y)) i
through (alt g h) b p i = or_cases (has g p) (has h p) (λ x. let (s, t, w) = through g b.0 p x in (s, t, inl w)) (λ y. let (s, t, w) = through h b.1 p y in (s, t, inr w)) i
through (opt g) b p i = let (s, t, w) = through g b p i in (s, t, inr w)
through (plus g) b p i = let (s, t, w) = through g b p i in (s, t, once w)
through (and m) b p i = absurd b

-- Without "&", two places in one row can both come next after a beginning that ends in its place.
module _ (g : Group) (numbered : Numbered g 1) (guarded : Guarded g) (plain : Plain g) where
  begun_both : (s : List ℕ) → Begins g s → (p q : ℕ) → next_in g (last_or0 s) p ≡ true → next_in g (last_or0 s) q ≡ true → clash g p q ≡ true
  begun_both s b p q x y =
      both_clash g (numbered_good g 1 numbered guarded) p q (
        s,
        (next_of_lem g numbered guarded s b p).0 (next_last g numbered guarded plain s b p ∙ x),
        (next_of_lem g numbered guarded s b q).0 (next_last g numbered guarded plain s b q ∙ y),
      )

  row_both : (u p q : ℕ) → next_in g u p ≡ true → next_in g u q ≡ true → clash g p q ≡ true
  row_both zero p q x y = begun_both [] (begins_none g) p q x y
  row_both (suc u) p q x y =
      let (s, t, w) = through g plain (suc u) (follow_from g (suc u) p x) in
      let e : last_or0 (s ++ suc u ∷ []) ≡ suc u = last_or0_snoc s (suc u) in
      begun_both (s ++ suc u ∷ []) (t, rw append_assoc w) p q (ap (λ (v : ℕ). next_in g v p) e ∙ x) (ap (λ (v : ℕ). next_in g v q) e ∙ y)

-- The table says in its rows what is computed of the group g, and spells g behind them; g is without "&" where that is said.
pub record Holds (table : List ℕ) (g : Group) (n code : ℕ) (has_and : Bool) : Type 0 where
  pub numbered : Numbered g 1
  pub guarded : Guarded g
  pub sized : size g ≡ n
  pub few : n ≤ GRPGTCNT
  pub says : Says g table
  pub room : code ≤ CODE
  pub spelled : code_in table code ≡ codes g
  pub plain : has_and ≡ false → Plain g

module _ (table : List ℕ) (g : Group) (n code : ℕ) (has_and : Bool) (holds : Holds table g n code has_and) where
  -- A row of the table says what may come next.
  row_says : (u p : ℕ) → u ≤ n → 1 ≤ p → p ≤ n → row_in table u p ≡ next_in g u p
  row_says u p u_to p_from p_to =
      let few = holds.few in
      let sized = holds.sized in
      ap (λ (x : ℕ). eqb x 1) (holds.says.next u p (omega arith) p_from (omega arith)) ∙ eqb_bit (next_in g u p)

  pub tells : Tells table n code has_and (clash g)
  tells =
      record {
        near = λ p q from less to e.
            let (u, l, a, b) = clash_row (λ x y. true) g holds.numbered holds.guarded p q e in
            let h : u ≤ n = subst (λ (m : ℕ). u ≤ m) holds.sized l in
            row_clash (row_in table) n p q u h (row_says u p h from (omega arith) ∙ a) (row_says u q h (omega arith) to ∙ b);
        plain = λ is p q from less to e.
            let (u, l, a, b) = clash_both (row_in table) n p q e in
            row_both g holds.numbered holds.guarded (holds.plain is) u p q (sym (row_says u p l from (omega arith)) ∙ a) (sym (row_says u q l (omega arith) to) ∙ b);
        exact = λ is p q from less to r told. told_clash p q table code g holds.room holds.spelled holds.numbered (omega (arith, holds.sized, holds.few)) r told;
      }

  -- The two numbers that `first_pair` answers.
  module _ (s names : List ℕ) (p q : ℕ) (answered : (F : ℕ → ℕ → Bool) → Tells table n code has_and F → (p, q) ≡ search_pair (fault_in s names F n) n) where
    found : (p, q) ≡ first_pair_of (same_place s (places_of names n)) g
    unfolding fault_in
    found = answered (clash g) tells ∙ ap (search_pair (λ a b. same_place s (places_of names n) a b && clash g a b)) (sym holds.sized)

    -- No pair is found: none is at fault.
    pub answer_none : p ≡ 0 → (a b : ℕ) → PairAtFault (same_place s (places_of names n)) g a b → ⊥
    answer_none z = first_pair_of_none (same_place s (places_of names n)) g holds.numbered holds.guarded (ap (λ (r : ℕ × ℕ). r.0) (sym found) ∙ z)

    -- A pair is found: it is the first at fault.
    pub answer_first : 1 ≤ p → FirstPair (same_place s (places_of names n)) g p q
    answer_first = first_pair_of_is (same_place s (places_of names n)) g holds.numbered holds.guarded p q (sym found)
