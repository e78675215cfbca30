-- The table of a content model says which places may come next, where the content is complete, and which place is required.
use Prim.Native.Nat.{ℕ, zero, suc, ◌+◌, ◌*◌, ◌≤◌, ◌<◌}
use Rattle.std.specs.Prelude.{◌≡◌, refl, Bool, true, false, ◌&&◌, ◌||◌, not, cond, List, length, get_or, set}
use Rattle.std.proofs.Common.{sym, ap, ◌∙◌, ⊎_elim, arith, eq-eqb}
use Rattle.std.proofs.Math.Bool.{and-true, or_comm, or_assoc}
use Rattle.std.proofs.Math.ListN.{length-set}
use Rattle.std.proofs.Math.Seq.{get_or-set_same, get_or-set_other}
use Rattle.basic_laws.specs.Numbers.{below_or_from}
use Rattle.rules.specs.Walk.{Group, place, seq, alt, plus}
use Rattle.rules.specs.Bytes.{GRPGTCNT}
use Rattle.layout.specs.Sizes.{MODEL_ROW, MODEL_ROWS, MODEL, POSITIONS}
use Rattle.model_sets.specs.Sets.{size, Numbered, has, nullable, first, last, follow, required_first, required_after, next_in, complete_in, required_in}
use Rattle.model_links.specs.Links.{link, settle, clear_row, unbegin}
use Rattle.model_table.specs.Fill.{put_place, close_ends, close_starts, join_seq, join_and, part_of, finished}
use Rattle.model_links.specs.Cells.{bit, Linked, linked, linked_same, linked_end, cond_and_false, Settled, settled, Cleared, cleared_row, unbegun}
use Rattle.model_table.specs.Places.{none_first, none_last, none_follow, has_under, has_over}
use Rattle.model_sets.specs.Numbering.{has_inside}

-- S says of the places [lo, hi) in row 0 F, in column 0 L, in the columns between N and in the last column M. What T says of other places in
-- row 0, and in the rows before, S says too.
pub record Shows (lo hi : ℕ) (T S : List ℕ) (F L : ℕ → Bool) (N : ℕ → ℕ → Bool) (M : ℕ → ℕ) : Type 0 where
  pub len : length S ≡ MODEL
  pub under : (k : ℕ) → k < lo → get_or S k 0 ≡ get_or T k 0
  pub between : (k : ℕ) → hi ≤ k → k < lo * MODEL_ROW → get_or S k 0 ≡ get_or T k 0
  pub begins : (p : ℕ) → lo ≤ p → p < hi → get_or S p 0 ≡ bit (F p)
  pub ends : (u : ℕ) → lo ≤ u → u < hi → get_or S (u * MODEL_ROW) 0 ≡ bit (L u)
  pub follows : (u p : ℕ) → lo ≤ u → u < hi → 1 ≤ p → p < POSITIONS → get_or S (u * MODEL_ROW + p) 0 ≡ bit (N u p)
  pub requires : (u : ℕ) → lo ≤ u → u < hi → get_or S (u * MODEL_ROW + POSITIONS) 0 ≡ M u

-- S says of the places of g what is computed of g.
abbrev pub Filled : Group → ℕ → List ℕ → List ℕ → Type 0
Filled g lo T S = Shows lo (lo + size g) T S (first g) (last g) (follow g) (required_after g)

-- What S says, R says too, if its rows are those of S.
pub shows_same : {lo hi : ℕ} {T S : List ℕ} {F L : ℕ → Bool} {N : ℕ → ℕ → Bool} {M : ℕ → ℕ} (R : List ℕ) → lo ≤ POSITIONS → hi ≤ POSITIONS → length R ≡ MODEL → ((k : ℕ) → k < MODEL_ROWS → get_or R k 0 ≡ get_or S k 0)
    → Shows lo hi T S F L N M → Shows lo hi T R F L N M
shows_same R lo_to hi_to l same s =
    record {
      len = l;
      under = λ k lt. same k (omega arith) ∙ s.under k lt;
      between = λ k le lt. same k (omega arith) ∙ s.between k le lt;
      begins = λ p ge lt. same p (omega arith) ∙ s.begins p ge lt;
      ends = λ u ge lt. same (u * MODEL_ROW) (omega arith) ∙ s.ends u ge lt;
      follows = λ u p ge lt p_from p_to. same (u * MODEL_ROW + p) (omega arith) ∙ s.follows u p ge lt p_from p_to;
      requires = λ u ge lt. same (u * MODEL_ROW + POSITIONS) (omega arith) ∙ s.requires u ge lt;
    }

-- A place alone fills its row.
pub placed : (n lo : ℕ) (T : List ℕ) → 1 ≤ lo → lo + 1 ≤ POSITIONS → n ≡ lo → length T ≡ MODEL → Filled (place n) lo T (put_place T n)
placed n lo T from to e l =
    let R : List ℕ = clear_row T n in
    let r : Cleared T (n * MODEL_ROW) R (n * MODEL_ROW + MODEL_ROW) = cleared_row T n l (omega arith) in
    let S : List ℕ = set R n 1 in
    let m : length S ≡ MODEL = length-set R n 1 ∙ r.len in
    let else : (k : ℕ) → (k ≡ n → ⊥) → (k ≡ n * MODEL_ROW → ⊥) → get_or (set S (n * MODEL_ROW) 1) k 0 ≡ get_or R k 0 =
    λ k x y. get_or-set_other S (n * MODEL_ROW) k 1 0 y ∙ get_or-set_other R n k 1 0 x in
    record {
      len = length-set S (n * MODEL_ROW) 1 ∙ m;
      under = λ k lt. else k (omega arith) (omega arith) ∙ r.under k (omega arith);
      between = λ k le lt. else k (omega arith) (omega arith) ∙ r.under k (omega arith);
      begins =
          λ p ge lt.
          let q : p ≡ n = omega arith in
          rw (q, eq-eqb n n refl) (get_or-set_other S (n * MODEL_ROW) n 1 0 (omega arith) ∙ get_or-set_same R n 1 0 (omega (arith, r.len)));
      ends =
          λ u ge lt.
          let q : u ≡ n = omega arith in
          rw (q, eq-eqb n n refl) (get_or-set_same S (n * MODEL_ROW) 1 0 (omega arith));
      follows = λ u p ge lt p_from p_to. else (u * MODEL_ROW + p) (omega arith) (omega arith) ∙ r.none (u * MODEL_ROW + p) (omega arith) (omega arith);
      requires = λ u ge lt. else (u * MODEL_ROW + POSITIONS) (omega arith) (omega arith) ∙ r.none (u * MODEL_ROW + POSITIONS) (omega arith) (omega arith);
    }

only_left : (a b : Bool) → b ≡ false → a ≡ (a || b)
only_left true b e = refl
only_left false b e = sym e

only_right : (a b : Bool) → a ≡ false → b ≡ (a || b)
only_right a b e = rw e

-- A 1 written on a condition adds to what is there.
cond_or : (x a : Bool) → cond x 1 (bit a) ≡ bit (a || x)
cond_or true true = refl
cond_or true false = refl
cond_or false true = refl
cond_or false false = refl

or_and_false : (a b c : Bool) → b ≡ false → a ≡ (a || (b && c))
or_and_false true b c e = refl
or_and_false false b c e = rw e

-- A group g of [lo, mid) and a group h of [mid, hi), one after the other.
module _ (g h : Group) (lo : ℕ) (from : 1 ≤ lo) (to : lo + size g + size h ≤ POSITIONS) (gn : Numbered g lo) (hn : Numbered h (lo + size g)) where
  no_g : (p : ℕ) → lo + size g ≤ p → has g p ≡ false
  no_g p ge = has_over g lo p gn ge

  no_h : (p : ℕ) → p < lo + size g → has h p ≡ false
  no_h p lt = has_under h (lo + size g) p hn lt

  -- What holds of a place of g and of a place of h holds of a place of both.
  on_both : (P : ℕ → Type 0)
      → ((p : ℕ) → lo ≤ p → p < lo + size g → P p)
      → ((p : ℕ) → lo + size g ≤ p → p < lo + size g + size h → P p)
      → (p : ℕ) → lo ≤ p → p < lo + (size g + size h) → P p
  on_both P in_g in_h p ge lt =
      ⊎_elim (λ (x : p < lo + size g). in_g p ge x) (λ (x : lo + size g ≤ p). in_h p x (omega arith)) (below_or_from p (lo + size g))

  pub both : (T R S : List ℕ) → Filled g lo T R → Filled h (lo + size g) R S → Filled (alt g h) lo T S
  both T R S fg fh =
      record {
        len = fh.len;
        under = λ k lt. fh.under k (omega arith) ∙ fg.under k lt;
        between = λ k le lt. fh.between k (omega arith) (omega arith) ∙ fg.between k (omega arith) lt;
        begins =
            on_both (λ (p : ℕ). get_or S p 0 ≡ bit (first g p || first h p))
            (λ p ge lt. fh.under p lt ∙ fg.begins p ge lt ∙ ap bit (only_left (first g p) (first h p) (none_first h p (no_h p lt))))
            (λ p ge lt. fh.begins p ge lt ∙ ap bit (only_right (first g p) (first h p) (none_first g p (no_g p ge))));
        ends =
            on_both (λ (u : ℕ). get_or S (u * MODEL_ROW) 0 ≡ bit (last g u || last h u))
            (λ u ge lt.
            fh.between (u * MODEL_ROW) (omega arith) (omega arith)
            ∙ fg.ends u ge lt
            ∙ ap bit (only_left (last g u) (last h u) (none_last h u (no_h u lt))))
            (λ u ge lt. fh.ends u ge lt ∙ ap bit (only_right (last g u) (last h u) (none_last g u (no_g u ge))));
        follows =
            λ u p ge lt p_from p_to.
            on_both (λ (v : ℕ). get_or S (v * MODEL_ROW + p) 0 ≡ bit (follow g v p || follow h v p))
            (λ v ve vt.
            fh.between (v * MODEL_ROW + p) (omega arith) (omega arith)
            ∙ fg.follows v p ve vt p_from p_to
            ∙ ap bit (only_left (follow g v p) (follow h v p) (none_follow h v p (no_h v vt))))
            (λ v ve vt. fh.follows v p ve vt p_from p_to ∙ ap bit (only_right (follow g v p) (follow h v p) (none_follow g v p (no_g v ve))))
            u ge lt;
        requires =
            on_both (λ (u : ℕ). get_or S (u * MODEL_ROW + POSITIONS) 0 ≡ cond (has h u) (required_after h u) (required_after g u))
            (λ u ge lt. rw (no_h u lt) (fh.between (u * MODEL_ROW + POSITIONS) (omega arith) (omega arith) ∙ fg.requires u ge lt))
            (λ u ge lt. rw (has_inside h (lo + size g) u hn ge lt) (fh.requires u ge lt));
      }

  -- Where g can end and h can begin, h follows g.
  module _ (T S : List ℕ) (s : Filled (alt g h) lo T S) where
    row_0 : (p : ℕ) → lo + size g ≤ p → p < lo + size g + size h → get_or S p 0 ≡ bit (first h p)
    row_0 p ge lt = s.begins p (omega arith) (omega arith) ∙ ap bit (sym (only_right (first g p) (first h p) (none_first g p (no_g p ge))))

    column_0 : (u : ℕ) → lo ≤ u → u < lo + size g → get_or S (u * MODEL_ROW) 0 ≡ bit (last g u)
    column_0 u ge lt = s.ends u ge (omega arith) ∙ ap bit (sym (only_left (last g u) (last h u) (none_last h u (no_h u lt))))

    R : List ℕ
    R = link S lo (lo + size g) (lo + size g) (lo + size g + size h)

    r : Linked (first h) (last g) S lo R (lo + size g)
    unfolding R
    r =
        linked (first h) (lo + size g) (lo + size g + size h) (omega arith) to
        (λ p lt. none_first h p (no_h p lt))
        (λ p ge. none_first h p (has_over h (lo + size g) p hn ge))
        (last g) S lo (lo + size g) s.len from (omega arith) (omega arith) row_0 column_0

    first_h_0 : first h 0 ≡ false
    first_h_0 = none_first h 0 (no_h 0 (omega arith))

    first_h_last : first h POSITIONS ≡ false
    first_h_last = none_first h POSITIONS (has_over h (lo + size g) POSITIONS hn to)

    in_sequence : Shows lo (lo + (size g + size h)) T R (first (alt g h)) (last (alt g h)) (follow (seq g h)) (required_after (alt g h))
    in_sequence =
        record {
          len = r.len;
          under = λ k lt. r.rows_before k (omega arith) ∙ s.under k lt;
          between = λ k le lt. r.rows_before k lt ∙ s.between k le lt;
          begins = λ p ge lt. r.rows_before p (omega arith) ∙ s.begins p ge lt;
          ends =
              λ u ge lt.
              ⊎_elim (λ (x : u < lo + size g). linked_end (first h) (last g) S lo R (lo + size g) r u ge x first_h_0 ∙ s.ends u ge lt)
              (λ (x : lo + size g ≤ u). r.rows_after (u * MODEL_ROW) (omega arith) ∙ s.ends u ge lt)
              (below_or_from u (lo + size g));
          follows =
              λ u p ge lt p_from p_to.
              ⊎_elim
              (λ (x : u < lo + size g).
              r.row u p ge x (omega arith)
              ∙ ap (λ (y : ℕ). cond (last g u && first h p) 1 y) (s.follows u p ge lt p_from p_to)
              ∙ cond_or (last g u && first h p) (follow g u p || follow h u p)
              ∙ ap bit (or_assoc (follow g u p) (follow h u p) (last g u && first h p)))
              (λ (x : lo + size g ≤ u).
              r.rows_after (u * MODEL_ROW + p) (omega arith)
              ∙ s.follows u p ge lt p_from p_to
              ∙ ap (λ (y : Bool). bit (follow g u p || y)) (or_and_false (follow h u p) (last g u) (first h p) (none_last g u (no_g u x))))
              (below_or_from u (lo + size g));
          requires =
              λ u ge lt.
              ⊎_elim (λ (x : u < lo + size g). linked_same (first h) (last g) S lo R (lo + size g) r u POSITIONS ge x (omega arith) first_h_last ∙ s.requires u ge lt)
              (λ (x : lo + size g ≤ u). r.rows_after (u * MODEL_ROW + POSITIONS) (omega arith) ∙ s.requires u ge lt)
              (below_or_from u (lo + size g));
        }

  -- Where h can end and g can begin, g follows h.
  module _ (T R : List ℕ)
      (s : Shows lo (lo + (size g + size h)) T R (first (alt g h)) (last (alt g h)) (follow (seq g h)) (required_after (alt g h))) where
    back_row_0 : (p : ℕ) → lo ≤ p → p < lo + size g → get_or R p 0 ≡ bit (first g p)
    back_row_0 p ge lt = s.begins p ge (omega arith) ∙ ap bit (sym (only_left (first g p) (first h p) (none_first h p (no_h p lt))))

    back_column_0 : (u : ℕ) → lo + size g ≤ u → u < lo + size g + size h → get_or R (u * MODEL_ROW) 0 ≡ bit (last h u)
    back_column_0 u ge lt = s.ends u (omega arith) (omega arith) ∙ ap bit (sym (only_right (last g u) (last h u) (none_last g u (no_g u ge))))

    Q : List ℕ
    Q = link R (lo + size g) (lo + size g + size h) lo (lo + size g)

    q : Linked (first g) (last h) R (lo + size g) Q (lo + size g + size h)
    unfolding Q
    q =
        linked (first g) lo (lo + size g) (omega arith) (omega arith)
        (λ p lt. none_first g p (has_under g lo p gn lt))
        (λ p ge. none_first g p (no_g p ge))
        (last h) R (lo + size g) (lo + size g + size h) s.len (omega arith) (omega arith) to back_row_0 back_column_0

    first_g_0 : first g 0 ≡ false
    first_g_0 = none_first g 0 (has_under g lo 0 gn from)

    first_g_last : first g POSITIONS ≡ false
    first_g_last = none_first g POSITIONS (no_g POSITIONS (omega arith))

    -- Of the four ways in which p can follow u, those that ask for the other's end are none.
    from_g : (a b x y z : Bool) → z ≡ false → (a || (b || x)) ≡ ((a || b) || (x || (z && y)))
    from_g a b x y z e = rw e (spread a b x)
      where
        spread : (a b x : Bool) → (a || (b || x)) ≡ ((a || b) || (x || false))
        spread true b x = refl
        spread false true x = refl
        spread false false true = refl
        spread false false false = refl

    from_h : (a b x y z : Bool) → z ≡ false → ((a || (b || (z && x))) || y) ≡ ((a || b) || ((z && x) || y))
    from_h a b x y z e = rw e (spread a b y)
      where
        spread : (a b y : Bool) → ((a || (b || false)) || y) ≡ ((a || b) || y)
        spread true b y = refl
        spread false true y = refl
        spread false false y = refl

    in_any_order : Shows lo (lo + (size g + size h)) T Q (first (alt g h)) (last (alt g h))
        (λ u p. (follow g u p || follow h u p) || ((last g u && first h p) || (last h u && first g p))) (required_after (alt g h))
    in_any_order =
        record {
          len = q.len;
          under = λ k lt. q.rows_before k (omega arith) ∙ s.under k lt;
          between = λ k le lt. q.rows_before k (omega arith) ∙ s.between k le lt;
          begins = λ p ge lt. q.rows_before p (omega arith) ∙ s.begins p ge lt;
          ends =
              λ u ge lt.
              ⊎_elim (λ (x : u < lo + size g). q.rows_before (u * MODEL_ROW) (omega arith) ∙ s.ends u ge lt)
              (λ (x : lo + size g ≤ u). linked_end (first g) (last h) R (lo + size g) Q (lo + size g + size h) q u x (omega arith) first_g_0 ∙ s.ends u ge lt)
              (below_or_from u (lo + size g));
          follows =
              λ u p ge lt p_from p_to.
              ⊎_elim
              (λ (x : u < lo + size g).
              q.rows_before (u * MODEL_ROW + p) (omega arith)
              ∙ s.follows u p ge lt p_from p_to
              ∙ ap bit (from_g (follow g u p) (follow h u p) (last g u && first h p) (first g p) (last h u) (none_last h u (no_h u x))))
              (λ (x : lo + size g ≤ u).
              q.row u p x (omega arith) (omega arith)
              ∙ ap (λ (y : ℕ). cond (last h u && first g p) 1 y) (s.follows u p ge lt p_from p_to)
              ∙ cond_or (last h u && first g p) (follow g u p || (follow h u p || (last g u && first h p)))
              ∙ ap bit (from_h (follow g u p) (follow h u p) (first h p) (last h u && first g p) (last g u) (none_last g u (no_g u x))))
              (below_or_from u (lo + size g));
          requires =
              λ u ge lt.
              ⊎_elim (λ (x : u < lo + size g). q.rows_before (u * MODEL_ROW + POSITIONS) (omega arith) ∙ s.requires u ge lt)
              (λ (x : lo + size g ≤ u). linked_same (first g) (last h) R (lo + size g) Q (lo + size g + size h) q u POSITIONS x (omega arith) (omega arith) first_g_last ∙ s.requires u ge lt)
              (below_or_from u (lo + size g));
        }

  -- Where h cannot be empty, g no longer ends the whole, and what h requires is required after it.
  module _ (T R : List ℕ)
      (s : Shows lo (lo + (size g + size h)) T R (first (alt g h)) (last (alt g h)) (follow (seq g h)) (required_after (alt g h))) where
    ends_g : (u : ℕ) → lo ≤ u → u < lo + size g → get_or R (u * MODEL_ROW) 0 ≡ bit (last g u)
    ends_g u ge lt = s.ends u ge (omega arith) ∙ ap bit (sym (only_left (last g u) (last h u) (none_last h u (no_h u lt))))

    ends_closed : (b : Bool)
        → Shows lo (lo + (size g + size h)) T (cond b R (settle R lo (lo + size g) (required_first h))) (first (alt g h))
        (λ u. last h u || (b && last g u)) (follow (seq g h))
        (λ u. cond (has h u) (required_after h u) (cond (last g u && not b) (required_first h) (required_after g u)))
    ends_closed true =
        record {
          len = s.len;
          under = s.under;
          between = s.between;
          begins = s.begins;
          ends = λ u ge lt. s.ends u ge lt ∙ ap bit (or_comm (last g u) (last h u));
          follows = s.follows;
          requires =
              λ u ge lt.
              s.requires u ge lt
              ∙ ap (λ (y : ℕ). cond (has h u) (required_after h u) y) (sym (cond_and_false (last g u) false (required_first h) (required_after g u) refl));
        }
    ends_closed false =
        let S : List ℕ = settle R lo (lo + size g) (required_first h) in
        let r : Settled (last g) (required_first h) R lo S (lo + size g) = settled (last g) (required_first h) R lo (lo + size g) s.len (omega arith) (omega arith) ends_g in
        record {
          len = r.len;
          under = λ k lt. r.rows_before k (omega arith) ∙ s.under k lt;
          between = λ k le lt. r.rows_before k lt ∙ s.between k le lt;
          begins = λ p ge lt. r.rows_before p (omega arith) ∙ s.begins p ge lt;
          ends =
              λ u ge lt.
              ⊎_elim (λ (x : u < lo + size g). rw (none_last h u (no_h u x)) (r.end u ge x))
              (λ (x : lo + size g ≤ u).
              r.rows_after (u * MODEL_ROW) (omega arith)
              ∙ s.ends u ge lt
              ∙ ap bit (sym (only_right (last g u) (last h u) (none_last g u (no_g u x))) ∙ only_left (last h u) false refl))
              (below_or_from u (lo + size g));
          follows =
              λ u p ge lt p_from p_to.
              ⊎_elim (λ (x : u < lo + size g). r.row u p ge x p_from p_to ∙ s.follows u p ge lt p_from p_to)
              (λ (x : lo + size g ≤ u). r.rows_after (u * MODEL_ROW + p) (omega arith) ∙ s.follows u p ge lt p_from p_to)
              (below_or_from u (lo + size g));
          requires =
              λ u ge lt.
              ⊎_elim
              (λ (x : u < lo + size g).
              let was : get_or R (u * MODEL_ROW + POSITIONS) 0 ≡ required_after g u = rw (no_h u x) at (s.requires u ge lt) in
              rw (no_h u x, and-true (last g u)) (r.required u ge x ∙ ap (λ (y : ℕ). cond (last g u) (required_first h) y) was))
              (λ (x : lo + size g ≤ u).
              let is_h : has h u ≡ true = has_inside h (lo + size g) u hn x (omega arith) in
              rw is_h (r.rows_after (u * MODEL_ROW + POSITIONS) (omega arith) ∙ (rw is_h at (s.requires u ge lt))))
              (below_or_from u (lo + size g));
        }

  -- Where g cannot be empty, h no longer begins the whole.
  starts_closed : (T R : List ℕ) (L : ℕ → Bool) (N : ℕ → ℕ → Bool) (M : ℕ → ℕ) (b : Bool)
      → Shows lo (lo + (size g + size h)) T R (first (alt g h)) L N M
      → Shows lo (lo + (size g + size h)) T (cond b R (unbegin R (lo + size g) (lo + size g + size h))) (λ p. first g p || (b && first h p)) L N M
  starts_closed T R L N M true s =
      record {
        len = s.len;
        under = s.under;
        between = s.between;
        begins = s.begins;
        ends = s.ends;
        follows = s.follows;
        requires = s.requires;
      }
  starts_closed T R L N M false s =
      let S : List ℕ = unbegin R (lo + size g) (lo + size g + size h) in
      let r : Cleared R (lo + size g) S (lo + size g + size h) = unbegun R (lo + size g) (lo + size g + size h) s.len (omega arith) to in
      record {
        len = r.len;
        under = λ k lt. r.under k (omega arith) ∙ s.under k lt;
        between = λ k le lt. r.over k (omega arith) ∙ s.between k le lt;
        begins =
            λ p ge lt.
            ⊎_elim
            (λ (x : p < lo + size g). rw (none_first h p (no_h p x)) at (r.under p x ∙ s.begins p ge lt))
            (λ (x : lo + size g ≤ p). rw (none_first g p (no_g p x)) (r.none p x (omega arith)))
            (below_or_from p (lo + size g));
        ends = λ u ge lt. r.over (u * MODEL_ROW) (omega arith) ∙ s.ends u ge lt;
        follows = λ u p ge lt p_from p_to. r.over (u * MODEL_ROW + p) (omega arith) ∙ s.follows u p ge lt p_from p_to;
        requires = λ u ge lt. r.over (u * MODEL_ROW + POSITIONS) (omega arith) ∙ s.requires u ge lt;
      }

  -- The two are put in sequence.
  pub sequence : (T S : List ℕ) → Filled (alt g h) lo T S
      → Filled (seq g h) lo T (join_seq S lo (lo + size g) (lo + size g + size h) (part_of g) (part_of h))
  unfolding R close_ends close_starts
  sequence T S s =
      let LinkedUp = R T S s in
      starts_closed T (cond (nullable h) LinkedUp (settle LinkedUp lo (lo + size g) (required_first h)))
      (last (seq g h)) (follow (seq g h)) (required_after (seq g h)) (nullable g)
      (ends_closed T LinkedUp (in_sequence T S s) (nullable h))

  -- The two are put in any order.
  pub any_order : (T S : List ℕ) → Filled (alt g h) lo T S
      → Shows lo (lo + (size g + size h)) T (join_and S lo (lo + size g) (lo + size g + size h)) (first (alt g h)) (last (alt g h))
      (λ u p. (follow g u p || follow h u p) || ((last g u && first h p) || (last h u && first g p))) (required_after (alt g h))
  unfolding R Q
  any_order T S s = in_any_order T (R T S s) (in_sequence T S s)

-- A group that stands once or more can begin again where it can end.
module _ (g : Group) (lo : ℕ) (from : 1 ≤ lo) (to : lo + size g ≤ POSITIONS) (gn : Numbered g lo) (T S : List ℕ) (s : Filled g lo T S) where
  again : Linked (first g) (last g) S lo (link S lo (lo + size g) lo (lo + size g)) (lo + size g)
  again =
      linked (first g) lo (lo + size g) (omega arith) to
      (λ p lt. none_first g p (has_under g lo p gn lt))
      (λ p ge. none_first g p (has_over g lo p gn ge))
      (last g) S lo (lo + size g) s.len from (omega arith) to s.begins s.ends

  pub repeats : Filled (plus g) lo T (link S lo (lo + size g) lo (lo + size g))
  repeats =
      let R : List ℕ = link S lo (lo + size g) lo (lo + size g) in
      let r = again in
      record {
        len = r.len;
        under = λ k lt. r.rows_before k (omega arith) ∙ s.under k lt;
        between = λ k le lt. r.rows_before k lt ∙ s.between k le lt;
        begins = λ p ge lt. r.rows_before p (omega arith) ∙ s.begins p ge lt;
        ends =
            λ u ge lt. linked_end (first g) (last g) S lo R (lo + size g) r u ge lt (none_first g 0 (has_under g lo 0 gn from)) ∙ s.ends u ge lt;
        follows =
            λ u p ge lt p_from p_to.
            r.row u p ge lt (omega arith)
            ∙ ap (λ (y : ℕ). cond (last g u && first g p) 1 y) (s.follows u p ge lt p_from p_to)
            ∙ cond_or (last g u && first g p) (follow g u p);
        requires =
            λ u ge lt.
            linked_same (first g) (last g) S lo R (lo + size g) r u POSITIONS ge lt (omega arith) (none_first g POSITIONS (has_over g lo POSITIONS gn to))
            ∙ s.requires u ge lt;
      }

-- No place can begin the model yet.
pub record Fresh (T : List ℕ) : Type 0 where
  pub len : length T ≡ MODEL
  pub none : (p : ℕ) → 1 ≤ p → p < POSITIONS → get_or T p 0 ≡ 0

pub fresh_cleared : (T S : List ℕ) → length T ≡ MODEL → S ≡ unbegin T 1 POSITIONS → Fresh S
fresh_cleared T S l e =
    let r = unbegun T 1 POSITIONS l (omega arith) (omega arith) in
    rw e (record { len = r.len; none = r.none })

-- What is read in a table of the model g: in row u what may come next, whether the content is complete and what is required, once u was
-- the last place taken, or at the start where u is 0.
pub record Says (g : Group) (T : List ℕ) : Type 0 where
  pub len : length T ≡ MODEL
  pub next : (u p : ℕ) → u ≤ size g → 1 ≤ p → p ≤ GRPGTCNT → get_or T (u * MODEL_ROW + p) 0 ≡ cond (next_in g u p) 1 0
  pub complete : (u : ℕ) → u ≤ size g → get_or T (u * MODEL_ROW) 0 ≡ cond (complete_in g u) 1 0
  pub required : (u : ℕ) → u ≤ size g → get_or T (u * MODEL_ROW + POSITIONS) 0 ≡ required_in g u

module _ (g : Group) (gn : Numbered g 1) (to : size g ≤ GRPGTCNT) (T F : List ℕ) (t : Fresh T) (f : Filled g 1 T F) where
  Z : List ℕ
  Z = set F 0 (cond (nullable g) 1 0)

  len_z : length Z ≡ MODEL
  unfolding Z
  len_z = length-set F 0 (cond (nullable g) 1 0) ∙ f.len

  -- All but the first number and that of the last column of row 0 are as they were.
  as_filled : (k : ℕ) → 1 ≤ k → (k ≡ POSITIONS → ⊥) → get_or (set Z POSITIONS (required_first g)) k 0 ≡ get_or F k 0
  unfolding Z
  as_filled k ge ne = get_or-set_other Z POSITIONS k (required_first g) 0 ne ∙ get_or-set_other F 0 k (cond (nullable g) 1 0) 0 (omega arith)

  begin : (p : ℕ) → 1 ≤ p → p ≤ GRPGTCNT → get_or F p 0 ≡ bit (first g p)
  begin p ge le =
      ⊎_elim (λ (x : p < 1 + size g). f.begins p ge x)
      (λ (x : 1 + size g ≤ p). rw (none_first g p (has_over g 1 p gn x)) (f.between p x (omega arith) ∙ t.none p ge (omega arith)))
      (below_or_from p (1 + size g))

  next_in_lem : (u p : ℕ) → u ≤ size g → 1 ≤ p → p ≤ GRPGTCNT → get_or (set Z POSITIONS (required_first g)) (u * MODEL_ROW + p) 0 ≡ cond (next_in g u p) 1 0
  next_in_lem zero p le p_from p_to =
      let e : 0 * MODEL_ROW + p ≡ p = omega arith in
      rw e (as_filled p p_from (omega arith) ∙ begin p p_from p_to)
  next_in_lem (suc u) p le p_from p_to =
      as_filled (suc u * MODEL_ROW + p) (omega arith) (omega arith) ∙ f.follows (suc u) p (omega arith) (omega arith) p_from (omega arith)

  complete_in_lem : (u : ℕ) → u ≤ size g → get_or (set Z POSITIONS (required_first g)) (u * MODEL_ROW) 0 ≡ cond (complete_in g u) 1 0
  unfolding Z
  complete_in_lem zero le =
      let l = f.len in
      get_or-set_other Z POSITIONS 0 (required_first g) 0 (omega arith) ∙ get_or-set_same F 0 (cond (nullable g) 1 0) 0 (omega arith)
  complete_in_lem (suc u) le = as_filled (suc u * MODEL_ROW) (omega arith) (omega arith) ∙ f.ends (suc u) (omega arith) (omega arith)

  required_in_lem : (u : ℕ) → u ≤ size g → get_or (set Z POSITIONS (required_first g)) (u * MODEL_ROW + POSITIONS) 0 ≡ required_in g u
  required_in_lem zero le =
      let l = len_z in
      get_or-set_same Z POSITIONS (required_first g) 0 (omega arith)
  required_in_lem (suc u) le = as_filled (suc u * MODEL_ROW + POSITIONS) (omega arith) (omega arith) ∙ f.requires (suc u) (omega arith) (omega arith)

  -- The table that was filled while a model was read says, once row 0 has its two columns, what is computed of the model.
  pub says : Says g (finished F (part_of g))
  unfolding Z
  says =
      record {
        len = length-set Z POSITIONS (required_first g) ∙ len_z;
        next = next_in_lem;
        complete = complete_in_lem;
        required = required_in_lem;
      }
