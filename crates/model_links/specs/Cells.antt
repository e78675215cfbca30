-- What each change leaves in the table, number by number.
use Prim.Native.Nat.{ℕ, ◌+◌, ◌*◌, ◌≤◌, ◌<◌}
use Rattle.std.specs.Prelude.{◌≡◌, refl, ◌≢◌, Bool, true, false, ◌&&◌, length, set}
use Rattle.std.proofs.Math.Path.{ap}
use Rattle.std.proofs.Common.{subst, ◌∙◌, ⊎_elim, arith, length-set, get_or-set_same, get_or-set_other}
use Rattle.std.proofs.Math.Bool.{cond}
use mathlib.Core.List.{List}
use Rattle.std.proofs.Math.ListN.{get_or}
use Rattle.std.proofs.Math.Dec.{eqb}
use borrow.Author.Count.{below_more}
use Rattle.basic_laws.specs.Truth.{eqb_bit}
use Rattle.basic_laws.specs.Numbers.{below_or_from}
use Rattle.rules.specs.Bytes.{GRPGTCNT}
use Rattle.layout.specs.Sizes.{MODEL_ROW, MODEL, POSITIONS}
use Rattle.model_links.specs.Each.{each_keeps}
use Rattle.model_links.specs.Links.{link_cell, link_row, link_from, link, settle_row, settle, clear_cell, clear_row, unbegin_cell, unbegin}

-- The table holds a flag as 1 or 0.
abbrev pub bit : Bool → ℕ
bit b = cond b 1 0

-- A number is stored on a condition.
abbrev set_if : Bool → List ℕ → ℕ → ℕ → List ℕ
set_if b S j v = cond b (set S j v) S

length_if : (b : Bool) (S : List ℕ) (j v : ℕ) → length (set_if b S j v) ≡ length S
length_if true S j v = length-set S j v
length_if false S j v = refl

at_if : (b : Bool) (S : List ℕ) (j v : ℕ) → j < length S → get_or (set_if b S j v) j 0 ≡ cond b v (get_or S j 0)
at_if true S j v h = get_or-set_same S j v 0 h
at_if false S j v h = refl

not_at_if : (b : Bool) (S : List ℕ) (j v k : ℕ) → k ≢ j → get_or (set_if b S j v) k 0 ≡ get_or S k 0
not_at_if true S j v k h = get_or-set_other S j k v 0 h
not_at_if false S j v k h = refl

-- Row u of T, of which the columns below i have been passed: those of `starts` are 1, the others as they were.
record Passed (starts : ℕ → Bool) (T : List ℕ) (u : ℕ) (S : List ℕ) (i : ℕ) : Type 0 where
  len : length S ≡ MODEL
  rows_before : (k : ℕ) → k < u * MODEL_ROW → get_or S k 0 ≡ get_or T k 0
  ahead : (k : ℕ) → u * MODEL_ROW + i ≤ k → get_or S k 0 ≡ get_or T k 0
  done : (p : ℕ) → p < i → get_or S (u * MODEL_ROW + p) 0 ≡ cond (starts p) 1 (get_or T (u * MODEL_ROW + p) 0)

module _ (starts : ℕ → Bool) (T : List ℕ) (u c d : ℕ) (u_from : 1 ≤ u) (u_to : u ≤ GRPGTCNT) (d_to : d ≤ POSITIONS)
    (row_0 : (p : ℕ) → c ≤ p → p < d → get_or T p 0 ≡ bit (starts p)) where
  pass_if : (S : List ℕ) (i : ℕ) → i < d → Passed starts T u S i → Passed starts T u (set_if (starts i) S (u * MODEL_ROW + i) 1) (i + 1)
  pass_if S i to h =
      let j : ℕ = u * MODEL_ROW + i in
      let l = h.len in
      record {
        len = length_if (starts i) S j 1 ∙ l;
        rows_before = λ k lt. not_at_if (starts i) S j 1 k (omega arith) ∙ h.rows_before k lt;
        ahead = λ k le. not_at_if (starts i) S j 1 k (omega arith) ∙ h.ahead k (omega arith);
        done =
            below_more (λ (p : ℕ). get_or (set_if (starts i) S j 1) (u * MODEL_ROW + p) 0 ≡ cond (starts p) 1 (get_or T (u * MODEL_ROW + p) 0)) i
            (λ p lt. not_at_if (starts i) S j 1 (u * MODEL_ROW + p) (omega arith) ∙ h.done p lt)
            (at_if (starts i) S j 1 (omega arith) ∙ ap (λ (x : ℕ). cond (starts i) 1 x) (h.ahead j (omega arith)));
      }

  pass : (S : List ℕ) (i : ℕ) → c ≤ i → i < d → Passed starts T u S i → Passed starts T u (link_cell u S i) (i + 1)
  unfolding link_cell
  pass S i from to h =
      let e : eqb (get_or S i 0) 1 ≡ starts i = ap (λ (x : ℕ). eqb x 1) (h.rows_before i (omega arith) ∙ row_0 i from to) ∙ eqb_bit (starts i) in
      rw e (pass_if S i to h)

-- Row u of T, of which those columns of `starts` are now 1, and nothing else is changed.
record Row (starts : ℕ → Bool) (T : List ℕ) (u : ℕ) (S : List ℕ) : Type 0 where
  len : length S ≡ MODEL
  rows_before : (k : ℕ) → k < u * MODEL_ROW → get_or S k 0 ≡ get_or T k 0
  rows_after : (k : ℕ) → u * MODEL_ROW + MODEL_ROW ≤ k → get_or S k 0 ≡ get_or T k 0
  row : (p : ℕ) → p < MODEL_ROW → get_or S (u * MODEL_ROW + p) 0 ≡ cond (starts p) 1 (get_or T (u * MODEL_ROW + p) 0)

row_if : (starts : ℕ → Bool) (T : List ℕ) (u : ℕ) (S : List ℕ) (b : Bool)
    → length T ≡ MODEL → Row starts T u S → Row (λ p. b && starts p) T u (cond b S T)
row_if starts T u S true l h = record { len = h.len; rows_before = h.rows_before; rows_after = h.rows_after; row = h.row }
row_if starts T u S false l h = record { len = l; rows_before = λ k lt. refl; rows_after = λ k le. refl; row = λ p lt. refl }

-- The rows [a, i) of T: after those of `ends`, those of `starts` may come, and nothing else is changed.
pub record Linked (starts ends : ℕ → Bool) (T : List ℕ) (a : ℕ) (S : List ℕ) (i : ℕ) : Type 0 where
  pub len : length S ≡ MODEL
  pub rows_before : (k : ℕ) → k < a * MODEL_ROW → get_or S k 0 ≡ get_or T k 0
  pub rows_after : (k : ℕ) → i * MODEL_ROW ≤ k → get_or S k 0 ≡ get_or T k 0
  pub row : (u p : ℕ) → a ≤ u → u < i → p < MODEL_ROW → get_or S (u * MODEL_ROW + p) 0 ≡ cond (ends u && starts p) 1 (get_or T (u * MODEL_ROW + p) 0)

module _ (starts : ℕ → Bool) (c d : ℕ) (c_to : c ≤ d) (d_to : d ≤ POSITIONS)
    (starts_from : (p : ℕ) → p < c → starts p ≡ false) (starts_to : (p : ℕ) → d ≤ p → starts p ≡ false) where
  module _ (T : List ℕ) (u : ℕ) (l : length T ≡ MODEL) (u_from : 1 ≤ u) (u_to : u ≤ GRPGTCNT)
      (row_0 : (p : ℕ) → c ≤ p → p < d → get_or T p 0 ≡ bit (starts p)) where
    none_passed : Passed starts T u T c
    none_passed = record { len = l; rows_before = λ k lt. refl; ahead = λ k le. refl; done = λ p lt. rw (starts_from p lt) }

    all_passed : Passed starts T u (link_row T u c d) d
    all_passed =
        each_keeps (link_cell u) c d (Passed starts T u) (pass starts T u c d u_from u_to d_to row_0) T c_to none_passed

    linked_row : Row starts T u (link_row T u c d)
    linked_row =
        let h = all_passed in
        record {
          len = h.len;
          rows_before = h.rows_before;
          rows_after = λ k le. h.ahead k (omega arith);
          row =
              λ p lt.
              ⊎_elim (λ (to : p < d). h.done p to)
              (λ (from : d ≤ p). rw (starts_to p from) (h.ahead (u * MODEL_ROW + p) (omega arith)))
              (below_or_from p d);
        }

  -- After `link` of [a, b) with [c, d), where `ends` is what column 0 says in [a, b) and `starts` what row 0 says in [c, d).
  module _ (ends : ℕ → Bool) (T : List ℕ) (a b : ℕ) (l : length T ≡ MODEL) (a_from : 1 ≤ a) (a_to : a ≤ b) (b_to : b ≤ POSITIONS)
      (row_0 : (p : ℕ) → c ≤ p → p < d → get_or T p 0 ≡ bit (starts p))
      (column_0 : (u : ℕ) → a ≤ u → u < b → get_or T (u * MODEL_ROW) 0 ≡ bit (ends u)) where
    link_one : (S : List ℕ) (i : ℕ) → a ≤ i → i < b → Linked starts ends T a S i → Linked starts ends T a (link_from c d S i) (i + 1)
    unfolding link_from
    link_one S i from to h =
        let e : eqb (get_or S (i * MODEL_ROW) 0) 1 ≡ ends i =
        ap (λ (x : ℕ). eqb x 1) (h.rows_after (i * MODEL_ROW) (omega arith) ∙ column_0 i from to) ∙ eqb_bit (ends i) in
        let r : Row (λ p. ends i && starts p) S i (cond (ends i) (link_row S i c d) S) =
        row_if starts S i (link_row S i c d) (ends i) h.len
        (linked_row S i h.len (omega arith) (omega arith) (λ p ge lt. h.rows_before p (omega arith) ∙ row_0 p ge lt)) in
        rw e record {
          len = r.len;
          rows_before = λ k lt. r.rows_before k (omega arith) ∙ h.rows_before k lt;
          rows_after = λ k le. r.rows_after k (omega arith) ∙ h.rows_after k (omega arith);
          row =
              λ u p ge lt p_to.
              below_more (λ (v : ℕ). a ≤ v → get_or (cond (ends i) (link_row S i c d) S) (v * MODEL_ROW + p) 0 ≡ cond (ends v && starts p) 1 (get_or T (v * MODEL_ROW + p) 0)) i
              (λ v to g. r.rows_before (v * MODEL_ROW + p) (omega arith) ∙ h.row v p g to p_to)
              (λ g. r.row p p_to ∙ ap (λ (x : ℕ). cond (ends i && starts p) 1 x) (h.rows_after (i * MODEL_ROW + p) (omega arith)))
              u lt ge;
        }

    pub linked : Linked starts ends T a (link T a b c d) b
    linked =
        each_keeps (link_from c d) a b (Linked starts ends T a) link_one T a_to
        record { len = l; rows_before = λ k lt. refl; rows_after = λ k le. refl; row = λ u p ge lt p_to. absurd (omega arith) }

-- This is what `link` leaves as it was in its rows.
pub cond_and_false : (b c : Bool) (x y : ℕ) → c ≡ false → cond (b && c) x y ≡ y
cond_and_false true c x y e = rw e
cond_and_false false c x y e = refl

module _ (starts ends : ℕ → Bool) (T : List ℕ) (a : ℕ) (S : List ℕ) (i : ℕ) (h : Linked starts ends T a S i) where
  pub linked_same : (u p : ℕ) → a ≤ u → u < i → p < MODEL_ROW → starts p ≡ false → get_or S (u * MODEL_ROW + p) 0 ≡ get_or T (u * MODEL_ROW + p) 0
  linked_same u p ge lt p_to e = h.row u p ge lt p_to ∙ cond_and_false (ends u) (starts p) 1 (get_or T (u * MODEL_ROW + p) 0) e

  pub linked_end : (u : ℕ) → a ≤ u → u < i → starts 0 ≡ false → get_or S (u * MODEL_ROW) 0 ≡ get_or T (u * MODEL_ROW) 0
  linked_end u ge lt e =
      let z : u * MODEL_ROW + 0 ≡ u * MODEL_ROW = omega arith in
      rw z at (linked_same u 0 ge lt (omega arith) e)

-- Row u of T, where b says that u could end: it no longer can, and r is required after it. Nothing else is changed.
record SettledRow (b : Bool) (r : ℕ) (T : List ℕ) (u : ℕ) (S : List ℕ) : Type 0 where
  len : length S ≡ MODEL
  rows_before : (k : ℕ) → k < u * MODEL_ROW → get_or S k 0 ≡ get_or T k 0
  rows_after : (k : ℕ) → u * MODEL_ROW + MODEL_ROW ≤ k → get_or S k 0 ≡ get_or T k 0
  end : get_or S (u * MODEL_ROW) 0 ≡ cond b 0 (get_or T (u * MODEL_ROW) 0)
  row : (p : ℕ) → 1 ≤ p → p < POSITIONS → get_or S (u * MODEL_ROW + p) 0 ≡ get_or T (u * MODEL_ROW + p) 0
  required : get_or S (u * MODEL_ROW + POSITIONS) 0 ≡ cond b r (get_or T (u * MODEL_ROW + POSITIONS) 0)

settled_row : (b : Bool) (r : ℕ) (T : List ℕ) (u : ℕ) → length T ≡ MODEL → u ≤ GRPGTCNT
    → SettledRow b r T u (cond b (set (set T (u * MODEL_ROW) 0) (u * MODEL_ROW + POSITIONS) r) T)
settled_row true r T u l to =
    let S : List ℕ = set T (u * MODEL_ROW) 0 in
    let m : length S ≡ MODEL = length-set T (u * MODEL_ROW) 0 ∙ l in
    let else : (k : ℕ) → k ≢ u * MODEL_ROW → k ≢ u * MODEL_ROW + POSITIONS → get_or (set S (u * MODEL_ROW + POSITIONS) r) k 0 ≡ get_or T k 0 =
    λ k x y. get_or-set_other S (u * MODEL_ROW + POSITIONS) k r 0 y ∙ get_or-set_other T (u * MODEL_ROW) k 0 0 x in
    record {
      len = length-set S (u * MODEL_ROW + POSITIONS) r ∙ m;
      rows_before = λ k lt. else k (omega arith) (omega arith);
      rows_after = λ k le. else k (omega arith) (omega arith);
      end = get_or-set_other S (u * MODEL_ROW + POSITIONS) (u * MODEL_ROW) r 0 (omega arith) ∙ get_or-set_same T (u * MODEL_ROW) 0 0 (omega arith);
      row = λ p ge lt. else (u * MODEL_ROW + p) (omega arith) (omega arith);
      required = get_or-set_same S (u * MODEL_ROW + POSITIONS) r 0 (omega arith);
    }
settled_row false r T u l to =
    record { len = l; rows_before = λ k lt. refl; rows_after = λ k le. refl; end = refl; row = λ p ge lt. refl; required = refl }

-- The rows [a, i) of T: no place can end any more, after those of `ends` r is required, and nothing else is changed.
pub record Settled (ends : ℕ → Bool) (r : ℕ) (T : List ℕ) (a : ℕ) (S : List ℕ) (i : ℕ) : Type 0 where
  pub len : length S ≡ MODEL
  pub rows_before : (k : ℕ) → k < a * MODEL_ROW → get_or S k 0 ≡ get_or T k 0
  pub rows_after : (k : ℕ) → i * MODEL_ROW ≤ k → get_or S k 0 ≡ get_or T k 0
  pub end : (u : ℕ) → a ≤ u → u < i → get_or S (u * MODEL_ROW) 0 ≡ 0
  pub row : (u p : ℕ) → a ≤ u → u < i → 1 ≤ p → p < POSITIONS → get_or S (u * MODEL_ROW + p) 0 ≡ get_or T (u * MODEL_ROW + p) 0
  pub required : (u : ℕ) → a ≤ u → u < i → get_or S (u * MODEL_ROW + POSITIONS) 0 ≡ cond (ends u) r (get_or T (u * MODEL_ROW + POSITIONS) 0)

-- A flag that is put out where it is on is 0.
cond_off : (b : Bool) → cond b 0 (bit b) ≡ 0
cond_off true = refl
cond_off false = refl

module _ (ends : ℕ → Bool) (r : ℕ) (T : List ℕ) (a b : ℕ) (l : length T ≡ MODEL) (a_to : a ≤ b) (b_to : b ≤ POSITIONS)
    (column_0 : (u : ℕ) → a ≤ u → u < b → get_or T (u * MODEL_ROW) 0 ≡ bit (ends u)) where
  settle_one : (S : List ℕ) (i : ℕ) → a ≤ i → i < b → Settled ends r T a S i → Settled ends r T a (settle_row r S i) (i + 1)
  unfolding settle_row
  settle_one S i from to h =
      let was : get_or S (i * MODEL_ROW) 0 ≡ bit (ends i) = h.rows_after (i * MODEL_ROW) (omega arith) ∙ column_0 i from to in
      let e : eqb (get_or S (i * MODEL_ROW) 0) 1 ≡ ends i = ap (λ (x : ℕ). eqb x 1) was ∙ eqb_bit (ends i) in
      let N : List ℕ = cond (ends i) (set (set S (i * MODEL_ROW) 0) (i * MODEL_ROW + POSITIONS) r) S in
      let n : SettledRow (ends i) r S i N = settled_row (ends i) r S i h.len (omega arith) in
      rw e record {
        len = n.len;
        rows_before = λ k lt. n.rows_before k (omega arith) ∙ h.rows_before k lt;
        rows_after = λ k le. n.rows_after k (omega arith) ∙ h.rows_after k (omega arith);
        end =
            λ u ge lt.
            below_more (λ (v : ℕ). a ≤ v → get_or N (v * MODEL_ROW) 0 ≡ 0) i
            (λ v vt g. n.rows_before (v * MODEL_ROW) (omega arith) ∙ h.end v g vt)
            (λ g. n.end ∙ ap (λ (x : ℕ). cond (ends i) 0 x) was ∙ cond_off (ends i))
            u lt ge;
        row =
            λ u p ge lt p_from p_to.
            below_more (λ (v : ℕ). a ≤ v → get_or N (v * MODEL_ROW + p) 0 ≡ get_or T (v * MODEL_ROW + p) 0) i
            (λ v vt g. n.rows_before (v * MODEL_ROW + p) (omega arith) ∙ h.row v p g vt p_from p_to)
            (λ g. n.row p p_from p_to ∙ h.rows_after (i * MODEL_ROW + p) (omega arith))
            u lt ge;
        required =
            λ u ge lt.
            below_more (λ (v : ℕ). a ≤ v → get_or N (v * MODEL_ROW + POSITIONS) 0 ≡ cond (ends v) r (get_or T (v * MODEL_ROW + POSITIONS) 0)) i
            (λ v vt g. n.rows_before (v * MODEL_ROW + POSITIONS) (omega arith) ∙ h.required v g vt)
            (λ g. n.required ∙ ap (λ (x : ℕ). cond (ends i) r x) (h.rows_after (i * MODEL_ROW + POSITIONS) (omega arith)))
            u lt ge;
      }

  pub settled : Settled ends r T a (settle T a b r) b
  settled =
      each_keeps (settle_row r) a b (Settled ends r T a) settle_one T a_to
      record {
        len = l;
        rows_before = λ k lt. refl;
        rows_after = λ k le. refl;
        end = λ u ge lt. absurd (omega arith);
        row = λ u p ge lt p_from p_to. absurd (omega arith);
        required = λ u ge lt. absurd (omega arith);
      }

-- The numbers [a, i) of T are 0, and nothing else is changed.
pub record Cleared (T : List ℕ) (a : ℕ) (S : List ℕ) (i : ℕ) : Type 0 where
  pub len : length S ≡ MODEL
  pub under : (k : ℕ) → k < a → get_or S k 0 ≡ get_or T k 0
  pub over : (k : ℕ) → i ≤ k → get_or S k 0 ≡ get_or T k 0
  pub none : (k : ℕ) → a ≤ k → k < i → get_or S k 0 ≡ 0

cleared_none : (T : List ℕ) (a : ℕ) → length T ≡ MODEL → Cleared T a T a
cleared_none T a l = record { len = l; under = λ k lt. refl; over = λ k le. refl; none = λ k ge lt. absurd (omega arith) }

cleared_one : (T : List ℕ) (a : ℕ) (S : List ℕ) (i : ℕ) → a ≤ i → i < MODEL → Cleared T a S i → Cleared T a (set S i 0) (i + 1)
cleared_one T a S i from to h =
    let m = h.len in
    record {
      len = length-set S i 0 ∙ m;
      under = λ k lt. get_or-set_other S i k 0 0 (omega arith) ∙ h.under k lt;
      over = λ k le. get_or-set_other S i k 0 0 (omega arith) ∙ h.over k (omega arith);
      none =
          λ k ge lt.
          below_more (λ (p : ℕ). a ≤ p → get_or (set S i 0) p 0 ≡ 0) i
          (λ p pt g. get_or-set_other S i p 0 0 (omega arith) ∙ h.none p g pt)
          (λ g. get_or-set_same S i 0 0 (omega arith))
          k lt ge;
    }

pub unbegun : (T : List ℕ) (a b : ℕ) → length T ≡ MODEL → a ≤ b → b ≤ POSITIONS → Cleared T a (unbegin T a b) b
unfolding unbegin_cell
unbegun T a b l a_to b_to =
    each_keeps unbegin_cell a b (Cleared T a) (λ S i from to h. cleared_one T a S i from (omega arith) h) T a_to (cleared_none T a l)

pub cleared_row : (T : List ℕ) (u : ℕ) → length T ≡ MODEL → u ≤ GRPGTCNT → Cleared T (u * MODEL_ROW) (clear_row T u) (u * MODEL_ROW + MODEL_ROW)
unfolding clear_cell
cleared_row T u l u_to =
    each_keeps (clear_cell u) 0 MODEL_ROW (λ S i. Cleared T (u * MODEL_ROW) S (u * MODEL_ROW + i))
    (λ S i from to h.
    let e : u * MODEL_ROW + i + 1 ≡ u * MODEL_ROW + (i + 1) = omega arith in
    rw e at (cleared_one T (u * MODEL_ROW) S (u * MODEL_ROW + i) (omega arith) (omega arith) h))
    T (omega arith)
    (let e : u * MODEL_ROW ≡ u * MODEL_ROW + 0 = omega arith in
    subst (Cleared T (u * MODEL_ROW) T) e (cleared_none T (u * MODEL_ROW) l))
