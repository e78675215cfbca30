-- What stands behind the rows of the table is left as it was by every change of its cells.
use Rattle.std.specs.Prelude.{ℕ, ◌+◌, ◌*◌, ◌≤◌, ◌<◌, ◌≡◌, refl, Bool, true, false, cond, List, get_or, set, eqb}
use Rattle.std.proofs.Common.{◌∙◌, arith, get_or-set_other}
use Rattle.layout.specs.Sizes.{MODEL_ROW, MODEL_ROWS, POSITIONS}
use Rattle.model_links.specs.Each.{each_keeps}
use Rattle.model_links.specs.Links.{link_cell, link_row, link_from, link, settle_row, settle, clear_cell, clear_row, unbegin_cell, unbegin}

-- S holds behind the rows what T does.
pub record Behind (T S : List ℕ) : Type 0 where
  pub same : (k : ℕ) → MODEL_ROWS ≤ k → get_or S k 0 ≡ get_or T k 0

pub behind_none : {T : List ℕ} → Behind T T
behind_none = record { same = λ k l. refl }

pub behind_on : {T R S : List ℕ} → Behind T R → Behind R S → Behind T S
behind_on x y = record { same = λ k l. y.same k l ∙ x.same k l }

pub behind_set : (T : List ℕ) (j v : ℕ) → j < MODEL_ROWS → Behind T (set T j v)
behind_set T j v h = record { same = λ k l. get_or-set_other T j k v 0 (λ e. omega arith) }

pub behind_if : (b : Bool) {T R S : List ℕ} → Behind T R → Behind T S → Behind T (cond b R S)
behind_if true x y = x
behind_if false x y = y

row_behind : (T : List ℕ) (u c d : ℕ) → u < POSITIONS → c ≤ d → d ≤ POSITIONS → Behind T (link_row T u c d)
unfolding link_cell
row_behind T u c d h c_to d_to =
    each_keeps (link_cell u) c d (λ R i. Behind T R)
    (λ R i from to x. behind_on x (behind_if (eqb (get_or R i 0) 1) (behind_set R (u * MODEL_ROW + i) 1 (omega arith)) behind_none)) T c_to behind_none

pub clear_behind : (T : List ℕ) (u : ℕ) → u < POSITIONS → Behind T (clear_row T u)
unfolding clear_cell
clear_behind T u h =
    each_keeps (clear_cell u) 0 MODEL_ROW (λ R i. Behind T R) (λ R i from to x. behind_on x (behind_set R (u * MODEL_ROW + i) 0 (omega arith))) T (omega arith) behind_none

module _ (T : List ℕ) (a b : ℕ) (a_to : a ≤ b) (b_to : b ≤ POSITIONS) where
  pub link_behind : (c d : ℕ) → c ≤ d → d ≤ POSITIONS → Behind T (link T a b c d)
  unfolding link_from
  link_behind c d c_to d_to =
      each_keeps (link_from c d) a b (λ R i. Behind T R)
      (λ R i from to x. behind_on x (behind_if (eqb (get_or R (i * MODEL_ROW) 0) 1) (row_behind R i c d (omega arith) c_to d_to) behind_none)) T a_to behind_none

  pub settle_behind : (r : ℕ) → Behind T (settle T a b r)
  unfolding settle_row
  settle_behind r =
      each_keeps (settle_row r) a b (λ R i. Behind T R)
      (λ R i from to x.
      behind_on x
      (behind_if (eqb (get_or R (i * MODEL_ROW) 0) 1)
      (behind_on (behind_set R (i * MODEL_ROW) 0 (omega arith)) (behind_set (set R (i * MODEL_ROW) 0) (i * MODEL_ROW + POSITIONS) r (omega arith))) behind_none)) T a_to behind_none

  pub unbegin_behind : Behind T (unbegin T a b)
  unfolding unbegin_cell
  unbegin_behind = each_keeps unbegin_cell a b (λ R i. Behind T R) (λ R i from to x. behind_on x (behind_set R i 0 (omega arith))) T a_to behind_none
