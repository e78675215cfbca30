-- The table that is filled from a model's code and rows tells the members of its "&" groups.
use Rattle.std.specs.Prelude.{ℕ, zero, suc, ◌+◌, ◌*◌, ◌≤◌, ◌<◌, ◌≡◌, refl, true, cond, ◌⊎◌, List, eqb, length, get_or}
use Rattle.std.proofs.Common.{sym, ◌∙◌, ap, subst, inl, arith}
use Rattle.std.proofs.lemmas.List.{length-replicate}
use Rattle.rules.specs.Walk.{Group, place, seq, alt, opt, plus, and, Members, one, also}
use Rattle.rules.specs.Bytes.{GRPGTCNT}
use Rattle.layout.specs.Sizes.{POSITIONS, MODEL_ROW, CODE, MEMBER, MEMBERS, CONTENTS, AND_GROUPS, LASTS, GROUP}
use Rattle.basic_laws.specs.Truth.{not_true, eqb_bit}
use Rattle.model_sets.specs.Sets.{has, size, Numbered, follow, next_in}
use Rattle.and_laws.specs.Numbers.{Guarded, numbered_good, has_range}
use Rattle.and_laws.specs.Ranked.{count, count_m, levels}
use Rattle.model_code.specs.Spelled.{codes, code_in}
use Rattle.member_laws.specs.Members.{total, total_m, Sized, SizedM, holder_at, first_at, Ordered, Chain}
use Rattle.member_table.specs.declared.Piece.{Piece}
use Rattle.member_table.specs.Filling.{State, none_piece, start_fill, filled}
use Rattle.member_table.specs.Beside.{Rows, and_rows}
use Rattle.member_table.specs.Joined.{rows_of}
use Rattle.member_table.specs.Chains.{base_of, spells_chain}
use Rattle.member_table.specs.States.{run_ops, run_in, Ready}
use Rattle.member_table.specs.Fills.{Ran, runs, InPart}
use Rattle.member_table.specs.Order.{order_start, order_all}

-- Every group has two members or more.
mutual
  pub count_few : (g : Group) → Sized g → count g + count g ≤ total g
  count_few (place n) z = omega arith
  count_few (seq g h) (y, z) = omega (arith, count_few g y, count_few h z)
  count_few (alt g h) (y, z) = omega (arith, count_few g y, count_few h z)
  count_few (opt g) z = count_few g z
  count_few (plus g) z = omega arith
  count_few (and m) (z, l, h) = omega (arith, count_m_few m z)

  count_m_few : (m : Members) → SizedM m → count_m m + count_m m ≤ total_m m
  count_m_few (one g) z = count_few g z
  count_m_few (also m g) (y, z) = omega (arith, count_m_few m y, count_few g z)

-- The rows of the table are those of the model.
abbrev pub HasRows : List ℕ → Group → Type 0
HasRows T g = (u w : ℕ) → u ≤ size g → 1 ≤ w → w ≤ GRPGTCNT → get_or T (u * MODEL_ROW + w) 0 ≡ cond (next_in g u w) 1 0

rows_of_lem : (T : List ℕ) (g : Group) → Numbered g 1 → size g ≤ GRPGTCNT → HasRows T g → Rows (rows_of T) g
rows_of_lem T g n few f zero w i j = let r = has_range g 1 n 0 i in absurd (omega (arith, r.0))
rows_of_lem T g n few f (suc u) w i j =
    let a = has_range g 1 n (suc u) i in
    let b = has_range g 1 n w j in
    ap (λ (x : ℕ). eqb x 1) (f (suc u) w (omega (arith, a.1)) b.0 (omega (arith, b.1))) ∙ eqb_bit (follow g (suc u) w)

-- What comes of M for the element e, whose model is g: its part tells the members, but for the sets, and nothing else has changed.
pub record Filled (M : List ℕ) (e : ℕ) (g : Group) (S : List ℕ) : Type 0 where
  pub start : holder_at S e 0 ≡ 0
  pub places : (u : ℕ) → has g u ≡ true → Chain S e u true (holder_at S e u) (levels g 0 u)
  pub len : length S ≡ length M
  pub others : (k : ℕ) → (k < e * MEMBER) ⊎ (e * MEMBER + MEMBER ≤ k) → get_or S k 0 ≡ get_or M k 0
  pub order : Ordered S e

module _
    (M T : List ℕ) (e n : ℕ) (g : Group) (long : length M ≡ MEMBERS) (within : e < CONTENTS)
    (free : (k : ℕ) → k < MEMBER → get_or M (e * MEMBER + k) 0 ≡ 0)
    (code : n ≤ CODE) (spelled : code_in T n ≡ codes g) (rows : HasRows T g)
    (numbered : Numbered g 1) (guarded : Guarded g) (sized : Sized g) (few : size g ≤ GRPGTCNT) (members : total g ≤ GRPGTCNT) where
  ready : Ready e (has g) (start_fill M)
  ready =
      record {
        stack = length-replicate {A = Piece} POSITIONS none_piece;
        lasts = length-replicate {A = ℕ} LASTS 0;
        room = omega (arith, long);
        places = λ u i. let r = has_range g 1 numbered u i in free u (omega (arith, r.1));
        outers = λ j l h. let is : e * MEMBER + (3 * POSITIONS + j * GROUP + 3) ≡ e * MEMBER + 3 * POSITIONS + j * GROUP + 3 = omega arith in rw is at (free (3 * POSITIONS + j * GROUP + 3) (omega arith));
      }

  ran : Ran e g 1 (start_fill M) (run_ops (base_of e) T (codes g) (start_fill M))
  ran =
      let good = numbered_good g 1 numbered guarded in
      runs e T g 1 numbered good sized (and_rows (rows_of T) g good (rows_of_lem T g numbered few rows)) (omega arith) (start_fill M) ready (omega arith) (omega (arith, count_few g sized)) (omega arith)

  none : (n : ℕ) → n ≤ AND_GROUPS → first_at M e n ≡ 0
  none n l = let is : e * MEMBER + (3 * POSITIONS + n * GROUP) ≡ e * MEMBER + 3 * POSITIONS + n * GROUP = omega arith in rw is at (free (3 * POSITIONS + n * GROUP) (omega arith))

  pub fills : Filled M e g (filled M e T n)
  fills =
      let end = run_ops (base_of e) T (codes g) (start_fill M) in
      let is : filled M e T n ≡ end.members = ap (λ (s : State). s.members) (run_in (base_of e) T M n code ∙ ap (λ (os : _). run_ops (base_of e) T os (start_fill M)) spelled) in
      subst (Filled M e g) (sym is)
      (record {
        start = ran.common.keeps.other (base_of e + 0) 0 (inl (omega arith, refl)) (not_true (has g 0) (λ i. let r = has_range g 1 numbered 0 i in omega (arith, r.0))) ∙ free 0 (omega arith);
        places = λ u i. spells_chain e end.members end.lasts end.groups end.count (InPart g u) u true (base_of e + u) u (levels g 0 u) (ran.chains u i);
        len = ran.common.len;
        others = ran.common.outside;
        order = order_all e end.members end.groups end.count (ran.common.order (order_start e M none));
      })
