-- The code of a group is run: its piece lies on the stack, its "&" groups are in the table, and the chain of each of its places spells the groups around the place.
use Rattle.std.specs.Prelude.{ℕ, suc, ◌+◌, ◌-◌, ◌≤◌, ◌<◌, ◌≡◌, refl, Bool, true, ◌&&◌, ◌||◌, cond, List, [], ◌∷◌, ◌++◌, length, set}
use Rattle.std.proofs.Common.{sym, ◌∙◌, ap, subst, inl, arith, length-set, get_or-set_same, get_or-set_other}
use Rattle.std.proofs.Math.Bool.{and-false, or-false}
use Rattle.model_code.specs.Codes.{ALSO_CODE, ALT_CODE, AND_CODE, OPT_CODE, PLUS_CODE, SEQ_CODE}
use Rattle.rules.specs.Walk.{Group, place, seq, alt, opt, plus, and, Members, one, also}
use Rattle.rules.specs.Bytes.{GRPCNT, GRPGTCNT}
use Rattle.layout.specs.Sizes.{AND_GROUPS, LASTS, POSITIONS, REACHES}
use Rattle.basic_laws.specs.Truth.{or_left, or_right, and_both, or_none, no_from}
use Rattle.model_sets.specs.Sets.{has, has_m, size, size_m, Numbered, NumberedM, nullable, last, last_m, amount}
use Rattle.and_laws.specs.Base.{Apart, apart_no}
use Rattle.and_laws.specs.Sets.{Good, GoodM, Plain}
use Rattle.and_laws.specs.Rows.{last_has, last_m_has}
use Rattle.and_laws.specs.Levels.{together}
use Rattle.and_laws.specs.Numbers.{has_range, has_m_range}
use Rattle.and_laws.specs.Ranked.{Level, levels, levels_m, count, count_m}
use Rattle.model_code.specs.Spelled.{codes, codes_m}
use Rattle.member_laws.specs.Members.{total, total_m, Sized, SizedM, outer_at}
use Rattle.member_table.specs.declared.Piece.{Piece}
use Rattle.member_table.specs.Filling.{State, piece_at, none_piece, place_piece, opt_piece, joined_piece, stacked}
use Rattle.member_table.specs.Beside.{AndRows, AndRowsM, not_left}
use Rattle.member_table.specs.Joined.{piece_of, Pieces, rows_of, amount_size}
use Rattle.member_table.specs.Chains.{base_of, Spells, spells_map, spells_close, InMember, InGroup, together_right}
use Rattle.member_table.specs.States.{run_ops, run_append, run_one, step_place, step_opt, step_seq, step_alt, step_plus, step_also, step_close, Upon, upon_both, upon_one, Common, common_none, common_stack, common_both, Ready, ready_after, ready_part, chains_both}
use Rattle.member_table.specs.Closing.{codes_and, closed_state, close_is, closes, close_common}
use Rattle.model_sets.specs.Numbering.{size_one, size_m_one}
use Rattle.member_laws.specs.Inside.{plain_levels}

-- The place v is in g, and can end it if u can.
abbrev pub InPart : Group → ℕ → Bool → ℕ → Type 0
InPart g u ends v = (has g v ≡ true) × (ends ≡ true → last g v ≡ last g u)

-- The code of g was run.
pub record Ran (e : ℕ) (g : Group) (lo : ℕ) (s t : State) : Type 0 where
  pub upon : Upon 1 s t
  pub piece : piece_at t.stack s.top ≡ piece_of g lo
  pub common : Common e (has g) (count g) (total g) s t
  pub chains : (u : ℕ) → has g u ≡ true → Spells e t.members t.lasts t.groups t.count (InPart g u) u true (base_of e + u) u (levels g s.groups u)

-- The code of the members was run.
record RanAll (e : ℕ) (m : Members) (lo : ℕ) (s t : State) : Type 0 where
  upon : Upon (amount m) s t
  pieces : Pieces t.stack s.top m lo
  common : Common e (has_m m) (count_m m) (total_m m) s t
  chains : (u : ℕ) → has_m m u ≡ true → Spells e t.members t.lasts t.groups t.count (InMember e m u) u true (base_of e + u) u (levels_m m s.groups u)

upon_none : (s : State) → Upon 0 s s
upon_none s = record { top = omega arith; len = refl; below = λ j l. refl }

-- Without "&" there is no group to put.

plain_count : (g : Group) → Plain g → count g ≡ 0
plain_count (place n) p = refl
plain_count (seq g h) (p, q) = rw (plain_count g p, plain_count h q)
plain_count (alt g h) (p, q) = rw (plain_count g p, plain_count h q)
plain_count (opt g) p = plain_count g p
plain_count (plus g) p = refl
plain_count (and m) p = absurd p

pieces_same : (a b : List Piece) (first : ℕ) (m : Members) (lo : ℕ) → ((j : ℕ) → j < first + amount m → piece_at b j ≡ piece_at a j) → Pieces a first m lo → Pieces b first m lo
pieces_same a b first (one g) lo f p = f (first + 0) (omega arith) ∙ p
pieces_same a b first (also m g) lo f (p, q) = (pieces_same a b first m lo (λ j l. f j (omega arith)) p, f (first + amount m) (omega arith) ∙ q)

-- Two groups are run one after the other.
module _ (e : ℕ) (g h : Group) (lo : ℕ) (apart : Apart (has g) (has h)) (numbered : Numbered g lo) (high : lo + size g ≤ POSITIONS) (s t r : State) (P : Ran e g lo s t) (Q : Ran e h (lo + size g) t r) where
  pair_first : piece_at r.stack (r.top - 2) ≡ piece_of g lo
  pair_first =
      let f : r.top - 2 ≡ s.top = omega (arith, P.upon.top, Q.upon.top) in
      rw f (Q.upon.below s.top (omega (arith, P.upon.top)) ∙ P.piece)

  pair_second : piece_at r.stack (r.top - 1) ≡ piece_of h (lo + size g)
  pair_second = let f : r.top - 1 ≡ t.top = omega (arith, Q.upon.top) in rw f Q.piece

  pair_upon : (a : Piece) → Upon 1 s (stacked r s.top a)
  pair_upon a = upon_one (1 + 1) s r (upon_both 1 1 s t r P.upon Q.upon) s.top a refl

  pair_piece : (a : Piece) → length s.stack ≡ POSITIONS → s.top < POSITIONS → piece_at (set r.stack s.top a) s.top ≡ a
  pair_piece a n l = get_or-set_same r.stack s.top a none_piece (omega (arith, P.upon.len, Q.upon.len))

  pair_common : (a : Piece) → Common e (λ (v : ℕ). has g v || has h v) (count g + count h) (total g + total h) s (stacked r s.top a)
  pair_common a =
      common_stack e (λ (v : ℕ). has g v || has h v) (count g + count h) (total g + total h) s r
      (common_both e (has g) (has h) (λ (v : ℕ). has g v || has h v) (count g) (total g) (count h) (total h) s t r P.common Q.common (λ v i. (or_none (has g v) (has h v) i).0) (λ v i. (or_none (has g v) (has h v) i).1))
      s.top
      a

  pair_chains :
      (A : ℕ → Bool → ℕ → Type 0)
      → ((u : ℕ) → has g u ≡ true → (ends : Bool) (v : ℕ) → InPart g u ends v → A u ends v)
      → ((u : ℕ) → has h u ≡ true → (ends : Bool) (v : ℕ) → InPart h u ends v → A u ends v)
      → (u : ℕ) → has g u || has h u ≡ true → Spells e r.members r.lasts r.groups r.count (A u) u true (base_of e + u) u (cond (has h u) (levels h (s.groups + count g) u) (levels g s.groups u))
  pair_chains A into₁ into₂ =
      chains_both e (has g) (has h) apart (λ u i. omega (arith, has_range g lo numbered u i)) (count h) (total h) t r Q.common (InPart g) (InPart h) A (λ u ends v a. a.0) into₁ into₂
      (λ u. levels g s.groups u)
      (λ u. levels h (s.groups + count g) u)
      P.chains
      (λ u i. subst (λ (b : ℕ). Spells e r.members r.lasts r.groups r.count (InPart h u) u true (base_of e + u) u (levels h b u)) P.common.groups (Q.chains u i))

-- This is what a connector makes of the pieces of two groups.
seq_is : (g h : Group) (lo : ℕ) (a b : Piece) → a ≡ piece_of g lo → b ≡ piece_of h (lo + size g) → joined_piece SEQ_CODE a b ≡ piece_of (seq g h) lo
seq_is g h lo a b p q = let d : lo + size g + size h - 1 ≡ lo + (size g + size h) - 1 = omega arith in rw (p, q, d)

alt_is : (g h : Group) (lo : ℕ) (a b : Piece) → a ≡ piece_of g lo → b ≡ piece_of h (lo + size g) → joined_piece ALT_CODE a b ≡ piece_of (alt g h) lo
alt_is g h lo a b p q = let d : lo + size g + size h - 1 ≡ lo + (size g + size h) - 1 = omega arith in rw (p, q, d)

place_is : (n lo : ℕ) → n ≡ lo → place_piece n ≡ piece_of (place n) lo
place_is n lo d = let z : lo + 1 - 1 ≡ n = omega arith in rw (z, d)

stacked_is : (r : State) (j k : ℕ) (a b : Piece) → j ≡ k → a ≡ b → stacked r j a ≡ stacked r k b
stacked_is r j k a b x y = rw (x, y)

-- An "&" group ends.
module _ (e : ℕ) (T : List ℕ) (m : Members) (g : Group) (lo : ℕ) where
  abbrev group : Group
  group = and (also m g)

  ran_closed :
      NumberedM (also m g) lo → GoodM (also m g) → SizedM (also m g) × (2 ≤ amount (also m g)) × (amount (also m g) ≤ GRPCNT) → AndRows (rows_of T) group → lo + size group ≤ POSITIONS
      → (s t : State) → Ready e (has group) s → s.top + size group ≤ POSITIONS → s.groups + count group ≤ AND_GROUPS → s.count + total group ≤ GRPGTCNT
      → RanAll e (also m g) lo s t
      → (q : State) → q ≡ run_ops (base_of e) T ((AND_CODE + amount (also m g)) ∷ []) t
      → Ran e group lo s q
  ran_closed n d z rows high s t R top_to groups_to count_to P q is =
      let all = also m g in
      let C = P.common in
      let few : t.groups < AND_GROUPS = omega (arith, C.groups) in
      let least : t.count + amount all ≤ GRPGTCNT = omega (arith, C.count) in
      let lasts_len : length t.lasts ≡ LASTS = C.lasts_len ∙ R.lasts in
      let room : base_of e + REACHES ≤ length t.members = omega (arith, C.len, R.room) in
      let free : outer_at t.members e (suc t.groups) ≡ 0 = C.later (suc t.groups) (omega arith) ∙ R.outers (suc t.groups) (omega (arith, C.groups)) (omega arith) in
      let at = closed_state e T m g lo s.top t n d rows.0 P.pieces P.upon.top high few least z.2 lasts_len room free in
      let ends : q ≡ at =
      is
      ∙ run_one (base_of e) T (AND_CODE + amount all) t
      ∙ step_close (base_of e) T t (amount all) z.1 (omega (arith, P.upon.top)) few (omega arith)
      ∙ close_is e T m g lo s.top t n d rows.0 P.pieces P.upon.top high few least z.2 lasts_len room free in
      let close = closes e T m g lo s.top t n d rows.0 P.pieces P.upon.top high few least z.2 lasts_len room free in
      let more = close_common e T m g lo s.top t n d rows.0 P.pieces P.upon.top high few least z.2 lasts_len room free in
      let both = common_both e (has_m all) (has_m all) (has_m all) (count_m all) (total_m all) 1 (amount all) s t at C more (λ v i. i) (λ v i. i) in
      let one_more : count_m all + 1 ≡ suc (count_m all) = omega arith in
      let next : t.groups + 1 ≡ suc t.groups = omega arith in
      subst (λ (x : State). Ran e group lo s x) (sym ends)
      (record {
        upon =
            record {
              top = refl;
              len = length-set t.stack s.top (piece_of group lo) ∙ P.upon.len;
              below = λ j l. get_or-set_other t.stack s.top j (piece_of group lo) none_piece (λ x. omega arith) ∙ P.upon.below j l;
            };
        piece = get_or-set_same t.stack s.top (piece_of group lo) none_piece (omega (arith, P.upon.len, R.stack, size_m_one all));
        common = subst (λ (c : ℕ). Common e (has_m all) c (total_m all + amount all) s at) one_more both;
        chains = λ u i.
            let long = spells_close e t.lasts at.lasts t.groups t.count all d t.members at.members close u (levels_m all s.groups u) true (base_of e + u) u (inl (omega (arith, has_m_range all lo n u i), refl)) (P.chains u i) in
            let named : Spells e at.members at.lasts (suc t.groups) at.count (InGroup e all u) u true (base_of e + u) u (levels group s.groups u) =
            subst (λ (b : ℕ). Spells e at.members at.lasts (suc t.groups) at.count (InGroup e all u) u true (base_of e + u) u (levels_m all s.groups u ++ record { number = suc b; members = all } ∷ [])) C.groups long in
            subst (λ (b : ℕ). Spells e at.members at.lasts b at.count (InGroup e all u) u true (base_of e + u) u (levels group s.groups u)) (sym next) named;
      })

ran_and :
    (e : ℕ) (T : List ℕ) (m : Members) (lo : ℕ)
    → NumberedM m lo → GoodM m → SizedM m × (2 ≤ amount m) × (amount m ≤ GRPCNT) → AndRows (rows_of T) (and m) → lo + size_m m ≤ POSITIONS
    → (s t : State) → Ready e (has_m m) s → s.top + size_m m ≤ POSITIONS → s.groups + count (and m) ≤ AND_GROUPS → s.count + total (and m) ≤ GRPGTCNT
    → RanAll e m lo s t
    → (q : State) → q ≡ run_ops (base_of e) T ((AND_CODE + amount m) ∷ []) t
    → Ran e (and m) lo s q
ran_and e T (one g) lo n d (y, l, h) rows high s t R top_to groups_to count_to P q is = absurd (omega arith)
ran_and e T (also m g) lo n d z rows high s t R top_to groups_to count_to P q is = ran_closed e T m g lo n d z rows high s t R top_to groups_to count_to P q is

-- The whole code is run.
module _ (e : ℕ) (T : List ℕ) where
  abbrev run : List ℕ → State → State
  run os s = run_ops (base_of e) T os s

  run_two : (a b : List ℕ) (o : ℕ) (s : State) → run (a ++ (b ++ o ∷ [])) s ≡ run (o ∷ []) (run b (run a s))
  run_two a b o s = run_append (base_of e) T a (b ++ o ∷ []) s ∙ run_append (base_of e) T b (o ∷ []) (run a s)

  -- What a part of a group is ready for.
  first_ready : (g h : Group) (s : State) → Ready e (λ (v : ℕ). has g v || has h v) s → Ready e (has g) s
  first_ready g h s R = ready_part e (λ (v : ℕ). has g v || has h v) (has g) s R (λ u i. or_left _ i)

  second_ready : (g h : Group) (lo : ℕ) → Apart (has g) (has h) → Numbered h lo → lo + size h ≤ POSITIONS → (k : ℕ) (s t : State) → Ready e (λ (v : ℕ). has g v || has h v) s → Ran e g k s t → Ready e (has h) t
  second_ready g h lo a n high k s t R P =
      ready_after e (λ (v : ℕ). has g v || has h v) (has g) (has h) (count g) (total g) 1 s t R P.upon P.common (λ u i. (or_right (has g u) i, not_left a i, omega (arith, has_range h lo n u i)))

  mutual
    pub runs :
        (g : Group) (lo : ℕ) → Numbered g lo → Good g → Sized g → AndRows (rows_of T) g → lo + size g ≤ POSITIONS
        → (s : State) → Ready e (has g) s → s.top + size g ≤ POSITIONS → s.groups + count g ≤ AND_GROUPS → s.count + total g ≤ GRPGTCNT
        → Ran e g lo s (run (codes g) s)
    runs (place n) lo d k z rows high s R top_to groups_to count_to =
        let is = run_one (base_of e) T n s ∙ step_place (base_of e) T s n (omega arith) (omega arith) in
        subst (λ (x : State). Ran e (place n) lo s x) (sym is)
        (record {
          upon = upon_one 0 s s (upon_none s) s.top (place_piece n) refl;
          piece = get_or-set_same s.stack s.top (place_piece n) none_piece (omega (arith, R.stack)) ∙ place_is n lo d;
          common = common_none e (has (place n)) s s.top (place_piece n);
          chains = λ u i. (R.places u i, (i, λ x. refl));
        })
    runs (seq g h) lo (n, o) (d, k, a) (y, z) (f, r) high s R top_to groups_to count_to =
        let t = run (codes g) s in
        let P = runs g lo n d y f (omega arith) s (first_ready g h s R) (omega (arith, size_one h)) (omega arith) (omega arith) in
        let q = run (codes h) t in
        let Q = runs h (lo + size g) o k z r (omega arith) t (second_ready g h (lo + size g) a o (omega arith) lo s t R P) (omega (arith, P.upon.top, size_one g)) (omega (arith, P.common.groups)) (omega (arith, P.common.count)) in
        let b : Piece = piece_of (seq g h) lo in
        let is = run_two (codes g) (codes h) SEQ_CODE s ∙ run_one (base_of e) T SEQ_CODE q ∙ step_seq (base_of e) T q (omega (arith, P.upon.top, Q.upon.top)) ∙ stacked_is q (q.top - 2) s.top _ b (omega (arith, P.upon.top, Q.upon.top)) (seq_is g h lo _ _ (pair_first e g h lo a n (omega arith) s t q P Q) (pair_second e g h lo a n (omega arith) s t q P Q)) in
        subst (λ (x : State). Ran e (seq g h) lo s x) (sym is)
        (record {
          upon = pair_upon e g h lo a n (omega arith) s t q P Q b;
          piece = pair_piece e g h lo a n (omega arith) s t q P Q b R.stack (omega (arith, size_one g));
          common = pair_common e g h lo a n (omega arith) s t q P Q b;
          chains =
              pair_chains e g h lo a n (omega arith) s t q P Q (InPart (seq g h))
              (λ u i ends v p. (or_left _ p.0, λ x. rw (no_from (last_has h v) (apart_no a p.0), no_from (last_has h u) (apart_no a i)) (ap (λ (c : Bool). nullable h && c) (p.1 x))))
              (λ u i ends v p. (or_right (has g v) p.0, λ x. rw (no_from (last_has g v) (not_left a p.0), no_from (last_has g u) (not_left a i), and-false (nullable h), or-false (last h v), or-false (last h u)) (p.1 x)));
        })
    runs (alt g h) lo (n, o) (d, k, a) (y, z) (f, r) high s R top_to groups_to count_to =
        let t = run (codes g) s in
        let P = runs g lo n d y f (omega arith) s (first_ready g h s R) (omega (arith, size_one h)) (omega arith) (omega arith) in
        let q = run (codes h) t in
        let Q = runs h (lo + size g) o k z r (omega arith) t (second_ready g h (lo + size g) a o (omega arith) lo s t R P) (omega (arith, P.upon.top, size_one g)) (omega (arith, P.common.groups)) (omega (arith, P.common.count)) in
        let b : Piece = piece_of (alt g h) lo in
        let is = run_two (codes g) (codes h) ALT_CODE s ∙ run_one (base_of e) T ALT_CODE q ∙ step_alt (base_of e) T q (omega (arith, P.upon.top, Q.upon.top)) ∙ stacked_is q (q.top - 2) s.top _ b (omega (arith, P.upon.top, Q.upon.top)) (alt_is g h lo _ _ (pair_first e g h lo a n (omega arith) s t q P Q) (pair_second e g h lo a n (omega arith) s t q P Q)) in
        subst (λ (x : State). Ran e (alt g h) lo s x) (sym is)
        (record {
          upon = pair_upon e g h lo a n (omega arith) s t q P Q b;
          piece = pair_piece e g h lo a n (omega arith) s t q P Q b R.stack (omega (arith, size_one g));
          common = pair_common e g h lo a n (omega arith) s t q P Q b;
          chains =
              pair_chains e g h lo a n (omega arith) s t q P Q (InPart (alt g h))
              (λ u i ends v p. (or_left _ p.0, λ x. rw (no_from (last_has h v) (apart_no a p.0), no_from (last_has h u) (apart_no a i), or-false (last g v), or-false (last g u)) (p.1 x)))
              (λ u i ends v p. (or_right (has g v) p.0, λ x. rw (no_from (last_has g v) (not_left a p.0), no_from (last_has g u) (not_left a i)) (p.1 x)));
        })
    runs (opt g) lo n d z f high s R top_to groups_to count_to =
        let t = run (codes g) s in
        let P = runs g lo n d z f high s R top_to groups_to count_to in
        let b : Piece = piece_of (opt g) lo in
        let at : t.top - 1 ≡ s.top = omega (arith, P.upon.top) in
        let is = run_append (base_of e) T (codes g) (OPT_CODE ∷ []) s ∙ run_one (base_of e) T OPT_CODE t ∙ step_opt (base_of e) T t (omega (arith, P.upon.top)) ∙ stacked_is t (t.top - 1) s.top _ b at (ap opt_piece (ap (piece_at t.stack) at ∙ P.piece)) in
        subst (λ (x : State). Ran e (opt g) lo s x) (sym is)
        (record {
          upon = upon_one 1 s t P.upon s.top b refl;
          piece = get_or-set_same t.stack s.top b none_piece (omega (arith, P.upon.len, R.stack, size_one g));
          common = common_stack e (has g) (count g) (total g) s t P.common s.top b;
          chains = P.chains;
        })
    runs (plus g) lo n (d, p) z f high s R top_to groups_to count_to =
        let t = run (codes g) s in
        let none = plain_count g p in
        let P = runs g lo n d z f high s R top_to (omega (arith, none)) count_to in
        let is = run_append (base_of e) T (codes g) (PLUS_CODE ∷ []) s ∙ run_one (base_of e) T PLUS_CODE t ∙ step_plus (base_of e) T t in
        subst (λ (x : State). Ran e (plus g) lo s x) (sym is)
        (record {
          upon = P.upon;
          piece = P.piece;
          common = subst (λ (c : ℕ). Common e (has g) c (total g) s t) none P.common;
          chains = λ u i. subst (λ (ls : List Level). Spells e t.members t.lasts t.groups t.count (InPart g u) u true (base_of e + u) u ls) (plain_levels g p s.groups u) (P.chains u i);
        })
    runs (and m) lo n d z f high s R top_to groups_to count_to =
        let t = run (codes_m m) s in
        let P = runs_m m lo n d z.0 f.1 high s R top_to (omega arith) (omega arith) in
        ran_and e T m lo n d z f high s t R top_to groups_to count_to P (run (codes (and m)) s)
        (ap (λ (os : List ℕ). run os s) (codes_and m) ∙ run_append (base_of e) T (codes_m m) ((AND_CODE + amount m) ∷ []) s)

    runs_m :
        (m : Members) (lo : ℕ) → NumberedM m lo → GoodM m → SizedM m → AndRowsM (rows_of T) m → lo + size_m m ≤ POSITIONS
        → (s : State) → Ready e (has_m m) s → s.top + size_m m ≤ POSITIONS → s.groups + count_m m ≤ AND_GROUPS → s.count + total_m m ≤ GRPGTCNT
        → RanAll e m lo s (run (codes_m m) s)
    runs_m (one g) lo n d z f high s R top_to groups_to count_to =
        let t = run (codes g) s in
        let P = runs g lo n d z f high s R top_to groups_to count_to in
        let at : s.top + 0 ≡ s.top = omega arith in
        record {
          upon = P.upon;
          pieces = ap (piece_at t.stack) at ∙ P.piece;
          common = P.common;
          chains = λ u i. spells_map e t.members t.lasts t.groups t.count (InPart g u) (InMember e (one g) u) (λ ends v p. (and_both i p.0, p.1)) u (levels g s.groups u) true (base_of e + u) u (P.chains u i);
        }
    runs_m (also m g) lo (n, o) (d, k, a) (y, z) (f, r) high s R top_to groups_to count_to =
        let t = run (codes_m m) s in
        let P = runs_m m lo n d y f (omega arith) s (ready_part e (has_m (also m g)) (has_m m) s R (λ u i. or_left _ i)) (omega (arith, size_one g)) (omega arith) (omega arith) in
        let q = run (codes g) t in
        let Q = runs g (lo + size_m m) o k z r (omega arith) t
        (ready_after e (has_m (also m g)) (has_m m) (has g) (count_m m) (total_m m) (amount m) s t R P.upon P.common (λ u i. (or_right (has_m m u) i, not_left a i, omega (arith, has_range g (lo + size_m m) o u i))))
        (omega (arith, P.upon.top, amount_size m)) (omega (arith, P.common.groups)) (omega (arith, P.common.count)) in
        let is = run_two (codes_m m) (codes g) ALSO_CODE s ∙ run_one (base_of e) T ALSO_CODE q ∙ step_also (base_of e) T q in
        subst (λ (x : State). RanAll e (also m g) lo s x) (sym is)
        (record {
          upon = upon_both (amount m) 1 s t q P.upon Q.upon;
          pieces = (
            pieces_same t.stack q.stack s.top m lo (λ j l. Q.upon.below j (omega (arith, P.upon.top))) P.pieces,
            ap (piece_at q.stack) (sym P.upon.top) ∙ Q.piece,
          );
          common = common_both e (has_m m) (has g) (has_m (also m g)) (count_m m) (total_m m) (count g) (total g) s t q P.common Q.common (λ v i. (or_none (has_m m v) (has g v) i).0) (λ v i. (or_none (has_m m v) (has g v) i).1);
          chains =
              chains_both e (has_m m) (has g) a (λ u i. omega (arith, has_m_range m lo n u i)) (count g) (total g) t q Q.common (InMember e m) (InPart g) (InMember e (also m g)) (λ u ends v p. together_right m u v p.0)
              (λ u i ends v p.
              let j = together_right m u v p.0 in
              (or_left _ p.0, λ x. rw (no_from (last_has g v) (apart_no a j), no_from (last_has g u) (apart_no a i), or-false (last_m m v), or-false (last_m m u)) (p.1 x)))
              (λ u i ends v p. (or_right (together m u v) (and_both i p.0), λ x. rw (no_from (last_m_has m v) (not_left a p.0), no_from (last_m_has m u) (not_left a i)) (p.1 x)))
              (λ u. levels_m m s.groups u)
              (λ u. levels g (s.groups + count_m m) u)
              P.chains
              (λ u i. subst (λ (b : ℕ). Spells e q.members q.lasts q.groups q.count (InPart g u) u true (base_of e + u) u (levels g b u)) P.common.groups (Q.chains u i));
        })
