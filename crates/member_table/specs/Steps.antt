-- What one number of the code makes of the table and of the stack, and that the code may be run number by number.
use Rattle.std.specs.Prelude.{ℕ, zero, suc, ◌+◌, ◌-◌, ◌≤◌, ◌<◌, ◌≡◌, min, refl, true, false, ◌&&◌, ltb, leb, List, length, get_or, set, replicate}
use Rattle.std.proofs.Common.{ap, ◌∙◌, arith, eq-eqb, ne_eqb, lt-ltb, le-ltb, le-leb, ltb-true, leb-true}
use Rattle.std.proofs.Math.Decide.{dec_le}
use Rattle.std.proofs.lemmas.Bool.{lt-leb}
use Rattle.model_code.specs.Codes.{AND_CODE, OPT_CODE, PLUS_CODE, SEQ_CODE}
use Rattle.basic_laws.specs.Truth.{and_left, and_right}
use Rattle.layout.specs.Sizes.{MODEL_ROWS, CODE, AND_GROUPS, POSITIONS, LASTS}
use Rattle.member_table.specs.declared.Piece.{Piece}
use Rattle.member_table.specs.Filling.{State, none_piece, piece_at, place_piece, opt_piece, joined_piece, closed_piece, needed_in, put_group, fits, close_group, step_fill, run_fill}

abbrev pub state_of : List ℕ → List Piece → ℕ → List ℕ → (groups count : ℕ) → State
state_of M stack top lasts groups count = record { members = M; stack = stack; top = top; lasts = lasts; groups = groups; count = count }

-- The state when the first i numbers of the code of T have been run upon M₀.
pub record Running (T : List ℕ) (base : ℕ) (M₀ : List ℕ) (i : ℕ) (M : List ℕ) (stack : List Piece) (top : ℕ) (lasts : List ℕ) (groups count : ℕ) : Type 0 where
  pub long : length M ≡ length M₀
  pub low : top ≤ POSITIONS
  pub few : groups ≤ AND_GROUPS
  pub fewer : count < POSITIONS
  pub is : state_of M stack top lasts groups count ≡ run_fill M₀ base T i

pub run_start : (T : List ℕ) (base : ℕ) (M : List ℕ) (none : Piece) → none ≡ none_piece → state_of M (replicate POSITIONS none) 0 (replicate LASTS 0) 0 0 ≡ run_fill M base T 0
unfolding run_fill
run_start T base M none e = rw e

run_next : (T : List ℕ) (base : ℕ) (M : List ℕ) (i : ℕ) → i < CODE → step_fill base T (run_fill M base T i) (get_or T (MODEL_ROWS + i) 0) ≡ run_fill M base T (i + 1)
unfolding run_fill
run_next T base M i l = let e : i + 1 ≡ suc i = omega arith in rw (e, lt-ltb i CODE l)

-- The same state by other names.
pub run_by :
    {T : List ℕ} {base : ℕ} {M₀ : List ℕ} {i : ℕ} {M N : List ℕ} {stack stack₁ : List Piece} {lasts lasts₁ : List ℕ} {groups groups₁ count count₁ top top₁ : ℕ} →
    N ≡ M → stack₁ ≡ stack → lasts₁ ≡ lasts → groups₁ ≡ groups → count₁ ≡ count → top₁ ≡ top → Running T base M₀ i M stack top lasts groups count → Running T base M₀ i N stack₁ top₁ lasts₁ groups₁ count₁
run_by a b c d e f r = rw (a, b, c, d, e, f) r

-- A group that fits has two members or more on the stack, and there is room for the group and for them.
pub fits_told : (k top groups count : ℕ) → fits k top groups count ≡ true → (2 ≤ k) × (k ≤ top) × (groups < AND_GROUPS) × (count + k < POSITIONS)
fits_told k top groups count e =
    let tail = and_right (leb 2 k) (leb k top && (ltb groups AND_GROUPS && ltb (count + k) POSITIONS)) e in
    let end = and_right (leb k top) (ltb groups AND_GROUPS && ltb (count + k) POSITIONS) tail in (
      leb-true 2 k (and_left (leb 2 k) (leb k top && (ltb groups AND_GROUPS && ltb (count + k) POSITIONS)) e),
      leb-true k top (and_left (leb k top) (ltb groups AND_GROUPS && ltb (count + k) POSITIONS) tail),
      ltb-true groups AND_GROUPS (and_left (ltb groups AND_GROUPS) (ltb (count + k) POSITIONS) end),
      ltb-true (count + k) POSITIONS (and_right (ltb groups AND_GROUPS) (ltb (count + k) POSITIONS) end),
    )

-- One number more is read.
module _ (T : List ℕ) (base : ℕ) (M₀ : List ℕ) (i : ℕ) (M : List ℕ) (stack : List Piece) (top : ℕ) (lasts : List ℕ) (groups count : ℕ) (so : Running T base M₀ i M stack top lasts groups count) (room : i < CODE) (op : ℕ) (read : op ≡ get_or T (MODEL_ROWS + i) 0) where
  stepped : (next : State) → next ≡ step_fill base T (state_of M stack top lasts groups count) op → next ≡ run_fill M₀ base T (i + 1)
  stepped next e =
      e ∙ ap (λ (r : State). step_fill base T r op) so.is ∙ ap (step_fill base T (run_fill M₀ base T i)) read ∙ run_next T base M₀ i room

  stays : state_of M stack top lasts groups count ≡ step_fill base T (state_of M stack top lasts groups count) op → Running T base M₀ (i + 1) M stack top lasts groups count
  stays e = record { long = so.long; low = so.low; few = so.few; fewer = so.fewer; is = stepped (state_of M stack top lasts groups count) e }

  stacks : (k : ℕ) (x : Piece) (up : ℕ) → up ≡ k + 1 → up ≤ POSITIONS → state_of M (set stack k x) (k + 1) lasts groups count ≡ step_fill base T (state_of M stack top lasts groups count) op → Running T base M₀ (i + 1) M (set stack k x) up lasts groups count
  stacks k x up u l e =
      record { long = so.long; low = l; few = so.few; fewer = so.fewer; is = ap (λ (n : ℕ). state_of M (set stack k x) n lasts groups count) u ∙ stepped (state_of M (set stack k x) (k + 1) lasts groups count) e }

  pub runs_place : op < SEQ_CODE → top < POSITIONS → (x : Piece) → x ≡ place_piece op → Running T base M₀ (i + 1) M (set stack top x) (top + 1) lasts groups count
  runs_place small l x e = rw e (stacks top (place_piece op) (top + 1) refl (omega arith) (rw (lt-ltb op SEQ_CODE small, lt-ltb top POSITIONS l)))

  pub runs_full : op < SEQ_CODE → POSITIONS ≤ top → Running T base M₀ (i + 1) M stack top lasts groups count
  runs_full small l = stays (rw (lt-ltb op SEQ_CODE small, le-ltb top POSITIONS l))

  pub runs_opt : op ≡ OPT_CODE → 1 ≤ top → (x : Piece) → x ≡ opt_piece (piece_at stack (top - 1)) → Running T base M₀ (i + 1) M (set stack (top - 1) x) top lasts groups count
  runs_opt is l x e = rw e (stacks (top - 1) (opt_piece (piece_at stack (top - 1))) top (omega arith) so.low (rw (le-ltb op SEQ_CODE (omega arith), eq-eqb op OPT_CODE is, le-leb 1 top l)))

  pub runs_opt_none : op ≡ OPT_CODE → top < 1 → Running T base M₀ (i + 1) M stack top lasts groups count
  runs_opt_none is l = stays (rw (le-ltb op SEQ_CODE (omega arith), eq-eqb op OPT_CODE is, lt-leb 1 top l))

  pub runs_join : SEQ_CODE ≤ op → (op ≡ OPT_CODE → ⊥) → op < PLUS_CODE → 2 ≤ top → (x : Piece) → x ≡ joined_piece op (piece_at stack (top - 2)) (piece_at stack (top - 1)) → Running T base M₀ (i + 1) M (set stack (top - 2) x) (top - 1) lasts groups count
  runs_join n₁ n₂ n₃ l x e =
      rw e
      (stacks (top - 2) (joined_piece op (piece_at stack (top - 2)) (piece_at stack (top - 1))) (top - 1) (omega arith) (omega (arith, so.low))
      (rw (le-ltb op SEQ_CODE n₁, ne_eqb op OPT_CODE n₂, lt-ltb op PLUS_CODE n₃, le-leb 2 top l)))

  pub runs_join_none : SEQ_CODE ≤ op → (op ≡ OPT_CODE → ⊥) → op < PLUS_CODE → top < 2 → Running T base M₀ (i + 1) M stack top lasts groups count
  runs_join_none n₁ n₂ n₃ l = stays (rw (le-ltb op SEQ_CODE n₁, ne_eqb op OPT_CODE n₂, lt-ltb op PLUS_CODE n₃, lt-leb 2 top l))

  pub runs_other : PLUS_CODE ≤ op → op ≤ AND_CODE → Running T base M₀ (i + 1) M stack top lasts groups count
  runs_other n₃ n₄ = stays (rw (le-ltb op SEQ_CODE (omega arith), ne_eqb op OPT_CODE (λ (e : op ≡ OPT_CODE). omega arith), le-ltb op PLUS_CODE n₃, le-ltb AND_CODE op n₄))

  pub runs_unfit : AND_CODE < op → (wide : ℕ) → wide ≡ op → fits (wide - AND_CODE) top groups count ≡ false → Running T base M₀ (i + 1) M stack top lasts groups count
  runs_unfit n wide e f =
      let g : fits (op - AND_CODE) top groups count ≡ false = rw e at f in
      stays (rw (le-ltb op SEQ_CODE (omega arith), ne_eqb op OPT_CODE (λ (d : op ≡ OPT_CODE). omega arith), le-ltb op PLUS_CODE (omega arith), lt-ltb AND_CODE op n, g))

  -- A group ends: its members are on the stack, and there is room for them.
  pub runs_close :
      AND_CODE < op → (wide : ℕ) → wide ≡ op → fits (wide - AND_CODE) top groups count ≡ true → (needed : ℕ) → needed ≡ needed_in stack (top - (wide - AND_CODE)) (wide - AND_CODE) →
      (M₁ : List ℕ) → length M₁ ≡ length M → M₁ ≡ put_group M base T lasts groups (count + 1) stack (top - (wide - AND_CODE)) (needed_in stack (top - (wide - AND_CODE)) (wide - AND_CODE)) (wide - AND_CODE) →
      (x : Piece) → x ≡ closed_piece needed (piece_at stack (top - (wide - AND_CODE))) (piece_at stack (top - 1)) →
      Running T base M₀ (i + 1) M₁ (set stack (top - (wide - AND_CODE)) x) (top - (wide - AND_CODE) + 1)
      (set lasts (groups + 1) (piece_at stack (top - 1)).last) (groups + 1) (count + (wide - AND_CODE))
  runs_close n wide e f needed is M₁ len puts x shut =
      let told = fits_told (wide - AND_CODE) top groups count f in
      let g : fits (op - AND_CODE) top groups count ≡ true = rw e at f in
      let closed : state_of M₁ (set stack (top - (wide - AND_CODE)) x) (top - (wide - AND_CODE) + 1) (set lasts (groups + 1) (piece_at stack (top - 1)).last) (groups + 1) (count + (wide - AND_CODE)) ≡ close_group base T (op - AND_CODE) (state_of M stack top lasts groups count) = rw (puts, shut, is, e) in
      record {
        long = len ∙ so.long;
        low = omega (arith, told.0, so.low);
        few = omega (arith, told.2);
        fewer = omega (arith, told.3);
        is = closed ∙ stepped (close_group base T (op - AND_CODE) (state_of M stack top lasts groups count)) (rw (le-ltb op SEQ_CODE (omega arith), ne_eqb op OPT_CODE (λ (d : op ≡ OPT_CODE). omega arith), le-ltb op PLUS_CODE (omega arith), lt-ltb AND_CODE op n, g));
      }

run_stays : (T : List ℕ) (base : ℕ) (M : List ℕ) (i d n : ℕ) → CODE ≤ i → n ≡ d + i → run_fill M base T i ≡ run_fill M base T n
unfolding run_fill
run_stays T base M i zero n l e = let f : n ≡ i = omega arith in rw f
run_stays T base M i (suc d) zero l e = absurd (omega arith)
run_stays T base M i (suc d) (suc n) l e = rw (le-ltb n CODE (omega arith)) (run_stays T base M i d n l (omega arith))

-- All numbers have been run, or all that there is room for.
module _ (T : List ℕ) (base : ℕ) (M₀ : List ℕ) (i : ℕ) (M : List ℕ) (stack : List Piece) (top : ℕ) (lasts : List ℕ) (groups count : ℕ) (so : Running T base M₀ i M stack top lasts groups count) (n : ℕ) where
  pub ran_all : i ≡ n → M ≡ (run_fill M₀ base T n).members
  ran_all e = ap (λ (s : State). s.members) so.is ∙ ap (λ (k : ℕ). (run_fill M₀ base T k).members) e

  pub ran_full : i ≤ n → CODE ≤ i → M ≡ (run_fill M₀ base T n).members
  ran_full l full = ap (λ (s : State). s.members) (so.is ∙ run_stays T base M₀ i (n - i) n full (omega arith))

  pub ran_least : i ≡ min n CODE → M ≡ (run_fill M₀ base T n).members
  ran_least e = go (dec_le n CODE)
    where
      go : Dec (n ≤ CODE) → M ≡ (run_fill M₀ base T n).members
      go (yes l) = ran_all (omega arith)
      go (no l) = ran_full (omega arith) (omega arith)
