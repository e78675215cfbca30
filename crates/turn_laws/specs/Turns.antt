-- The loop of a reader that keeps a position, how record ends stand there, and a state, as laws: what each turn leaves, and what the document reads as where it ends.
use Rattle.std.specs.Prelude.{ℕ, ◌+◌, ◌-◌, ◌≤◌, ◌<◌, ◌≡◌, Bool, true, false, ◌||◌, List, [], length, eqb}
use Rattle.std.proofs.Math.Path.{refl}
use Rattle.std.proofs.Common.{sym, ◌∙◌, ap, subst, arith}
use Rattle.std.proofs.lemmas.Bool.{false≢true}
use borrow.Author.Tests.{ne_eqb, lt-leb}
use Rattle.rules.specs.Settings.{Settings}
use Rattle.rules.specs.Bytes.{byte_at, RS, RE}
use Rattle.rules.specs.Reading.{Reading, refused, got}
use Rattle.rules.specs.TypeFile.{Element}
use Rattle.rules.specs.Judge.{Accepts}
use Rattle.rules.specs.Document.{Tag, Piece, start_tag, end_tag, skipped, blank, piece}
use Rattle.rules.specs.Elements.{number_of}
use Rattle.rules.specs.Decisions.{pcdata, Decisions}
use Rattle.rules.specs.Events.{Event, data_run}
use Rattle.rules.specs.Settling.{Open, State, nothing_open, fitting, start_element, end_element, end_document}
use Rattle.rules.specs.Records.{Line, new_line, mark_behind, ignored_behind, taken_behind, line_after}
use Rattle.rules.specs.Reader.{go_on, settle_piece, piece_under, document}
use Rattle.rules_laws.specs.Holds.{Holds, got_so}
use Rattle.rules_laws.specs.Runs.{is_run, run_end, run_end_in, run_any}
use Rattle.document_laws.specs.Decide.{decided}
use Rattle.document_laws.specs.Moves.{state, At, piece_end}
use Rattle.document_laws.specs.Same.{Passes, begins, goes}
use Rattle.turn_laws.specs.RunAtOnce.{take_run, pieces, attributing, joins, Again}
use Rattle.turn_laws.specs.Joins.{joins_snoc}
use Rattle.turn_laws.specs.Enough.{under_moves, passes_rest, pieces_end, pieces_refused, pieces_stop}
use Rattle.turn_laws.specs.Leaves.{Parted, start_element_parted, end_element_parted}
use Rattle.acts.specs.Pieces.{start_settles, end_settles, start_undeclared, end_undeclared, skipped_settles, blank_ignored}
use Rattle.turn_laws.specs.Run.{run_end_stop, run_text, run_passes, run_within, run_taken, run_refused, data_stop}

-- The rules come to `at` of the document with the state z, where l says how record ends stand: neither number of it is behind `at`. A run of data that begins here or
-- later is a new event. Where no element is open, the last event is no data.
pub record Reaches (c : Settings) (s : List ℕ) (es : List Element) (d : List ℕ) (at : ℕ) (l : Line) (z : State) : Type 0 where
  pub passes : Passes c s es (decided s es) d at l z
  pub inside : at ≤ length d
  pub since : l.since ≤ at
  pub marked : l.mark ≤ at
  pub parted : at < length d → is_run (piece c.name_length d at) ≡ true → joins at z.events ≡ false
  pub beyond : (j : ℕ) → at < j → joins j z.events ≡ false
  pub outside : z.around ≡ [] → (j : ℕ) → joins j z.events ≡ false

pub reaches_start : (c : Settings) (s : List ℕ) (es : List Element) (d : List ℕ) → Reaches c s es d 0 new_line nothing_open
reaches_start c s es d = record { passes = begins; inside = omega arith; since = omega arith; marked = omega arith; parted = λ h e. refl; beyond = λ j h. refl; outside = λ e j. refl }

-- Turns

module _ {c : Settings} {s : List ℕ} {es : List Element} {d : List ℕ} {at : ℕ} {l : Line} {z : State} (r : Reaches c s es d at l z) where
  abbrev D : Decisions
  D = decided s es

  -- What is left reads as the whole document does.
  rest : attributing c s es d (pieces c s es D d at l z) ≡ document c s es D d
  rest = passes_rest c s es D d r.passes

  stopped : {n k : ℕ} → pieces c s es D d at l z ≡ refused n k → document c s es D d ≡ refused n k
  stopped e = sym rest ∙ ap (attributing c s es d) e

  -- All are read.
  pub reaches_end : {x : Reading (List Event)} → at ≡ length d → end_document s es D (length d) z ≡ x → document c s es D d ≡ attributing c s es d x
  reaches_end e h = sym rest ∙ ap (attributing c s es d) (pieces_end c s es D d at l z (omega arith) ∙ h)

  module _ (h : at < length d) where
    pub refused_piece : {n k : ℕ} → piece_under c s es d at l z.current ≡ refused n k → document c s es D d ≡ refused n k
    refused_piece {n} {k} e = stopped (pieces_refused c s es D d at l z h n k e)

    -- Reading moves on within the document.
    moves : {p : Piece} → piece_under c s es d at l z.current ≡ got p → (at < piece_end p at) × (piece_end p at ≤ length d)
    moves {p} e = under_moves c s es d at l z.current h p e

    -- A tag that ends at `after`, behind which nothing goes on a run.
    settles_on : (p : Piece) (after : ℕ) (q : Reading State) (y : State) → at < after → line_after s es D d p at l z ≡ taken_behind after l → piece_under c s es d at l z.current ≡ got p → settle_piece s es D d p at z ≡ go_on after q → after ≤ length d → Holds (At at) Parted q → q ≡ got y → Reaches c s es d after (taken_behind after l) y
    settles_on p after q y on line e f i g v =
        record {
          passes = subst (λ (k : Line). Passes c s es D d after k y) line (goes (record { at = after; state = y }) r.passes h e (f ∙ ap (go_on after) v));
          inside = i;
          since = omega arith;
          marked = omega (arith, r.marked);
          parted = λ j m. got_so g v after;
          beyond = λ j m. got_so g v j;
          outside = λ a j. got_so g v j;
        }

    settles_not : (p : Piece) (n k : ℕ) → piece_under c s es d at l z.current ≡ got p → settle_piece s es D d p at z ≡ refused n k → document c s es D d ≡ refused n k
    settles_not p n k e f = stopped (pieces_stop c s es D d at l z h p e n k f)

    module _ {t : Tag} (e : piece_under c s es d at l z.current ≡ got (start_tag t)) where
      pub refused_undeclared_start : number_of s es d t.name t.size ≡ 0 → document c s es D d ≡ refused 10 at
      refused_undeclared_start i = settles_not (start_tag t) 10 at e (start_undeclared s es D d at t z i)

      module _ (k : ℕ) (i : number_of s es d t.name t.size ≡ k) (some : 1 ≤ k) where
        pub reaches_start_tag : {y : State} → start_element s es D k at t.after z ≡ got y → Reaches c s es d t.after (taken_behind t.after l) y
        unfolding line_after
        reaches_start_tag {y} v = settles_on (start_tag t) t.after (start_element s es D k at t.after z) y (moves e).0 refl e (start_settles s es D d at t z k i some) (moves e).1 (start_element_parted s es D k at t.after z) v

        pub refused_start_tag : {n j : ℕ} → start_element s es D k at t.after z ≡ refused n j → document c s es D d ≡ refused n j
        refused_start_tag {n} {j} v = settles_not (start_tag t) n j e (start_settles s es D d at t z k i some ∙ ap (go_on t.after) v)

    module _ {t : Tag} (e : piece_under c s es d at l z.current ≡ got (end_tag t)) where
      pub refused_undeclared_end : number_of s es d t.name t.size ≡ 0 → document c s es D d ≡ refused 10 at
      refused_undeclared_end i = settles_not (end_tag t) 10 at e (end_undeclared s es D d at t z i)

      module _ (k : ℕ) (i : number_of s es d t.name t.size ≡ k) (some : 1 ≤ k) where
        pub reaches_end_tag : {y : State} → end_element s es D k at t.after z ≡ got y → Reaches c s es d t.after (taken_behind t.after l) y
        unfolding line_after
        reaches_end_tag {y} v = settles_on (end_tag t) t.after (end_element s es D k at t.after z) y (moves e).0 refl e (end_settles s es D d at t z k i some) (moves e).1 (end_element_parted s es D k at t.after z) v

        pub refused_end_tag : {n j : ℕ} → end_element s es D k at t.after z ≡ refused n j → document c s es D d ≡ refused n j
        refused_end_tag {n} {j} v = settles_not (end_tag t) n j e (end_settles s es D d at t z k i some ∙ ap (go_on t.after) v)

    -- The state stays, and the position goes on: a run behind it is a new one. A byte 10 or 13 that is passed by is marked.
    mark_there : mark_behind d at l.mark ≤ at + 1
    mark_there = by_test (eqb (byte_at d at) RS || eqb (byte_at d at) RE)
      where
        by_test : (b : Bool) → elim b [ true ↦ at + 1 | false ↦ l.mark ] ≤ at + 1
        by_test true = omega arith
        by_test false = omega (arith, r.marked)

    passes_by : (p : Piece) (after : ℕ) → line_after s es D d p at l z ≡ (ignored_behind d at l) → piece_under c s es d at l z.current ≡ got p → settle_piece s es D d p at z ≡ got (record { at = after; state = z }) → at < after → after ≤ length d
        → Reaches c s es d after (ignored_behind d at l) z
    passes_by p after line e f i j =
        record {
          passes = subst (λ (k : Line). Passes c s es D d after k z) line (goes (record { at = after; state = z }) r.passes h e f);
          inside = j;
          since = omega (arith, r.since);
          marked = omega (arith, mark_there);
          parted = λ k m. r.beyond after i;
          beyond = λ k m. r.beyond k (omega arith);
          outside = r.outside;
        }

    pub reaches_skipped : {e : ℕ} → piece_under c s es d at l z.current ≡ got (skipped e) → Reaches c s es d e (ignored_behind d at l) z
    unfolding line_after
    reaches_skipped {e} q = let (i, j) = moves q in passes_by (skipped e) e refl q (skipped_settles s es D d at z e) i j

    pub reaches_blank : piece_under c s es d at l z.current ≡ got blank → fitting s es D z.current pcdata ≡ 0 → Reaches c s es d (at + 1) (ignored_behind d at l) z
    unfolding line_after
    reaches_blank q e = passes_by blank (at + 1) (rw (line_after, lt-leb 1 (fitting s es D z.current pcdata) (omega arith))) q (blank_ignored s es D d at z e) (omega arith) (omega arith)

    module _ (under : is_run (piece_under c s es d at l z.current) ≡ true) (fit : piece_under c s es d at l z.current ≡ got blank → 1 ≤ fitting s es D z.current pcdata) where
      run : is_run (piece c.name_length d at) ≡ true
      run = run_text c s es d at l z.current under

      -- A run that is settled at once takes its place once, and the rules take it with each byte.
      pub reaches_run : {given : Settings} → Accepts given s es → {y : State} → take_run s es D at (run_end d (at + 1) - at) z ≡ got y
          → (v : Open) × Again y.current v × Reaches c s es d (run_end d (at + 1)) (taken_behind (run_end d (at + 1)) l) (state v y.around y.events)
      reaches_run accepted {y} t =
          let e = run_end d (at + 1) in
          let (i, j) = run_end_in d (at + 1) (omega arith) in
          let (x, settles, few, same) = run_taken s es D at (e - at) z y t in
          let (v, a, passes) = run_passes c s es accepted d at l r.marked z x r.passes settles few h under fit (r.parted h run) in
          rw (← same) (
            v,
            a,
            record {
              passes = passes;
              inside = j;
              since = omega arith;
              marked = omega (arith, r.marked);
              parted = λ k m. absurd (false≢true (sym (run_any c.name_length d (run_end d (at + 1)) ∙ run_end_stop d (at + 1) (omega arith) k) ∙ m));
              beyond = λ k m. joins_snoc k x.events (data_run at (e - at)) ∙ ne_eqb (at + (e - at)) k (omega arith);
              outside = λ none. absurd (run_within c s es accepted d at l r.marked z x r.passes settles few v a passes none);
            },
          )

      pub refused_run : {n k : ℕ} → take_run s es D at (run_end d (at + 1) - at) z ≡ refused n k → document c s es D d ≡ refused n k
      refused_run {n} {k} v = stopped (data_stop c s es D d at l z under fit n k h (run_refused s es D at (run_end d (at + 1) - at) z n k v))
