-- What one piece does to the line, the state and what came, in the seven ways that differ for record ends; and what every piece keeps.
use Rattle.std.specs.Prelude.{ℕ, ◌+◌, ◌-◌, ◌<◌, ◌≡◌, Bool, ◌&&◌, ◌||◌, ◌⊎◌, length, drop, eqb, leb}
use Rattle.std.proofs.Common.{arith, ◌∙◌, inl, inr, eqb-true, leb-true}
use Rattle.std.proofs.Math.Path.{refl, sym, ap, subst}
use Rattle.std.proofs.Math.Bool.{true, false}
use mathlib.Core.List.{List, [], ◌∷◌, ◌++◌}
use Rattle.std.proofs.lemmas.Bool.{eqb-false}
use Rattle.rules.specs.Settings.{Settings, is_second}
use Rattle.rules.specs.Bytes.{byte_at, RS, RE, STAGO, MDC}
use Rattle.rules.specs.Reading.{got}
use Rattle.rules.specs.TypeFile.{Element}
use Rattle.rules.specs.Document.{Piece, start_tag, end_tag, skipped, blank, data_byte}
use Rattle.rules.specs.Decisions.{pcdata, Decisions}
use Rattle.rules.specs.Events.{Event, data_run, with_data}
use Rattle.rules.specs.Settling.{State, nothing_open, fitting}
use Rattle.rules.specs.Records.{Line, new_line, at_once, mark_behind, ignored_behind, taken_behind, line_after}
use Rattle.rules.specs.Reader.{Reached, settle_piece, piece_under}
use Rattle.rules.specs.RecordEnds.{Thing, markup, boundary, record_end, datum, Contents, no_contents, add, sort, after_sort, after_events, new_in, end_thing, add_blank, contents_after, Fills, begins, goes}
use Rattle.rules_laws.specs.Holds.{got_so}
use Rattle.document_laws.specs.Moves.{state}
use Rattle.acts.specs.Pieces.{PieceSettled, start_tag_lem, end_tag_lem, passed_over, blank_data, no_data_lem, byte, settle_piece_settled}
use Rattle.record_laws.specs.Counts.{and_parts}
use Rattle.record_laws.specs.Pieces.{Found, piece_found}
use Rattle.record_laws.specs.Moves.{Comes, comes_moves, Takes, place_for, Data, data_taken, still, moves_adds, moves_new, tagged_comes, closed_comes, datum_data}

-- A data byte starts and ends nothing, whether its run goes on or begins.

run_same : (b : Bool) (e : Event) (at : ℕ) (k : Contents) → eqb e.kind 5 ≡ true ⊎ (b ≡ false) → after_events (elim b as (λ _. List Event) [ true ↦ data_run e.offset (e.size + 1) ∷ [] | false ↦ e ∷ data_run at 1 ∷ [] ]) k ≡ after_events (e ∷ []) k
unfolding after_events
run_same true e at k (inl q) = let h : e.kind ≡ 5 = eqb-true e.kind 5 q in rw h refl
run_same true e at k (inr q) = absurd (let z : ◌≡◌ {A = ℕ} 0 1 = cc in omega arith)
run_same false e at k q = refl

after_run : (at : ℕ) (ev : List Event) (k : Contents) → after_events (with_data at ev) k ≡ after_events ev k
unfolding with_data after_events
after_run at [] k = refl
after_run at (e ∷ []) k = run_same (eqb e.kind 5 && eqb (e.offset + e.size) at) e at k (and_parts (eqb e.kind 5) (eqb (e.offset + e.size) at))
after_run at (e ∷ f ∷ ev) k = after_run at (f ∷ ev) (after_sort (sort e) k)

last_run : (b : Bool) (e : Event) (at : ℕ) (k : Contents) → after_events (drop 1 (elim b as (λ _. List Event) [ true ↦ data_run e.offset (e.size + 1) ∷ [] | false ↦ e ∷ data_run at 1 ∷ [] ])) k ≡ k
unfolding after_events
last_run true e at k = refl
last_run false e at k = refl

after_data : (at : ℕ) (ev new : List Event) (k : Contents) → after_events (new_in ev (with_data at (ev ++ new))) k ≡ after_events new k
unfolding with_data after_events
after_data at [] new k = after_run at new k
after_data at (e ∷ []) [] k = last_run (eqb e.kind 5 && eqb (e.offset + e.size) at) e at k
after_data at (e ∷ []) (f ∷ new) k = after_run at (f ∷ new) k
after_data at (e ∷ f ∷ ev) new k = after_data at (f ∷ ev) new k

-- A piece

pub data Turn (c : Settings) (s : List ℕ) (es : List Element) (D : Decisions) (d : List ℕ) (at : ℕ) (l : Line) (z : State) (k : Contents) : ℕ → Line → State → Contents → Type 0 where
  -- A tag, which opens or closes an element.
  tags : (after : ℕ) {y : State} (t : Comes z k y) → byte_at d at ≡ STAGO → at < after → byte_at d (after - 1) ≡ MDC → Turn c s es D d at l z k after (taken_behind after l) y t.contents
  markups : (after : ℕ) → byte_at d at ≡ STAGO → at < after → Turn c s es D d at l z k after l z (add markup k)
  tens : byte_at d at ≡ RS → Turn c s es D d at l z k (at + 1) (record { since = l.since; mark = at + 1 }) z (add boundary k)
  -- A byte 13 that would be data, and is ignored by what stands before.
  dropped : byte_at d at ≡ RE → leb 1 (fitting s es D z.current pcdata) ≡ true → at_once d at l z.current ≡ true → Turn c s es D d at l z k (at + 1) (record { since = l.since; mark = at + 1 }) z (add (record_end at) k)
  -- A byte 9, 13 or 32 that would not be data.
  ignored : leb 1 (fitting s es D z.current pcdata) ≡ false → (m : ℕ) → (m ≡ at + 1) ⊎ (m ≡ l.mark) → (j : Contents) → (j ≡ k) ⊎ (j ≡ add boundary k) → Turn c s es D d at l z k (at + 1) (record { since = l.since; mark = m }) z j
  -- A byte 13 that would be data and takes its place.
  takes : byte_at d at ≡ RE → leb 1 (fitting s es D z.current pcdata) ≡ true → (is_second c ≡ true → at_once d at l z.current ≡ false)
      → Turn c s es D d at l z k (at + 1) (taken_behind (at + 1) l) (data_taken s es D at z) (add (record_end at) k)
  -- Another data byte.
  bytes : ¬ (byte_at d at ≡ RE) → {w : State} (t : Takes (place_for s es D pcdata) z k w) → Turn c s es D d at l z k (at + 1) (taken_behind (at + 1) l) (state w.current w.around (with_data at w.events)) (add (datum at) t.contents)

-- The byte at i is one and another.
two_bytes : {A : Type 0} (d : List ℕ) (i : ℕ) {a b : ℕ} → byte_at d i ≡ a → byte_at d i ≡ b → ¬ (a ≡ b) → A
two_bytes d i e f n = absurd (n (sym e ∙ f))

module _ (c : Settings) (s : List ℕ) (es : List Element) (D : Decisions) (d : List ℕ) (at : ℕ) (l : Line) (z : State) (k : Contents) where
  abbrev Turned : ℕ → Line → State → Contents → Type 0
  Turned i m y j = Turn c s es D d at l z k i m y j

  abbrev fits : Bool
  fits = leb 1 (fitting s es D z.current pcdata)

  abbrev here : ℕ
  here = byte_at d at

  skipped_turn : (e : ℕ) → Found c d at l z.current (skipped e) → (x y f : Bool) → eqb here RS ≡ x → eqb here RE ≡ y → fits ≡ f
      → Turned e (record { since = l.since; mark = elim (x || y) as (λ _. ℕ) [ true ↦ at + 1 | false ↦ l.mark ] }) z (add (elim x as (λ _. Thing) [ true ↦ boundary | false ↦ elim y as (λ _. Thing) [ true ↦ end_thing f at | false ↦ markup ] ]) k)
  skipped_turn e (inl (inl (b, q))) true y f p r g = subst (λ (n : ℕ). Turned n (record { since = l.since; mark = at + 1 }) z (add boundary k)) (sym q) (tens b)
  skipped_turn e (inl (inl (b, q))) false y f p r g = absurd (eqb-false here RS p b)
  skipped_turn e (inl (inr (b, q))) true y f p r g = two_bytes d at b (eqb-true here RS p) (λ h. omega arith)
  skipped_turn e (inl (inr (b, q))) false true f p r g = two_bytes d at b (eqb-true here RE r) (λ h. omega arith)
  skipped_turn e (inl (inr (b, q))) false false f p r g = markups e b q
  skipped_turn e (inr (b, q, o)) true y f p r g = two_bytes d at b (eqb-true here RS p) (λ h. omega arith)
  skipped_turn e (inr (b, q, o)) false true true p r g = subst (λ (n : ℕ). Turned n (record { since = l.since; mark = at + 1 }) z (add (record_end at) k)) (sym q) (dropped b g o)
  skipped_turn e (inr (b, q, o)) false true false p r g = subst (λ (n : ℕ). Turned n (record { since = l.since; mark = at + 1 }) z (add boundary k)) (sym q) (ignored g (at + 1) (inl refl) (add boundary k) (inr refl))
  skipped_turn e (inr (b, q, o)) false false f p r g = absurd (eqb-false here RE r b)

  -- What is reached by a piece.
  abbrev By : Piece → Reached → Type 0
  By p r = Turned r.at (line_after s es D d p at l z) r.state (contents_after s es D d p at z r.state k)

  mark_either : (b : Bool) → ◌⊎◌ (elim b as (λ _. ℕ) [ true ↦ at + 1 | false ↦ l.mark ] ≡ at + 1) (elim b as (λ _. ℕ) [ true ↦ at + 1 | false ↦ l.mark ] ≡ l.mark)
  mark_either true = inl refl
  mark_either false = inr refl

  -- A blank where data fits, and elsewhere.
  blank_taken : Found c d at l z.current blank → fits ≡ true → Turned (at + 1) (taken_behind (at + 1) l) (data_taken s es D at z) (add_blank true here at k)
  blank_taken h f = by_byte (eqb here RE) refl
    where
      by_byte : (x : Bool) → eqb here RE ≡ x → Turned (at + 1) (taken_behind (at + 1) l) (data_taken s es D at z) (elim x as (λ _. Contents) [ true ↦ add (record_end at) k | false ↦ add (datum at) k ])
      by_byte true e =
          let b = eqb-true here RE e in
          takes b f (λ i. h i b)
      by_byte false e = bytes (eqb-false here RE e) (record { here = z; contents = k; moves = still; taken = refl; fits = λ i. leb-true 1 (fitting s es D z.current pcdata) f })

  blank_passed : fits ≡ false → Turned (at + 1) (ignored_behind d at l) z (add_blank false here at k)
  blank_passed f = ignored f (mark_behind d at l.mark) (mark_either (eqb here RS || eqb here RE)) (add_blank false here at k) (by_byte (eqb here RE))
    where
      by_byte : (x : Bool) → ◌⊎◌ (◌≡◌ {A = Contents} (elim x as (λ _. Contents) [ true ↦ add boundary k | false ↦ k ]) k) (◌≡◌ {A = Contents} (elim x as (λ _. Contents) [ true ↦ add boundary k | false ↦ k ]) (add boundary k))
      by_byte true = inr refl
      by_byte false = inl refl

  piece_turn : (p : Piece) → Found c d at l z.current p → {r : Reached} → PieceSettled s es D at z p r → By p r
  unfolding line_after contents_after
  piece_turn (start_tag t) h (start_tag_lem {x = y} n u a) =
      let w = tagged_comes s es D n at t.after z k a in
      subst (λ (j : Contents). Turned t.after (taken_behind t.after l) y j) (moves_new (comes_moves w)) (tags t.after w h.0 h.1.0 h.1.1)
  piece_turn (end_tag t) h (end_tag_lem {x = y} n u a) =
      let w = closed_comes s es D n at t.after z k a in
      subst (λ (j : Contents). Turned t.after (taken_behind t.after l) y j) (moves_new (comes_moves w)) (tags t.after w h.0 h.1.0 h.1.1)
  piece_turn (skipped e) h passed_over = skipped_turn e h (eqb here RS) (eqb here RE) fits refl refl refl
  piece_turn blank h (blank_data {x} f q few) =
      subst (λ (w : State). Turned (at + 1) (elim fits as (λ _. Line) [ true ↦ taken_behind (at + 1) l | false ↦ ignored_behind d at l ]) w (add_blank fits here at k)) (sym q)
      (subst (λ (b : Bool). Turned (at + 1) (elim b as (λ _. Line) [ true ↦ taken_behind (at + 1) l | false ↦ ignored_behind d at l ]) (data_taken s es D at z) (add_blank b here at k)) (sym f) (blank_taken h f))
  piece_turn blank h (no_data_lem f) =
      subst (λ (b : Bool). Turned (at + 1) (elim b as (λ _. Line) [ true ↦ taken_behind (at + 1) l | false ↦ ignored_behind d at l ]) z (add_blank b here at k)) (sym f) (blank_passed f)
  piece_turn data_byte h (byte {x} a) = datum_turn x (datum_data s es D at z k a)
    where
      datum_turn : (y : State) → Data s es D at z k y → Turned (at + 1) (taken_behind (at + 1) l) y (add (datum at) (after_events (new_in z.events y.events) k))
      datum_turn y (w, t, q) =
          let m = moves_adds t.moves in
          let e : w.events ≡ z.events ++ m.new = ap (λ (x : State). x.events) t.taken ∙ m.adds in
          let j : t.contents ≡ after_events (new_in z.events (with_data at w.events)) k = m.moved ∙ sym (after_data at z.events m.new k) ∙ ap (λ (ev : List Event). after_events (new_in z.events (with_data at ev)) k) (sym e) in
          subst (λ (x : State). Turned (at + 1) (taken_behind (at + 1) l) x (add (datum at) (after_events (new_in z.events x.events) k))) (sym q)
          (subst (λ (i : Contents). Turned (at + 1) (taken_behind (at + 1) l) (state w.current w.around (with_data at w.events)) (add (datum at) i)) j (bytes h t))

-- What a piece that is settled does.
pub goes_turn : (c : Settings) (s : List ℕ) (es : List Element) (D : Decisions) (d : List ℕ) (at : ℕ) (l : Line) (z : State) (k : Contents) {p : Piece} {r : Reached} → at < length d → piece_under c s es d at l z.current ≡ got p → settle_piece s es D d p at z ≡ got r
    → Turn c s es D d at l z k r.at (line_after s es D d p at l z) r.state (contents_after s es D d p at z r.state k)
goes_turn c s es D d at l z k {p} i u e = piece_turn c s es D d at l z k p (piece_found c d at l z.current s es i u) (got_so (settle_piece_settled s es D d p at z) e)

-- What holds at first, and what every piece keeps, holds wherever reading comes to.
module _ {c : Settings} {s : List ℕ} {es : List Element} {D : Decisions} {d : List ℕ} (P : ℕ → Line → State → Contents → Type 0) (b : P 0 new_line nothing_open no_contents) where
  pub fills_with : ((at i : ℕ) (l m : Line) (z y : State) (k j : Contents) → Fills c s es D d at l z k → Fills c s es D d i m y j → Turn c s es D d at l z k i m y j → P at l z k → P i m y j)
      → {at : ℕ} {l : Line} {z : State} {k : Contents} → Fills c s es D d at l z k → P at l z k
  fills_with f begins = b
  fills_with f (goes {at} {l} {z} {k} {p} r h i u e) =
      f at r.at l (line_after s es D d p at l z) z r.state k (contents_after s es D d p at z r.state k) h (goes r h i u e)
      (goes_turn c s es D d at l z k i u e) (fills_with f h)

  pub fills_keep : ((at i : ℕ) (l m : Line) (z y : State) (k j : Contents) → Turn c s es D d at l z k i m y j → P at l z k → P i m y j)
      → {at : ℕ} {l : Line} {z : State} {k : Contents} → Fills c s es D d at l z k → P at l z k
  fills_keep f h = fills_with (λ at i l m z y k j g g' t p. f at i l m z y k j t p) h
