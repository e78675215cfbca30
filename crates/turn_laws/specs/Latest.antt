-- Which event is the last, by where the last tag or data ended: a run of data whose last byte is a byte 13 is held in edition 2, until it is known whether an end comes
-- next. And what the document's end does to the events that are due.
use Rattle.std.specs.Prelude.{ℕ, ◌+◌, ◌-◌, ◌<◌, ◌≡◌, refl, Bool, true, false, ◌&&◌, length, eqb, ltb}
use Rattle.std.proofs.Common.{sym, ◌∙◌, ap, subst, arith, eq-eqb, ne_eqb, lt-ltb}
use Rattle.std.proofs.lemmas.Bool.{false≢true}
use mathlib.Core.List.{List, [], ◌∷◌, ◌++◌, append-nil, append_assoc, append_cancel_left, cons≢nil}
use Rattle.rules.specs.Settings.{Settings, is_second}
use Rattle.rules.specs.Bytes.{byte_at, RE, MDC}
use Rattle.rules.specs.Reading.{got}
use Rattle.rules.specs.TypeFile.{Element}
use Rattle.rules.specs.Document.{Tag, Piece, start_tag, end_tag, piece}
use Rattle.rules.specs.Decisions.{Decisions}
use Rattle.rules.specs.Events.{Event, data_run, end_inferred}
use Rattle.rules.specs.Settling.{State, start_element, end_element, end_document}
use Rattle.rules.specs.Records.{Line, is_end, due_run, cut, cut_before_ends, records_settled}
use Rattle.rules.specs.Reader.{piece_under}
use Rattle.rules_laws.specs.Holds.{got_so}
use Rattle.rules_laws.specs.In.{none, more}
use Rattle.rules_laws.specs.Pieces.{piece_read}
use Rattle.document_laws.specs.Decide.{decided}
use Rattle.document_laws.specs.Moves.{state}
use Rattle.document_laws.specs.Under.{Stands, unchanged, ignored, stands, under_text}
use Rattle.record_due.specs.Due.{due_now, due, due_none, settled_none, shown_run, shown_held}
use Rattle.record_due.specs.Lists.{Ends, settled_ends, settled_run, due_run_lem}
use Rattle.acts.specs.Settled.{Ended, all_ended, ends_then, end_document_closed}
use Rattle.turn_laws.specs.RunAtOnce.{joins}
use Rattle.turn_laws.specs.Leaves.{start_element_parted, end_element_parted}
use Rattle.turn_laws.specs.Turns.{Reaches}

-- The last event

-- What ended at `since` was a run of data whose last byte is a byte 13, in edition 2: a tag ends in `>`.
abbrev pub is_held : Settings → (d : List ℕ) → (since : ℕ) → Bool
is_held c d since = is_second c && (ltb 0 since && eqb (byte_at d (since - 1)) RE)

-- Where a run is held, it is the last of the events and began at `from`; else what is due is settled.
pub record Latest (c : Settings) (d : List ℕ) (since from : ℕ) (ev : List Event) : Type 0 where
  pub held : is_held c d since ≡ true → (before : List Event) × (ev ≡ before ++ data_run from (since - from) ∷ []) × (from < since)
  pub other : is_held c d since ≡ false → due c d ev ≡ records_settled c d ev

-- Where data goes on no event, the last one is no data.
now_settled : (d : List ℕ) (ev : List Event) → ((j : ℕ) → joins j ev ≡ false) → due_now d ev ≡ cut_before_ends d ev
unfolding due_now cut_before_ends cut
now_settled d [] h = refl
now_settled d (e ∷ []) h = go (eqb e.kind 5) (h (e.offset + e.size))
  where
    go : (k : Bool) → (k && eqb (e.offset + e.size) (e.offset + e.size)) ≡ false
        → ◌≡◌ {A = List Event} (elim (k && eqb (byte_at d (e.offset + e.size - 1)) RE) [ true ↦ due_run e.offset (e.size - 1) | false ↦ e ∷ [] ]) (e ∷ [])
    go true i = absurd (false≢true (sym i ∙ eq-eqb (e.offset + e.size) (e.offset + e.size) refl))
    go false i = refl
now_settled d (e ∷ f ∷ ev) h = ap (λ (v : List Event). elim (is_end f) [ true ↦ cut d e | false ↦ e ∷ [] ] ++ v) (now_settled d (f ∷ ev) h)

pub parted_due : (c : Settings) (d : List ℕ) (ev : List Event) → ((j : ℕ) → joins j ev ≡ false) → due c d ev ≡ records_settled c d ev
unfolding due records_settled
parted_due c d ev h = ap (λ (v : List Event). elim (is_second c) [ true ↦ v | false ↦ ev ]) (now_settled d ev h)

pub latest_start : (c : Settings) (d : List ℕ) (from : ℕ) → Latest c d 0 from []
latest_start c d from = record { held = λ h. absurd (false≢true (sym (never (is_second c)) ∙ h)); other = λ h. due_none c d ∙ sym (settled_none c d) }
  where
    never : (b : Bool) → (b && (ltb 0 0 && eqb (byte_at d (0 - 1)) RE)) ≡ false
    never true = refl
    never false = refl

-- Behind a tag nothing is held.

closed_free : (c : Settings) (d : List ℕ) (after : ℕ) → byte_at d (after - 1) ≡ MDC → is_held c d after ≡ false
closed_free c d after e = go (is_second c) (ltb 0 after)
  where
    other : eqb (byte_at d (after - 1)) RE ≡ false
    other = ne_eqb (byte_at d (after - 1)) RE (λ q. omega arith)

    go : (a b : Bool) → (a && (b && eqb (byte_at d (after - 1)) RE)) ≡ false
    go true true = other
    go true false = refl
    go false b = refl

latest_tag : (c : Settings) (d : List ℕ) (after from : ℕ) (ev : List Event) → byte_at d (after - 1) ≡ MDC → ((j : ℕ) → joins j ev ≡ false) → Latest c d after from ev
latest_tag c d after from ev e h = record { held = λ q. absurd (false≢true (sym (closed_free c d after e) ∙ q)); other = λ q. parted_due c d ev h }

module _ (c : Settings) (s : List ℕ) (es : List Element) (d : List ℕ) (at : ℕ) (l : Line) (z : State) (inside : at < length d) {t : Tag} (k from : ℕ) {y : State} where
  pub latest_start_tag : piece_under c s es d at l z.current ≡ got (start_tag t) → start_element s es (decided s es) k at t.after z ≡ got y → Latest c d t.after from y.events
  latest_start_tag e v =
      let u = under_text c s es d at l z.current e in
      latest_tag c d t.after from y.events (closed u.text (start_tag t) (subst (Stands c s es d at l z.current u.text) u.is (stands c s es d at l z.current u.text)) refl u.there) (got_so (start_element_parted s es (decided s es) k at t.after z) v)
    where
      closed : (q p : Piece) → Stands c s es d at l z.current q p → p ≡ start_tag t → piece c.name_length d at ≡ got q → byte_at d (t.after - 1) ≡ MDC
      closed q p unchanged i there = (got_so (piece_read c.name_length d at inside) (there ∙ ap got i)).closes
      closed q p (ignored n) i there = let no : ◌≡◌ {A = ℕ} 0 1 = cc in absurd (omega arith)

  pub latest_end_tag : piece_under c s es d at l z.current ≡ got (end_tag t) → end_element s es (decided s es) k at t.after z ≡ got y → Latest c d t.after from y.events
  latest_end_tag e v =
      let u = under_text c s es d at l z.current e in
      latest_tag c d t.after from y.events (closed u.text (end_tag t) (subst (Stands c s es d at l z.current u.text) u.is (stands c s es d at l z.current u.text)) refl u.there) (got_so (end_element_parted s es (decided s es) k at t.after z) v)
    where
      closed : (q p : Piece) → Stands c s es d at l z.current q p → p ≡ end_tag t → piece c.name_length d at ≡ got q → byte_at d (t.after - 1) ≡ MDC
      closed q p unchanged i there = (got_so (piece_read c.name_length d at inside) (there ∙ ap got i)).closes
      closed q p (ignored n) i there = let no : ◌≡◌ {A = ℕ} 0 1 = cc in absurd (omega arith)

-- Behind a run it is held where its last byte is a byte 13.

module _ (c : Settings) (d : List ℕ) (since from : ℕ) (h : from < since) where
  ends_there : from + (since - from) - 1 ≡ since - 1
  ends_there = omega arith

  free : is_held c d since ≡ false → (is_second c && eqb (byte_at d (from + (since - from) - 1)) RE) ≡ false
  free q = ap (λ (n : ℕ). is_second c && eqb (byte_at d n) RE) ends_there ∙ ap (λ (b : Bool). is_second c && (b && eqb (byte_at d (since - 1)) RE)) (sym (lt-ltb 0 since (omega arith))) ∙ q

  taken : is_held c d since ≡ true → (is_second c && eqb (byte_at d (from + (since - from) - 1)) RE) ≡ true
  taken q = ap (λ (n : ℕ). is_second c && eqb (byte_at d n) RE) ends_there ∙ ap (λ (b : Bool). is_second c && (b && eqb (byte_at d (since - 1)) RE)) (sym (lt-ltb 0 since (omega arith))) ∙ q

  pub latest_run : (ev : List Event) → Latest c d since from (ev ++ data_run from (since - from) ∷ [])
  latest_run ev =
      record {
        held = λ q. (ev, refl, h);
        other = λ q. due_run_lem c d ev from (since - from) ∙ ap (λ (v : List Event). records_settled c d ev ++ v) (shown_run c d from (since - from) (free q)) ∙ sym (settled_run c d ev from (since - from));
      }

  -- What is due of a run that is held, and what is settled of it.
  pub held_due : (ev : List Event) → is_held c d since ≡ true → due c d (ev ++ data_run from (since - from) ∷ []) ≡ records_settled c d ev ++ due_run from (since - from - 1)
  held_due ev q = due_run_lem c d ev from (since - from) ∙ ap (λ (v : List Event). records_settled c d ev ++ v) (shown_held c d from (since - from) (taken q))

-- The document's end

-- Behind the events of z stand ends alone in y, and where there are none nothing has ended.
pub record EndsBehind (z y : State) : Type 0 where
  pub ends : List Event
  pub are : Ends ends
  pub adds : y.events ≡ z.events ++ ends
  pub none : ends ≡ [] → y ≡ z

-- Others come behind one end.
ends_first : (z w y : State) (e : Event) → is_end e ≡ true → w.events ≡ z.events ++ e ∷ [] → EndsBehind w y → EndsBehind z y
ends_first z w y e i q r =
    record { ends = e ∷ r.ends; are = more i r.are; adds = r.adds ∙ ap (λ (l : List Event). l ++ r.ends) q ∙ append_assoc z.events (e ∷ []) r.ends; none = λ n. absurd (cons≢nil n) }

pub ended_behind : {s : List ℕ} {es : List Element} {D : Decisions} {at : ℕ} {z y : State} → Ended s es D at z y → EndsBehind z y
ended_behind {z = z} all_ended = record { ends = []; are = none; adds = sym (append-nil z.events); none = λ e. refl }
ended_behind {at = at} {z} {y} (ends_then u us e c o r) = ends_first z (state u us (z.events ++ end_inferred z.current.element at ∷ [])) y (end_inferred z.current.element at) refl refl (ended_behind r)

-- What was due stands, and the ends behind it.
pub end_settles : {c : Settings} {s : List ℕ} {es : List Element} {d : List ℕ} {at : ℕ} {l : Line} {z : State} → Reaches c s es d at l z → (b : List Event) → end_document s es (decided s es) (length d) z ≡ got (z.events ++ b)
    → records_settled c d (z.events ++ b) ≡ due c d z.events ++ b
end_settles {c} {s} {es} {d} {z = z} r b e =
    let a = got_so (end_document_closed s es (decided s es) (length d) z) e in
    let x = ended_behind a.ended in
    let same : b ≡ x.ends = append_cancel_left z.events b x.ends (sym a.events ∙ x.adds) in
    go b (subst Ends (sym same) x.are) (λ i. ap (λ (w : State). w.around) (sym (x.none (sym same ∙ i))) ∙ a.nothing)
  where
    go : (b : List Event) → Ends b → (b ≡ [] → z.around ≡ []) → records_settled c d (z.events ++ b) ≡ due c d z.events ++ b
    go [] none some = ap (records_settled c d) (append-nil z.events) ∙ sym (parted_due c d z.events (r.outside (some refl))) ∙ sym (append-nil (due c d z.events))
    go (f ∷ b) (more i ends) some = settled_ends c d z.events f b i ends
