-- What is due behind a start tag or a run of data: what was settled before it, the starts that were inferred, and what is shown of its own events.
use Rattle.std.specs.Prelude.{ℕ, zero, suc, ◌-◌, ◌≤◌, ◌<◌, ◌≡◌, refl, Bool, true, false, List, [], ◌∷◌, ◌++◌, eqb}
use Rattle.std.proofs.Common.{sym, ◌∙◌, ap, append_assoc, arith}
use Rattle.rules.specs.Settings.{Settings}
use Rattle.rules.specs.Events.{Event, start_written, data_run, end_of_empty}
use Rattle.rules.specs.Records.{is_end, due_run, records_settled}
use Rattle.rules_laws.specs.In.{none, more, all_snoc}
use Rattle.record_due.specs.Due.{due}
use Rattle.record_due.specs.Lists.{Ends, Quiet, settled_quiet, due_quiet, settled_run, run_whole}
use Rattle.turn_laws.specs.Latest.{is_held, latest_run, held_due}
use Rattle.inferring.specs.Inferring.{EndsAt, no_end, one_end, StartsAt, no_start, one_start}
use Rattle.placing.specs.Noting.{written_of, shown_of}

-- Ends that are inferred are ends, and starts that are inferred are neither ends nor data.
pub ends_are : {at : ℕ} {ev : List Event} → EndsAt at ev → Ends ev
ends_are no_end = none
ends_are (one_end k h) = all_snoc (ends_are h) refl

pub starts_are : {at : ℕ} {ev : List Event} → StartsAt at ev → Quiet ev
starts_are no_start = none
starts_are (one_start k p h) = all_snoc (starts_are h) (refl, refl)

-- A run of data is shown to `shown`.
shown_run : (b : Bool) (p at shown n : ℕ) → shown - at ≡ n → shown_of 0 b p at shown ≡ due_run at n
shown_run b p at shown zero e = rw e refl
shown_run b p at shown (suc n) e = rw e refl

module _ (c : Settings) (d : List ℕ) (ev : List Event) {starts : List Event} (quiet : Quiet starts) where
  -- What is settled before the token's own events.
  settled_starts : records_settled c d (ev ++ starts) ≡ records_settled c d ev ++ starts
  settled_starts = settled_quiet c d ev quiet

  due_tag : (f : Event) (b : List Event) → (is_end f ≡ false) × (eqb f.kind 5 ≡ false) → Quiet b → due c d ((ev ++ starts) ++ f ∷ b) ≡ records_settled c d ev ++ (starts ++ f ∷ b)
  due_tag f b h q = due_quiet c d (ev ++ starts) f b h q ∙ ap (λ (v : List Event). v ++ f ∷ b) settled_starts ∙ append_assoc (records_settled c d ev) starts (f ∷ b)

  module _ (at after shown : ℕ) (on : at < after) (held : is_held c d after ≡ true → shown ≡ after - 1) (free : is_held c d after ≡ false → shown ≡ after) where
    due_data : (b : Bool) (p : ℕ) (h : Bool) → is_held c d after ≡ h → due c d ((ev ++ starts) ++ data_run at (after - at) ∷ []) ≡ records_settled c d ev ++ (starts ++ shown_of 0 b p at shown)
    due_data b p true h =
        let few : shown - at ≡ after - at - 1 = omega (arith, held h) in
        held_due c d after at on (ev ++ starts) h ∙ ap (λ (v : List Event). v ++ due_run at (after - at - 1)) settled_starts ∙ append_assoc (records_settled c d ev) starts (due_run at (after - at - 1))
        ∙ ap (λ (v : List Event). records_settled c d ev ++ (starts ++ v)) (sym (shown_run b p at shown (after - at - 1) few))
    due_data b p false h =
        let all : shown - at ≡ after - at = omega (arith, free h) in
        let run = data_run at (after - at) ∷ [] in
        (latest_run c d after at on (ev ++ starts)).other h ∙ settled_run c d (ev ++ starts) at (after - at) ∙ ap (λ (v : List Event). v ++ run) settled_starts ∙ append_assoc (records_settled c d ev) starts run
        ∙ ap (λ (v : List Event). records_settled c d ev ++ (starts ++ v)) (sym (shown_run b p at shown (after - at) all ∙ run_whole at (after - at) (omega arith)))

    -- A tag ends where it is shown to end.
    pub due_token : (x : ℕ) (b : Bool) (p : ℕ) → (1 ≤ x → after ≡ shown) → due c d ((ev ++ starts) ++ written_of x b p at after) ≡ records_settled c d ev ++ (starts ++ shown_of x b p at shown)
    due_token zero b p e = due_data b p (is_held c d after) refl
    due_token (suc k) true p e =
        let same = e (omega arith) in
        rw same (due_tag (start_written (suc k) at shown p) [] (refl, refl) none)
    due_token (suc k) false p e =
        let same = e (omega arith) in
        rw same (due_tag (start_written (suc k) at shown p) (end_of_empty (suc k) shown ∷ []) (refl, refl) (more (refl, refl) none))
