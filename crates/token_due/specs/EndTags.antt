-- What is due behind an end tag: it brings ends alone.
use Rattle.std.specs.Prelude.{ℕ, ◌≡◌, refl, List, [], ◌∷◌, ◌++◌}
use Rattle.std.proofs.Common.{sym, ◌∙◌, ap, subst, append_assoc}
use Rattle.std.proofs.lemmas.List.{append_cancel_left}
use Rattle.rules.specs.Settings.{Settings}
use Rattle.rules.specs.Reading.{got}
use Rattle.rules.specs.TypeFile.{Element}
use Rattle.rules.specs.Decisions.{Decisions}
use Rattle.rules.specs.Events.{Event, end_written}
use Rattle.rules.specs.Settling.{State, end_element}
use Rattle.rules_laws.specs.Holds.{got_so}
use Rattle.rules_laws.specs.In.{all_snoc}
use Rattle.acts.specs.Settled.{end_element_closes}
use Rattle.record_due.specs.Due.{due}
use Rattle.record_due.specs.Lists.{Ends, due_ends}
use Rattle.turn_laws.specs.Latest.{ended_behind}

-- What was due stands, and what the end tag brings behind it.
pub due_end_tag : (s : List ℕ) (es : List Element) (D : Decisions) (c : Settings) (d : List ℕ) (k at after : ℕ) (z y : State) (b : List Event) → end_element s es D k at after z ≡ got y → y.events ≡ z.events ++ b → due c d y.events ≡ due c d z.events ++ b
due_end_tag s es D c d k at after z y b e w =
    let x = got_so (end_element_closes s es D k at after z) e in
    let v = ended_behind x.ended in
    let last = end_written k at after ∷ [] in
    let adds : y.events ≡ z.events ++ (v.ends ++ last) = ap (λ (i : State). i.events) x.is ∙ ap (λ (i : List Event). i ++ last) v.adds ∙ append_assoc z.events v.ends last in
    let same : b ≡ v.ends ++ last = append_cancel_left z.events b (v.ends ++ last) (sym w ∙ adds) in
    rw w (due_ends c d z.events (subst Ends (sym same) (all_snoc v.are refl)))
