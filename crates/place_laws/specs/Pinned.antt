-- What the events before an event did leaves one state: it is computed from these events alone.
use Rattle.std.specs.Prelude.{ℕ, ◌≡◌, refl, true, false, List, [], ◌∷◌, ◌++◌, eqb}
use Rattle.std.proofs.Common.{sym, ◌∙◌, ap, append_assoc}
use Rattle.rules.specs.TypeFile.{Element}
use Rattle.rules.specs.Elements.{content_of, has_model}
use Rattle.rules.specs.Decisions.{start, Decisions}
use Rattle.rules.specs.Events.{Event, start_written, start_inferred, end_written, end_inferred, data_run, end_of_empty}
use Rattle.rules.specs.Settling.{Open, State, nothing_open, take_place, place_taken, enter, note, required_place, take_token}
use Rattle.rules.specs.Acts.{data_taken, Deed, opened, passed, inferred, fitted, inferred_end, closed, Deeds, nothing, then}
use Rattle.place_laws.specs.Taken.{data_keeps}

module _ (s : List ℕ) (es : List Element) (D : Decisions) where
  -- The current element is closed in what lies around it.
  abbrev shut : List Open → Event → State → State
  shut [] e z = z
  shut (u ∷ us) e z = record { current = u; around = us; events = z.events ++ e ∷ [] }

  -- The state that the event leads to, by its kind, its element and its length.
  abbrev left : Event → State → State
  left e z =
      elim (eqb e.kind 1) [
        | true ↦ elim (has_model (content_of es e.number)) [
          | true ↦ note e (enter e.number (take_token s es D (start e.number) z))
          | false ↦ note e (take_token s es D (start e.number) z)
        ]
        | false ↦ elim (eqb e.kind 2) [
          | true ↦ note e (enter e.number (take_place (required_place s es D z.current) z))
          | false ↦ elim (eqb e.kind 5) [
            | true ↦ note e (data_taken s es D e.size z)
            | false ↦ elim (eqb e.kind 6) [ true ↦ note e z | false ↦ shut z.around e z ]
          ]
        ]
      ]

  abbrev left_by : List Event → State → State
  left_by [] z = z
  left_by (e ∷ ev) z = left_by ev (left e z)

  left_by_behind : (ev fv : List Event) (z : State) → left_by (ev ++ fv) z ≡ left_by fv (left_by ev z)
  left_by_behind [] fv z = refl
  left_by_behind (x ∷ ev) fv z = left_by_behind ev fv (left x z)

  -- A deed adds one event or two, which lead where the deed does.
  deed_left : {z y : State} → Deed s es D z y → (ev : List Event) × (y.events ≡ z.events ++ ev) × (y ≡ left_by ev z)
  deed_left {z} (opened k at after d f m) = (start_written k at after (place_taken (take_token s es D (start k) z).current) ∷ [], refl, rw m)
  deed_left {z} (passed k at after d f m l) =
      let x = start_written k at after (place_taken (take_token s es D (start k) z).current) in
      (x ∷ end_of_empty k after ∷ [], append_assoc z.events (x ∷ []) (end_of_empty k after ∷ []), rw m)
  deed_left {z} (inferred k at e l) = (start_inferred k at (place_taken (take_place (required_place s es D z.current) z).current) ∷ [], refl, refl)
  deed_left {z} (fitted at size l f) = (data_run at size ∷ [], ap (λ (ev : List Event). ev ++ data_run at size ∷ []) (data_keeps s es D size z), refl)
  deed_left {z} (inferred_end u us at e c o) = (end_inferred z.current.element at ∷ [], refl, rw e)
  deed_left {z} (closed u us at after e c) = (end_written z.current.element at after ∷ [], refl, rw e)

  deeds_left : {z : State} → Deeds s es D z → z ≡ left_by z.events nothing_open
  deeds_left nothing = refl
  deeds_left (then {z} d x) =
      let (ev, behind, led) = deed_left x in
      led ∙ ap (left_by ev) (deeds_left d) ∙ sym (left_by_behind z.events ev nothing_open) ∙ ap (λ (fv : List Event). left_by fv nothing_open) (sym behind)

  -- So two states that are what the same events did are one.
  pub deeds_one : {z y : State} → Deeds s es D z → Deeds s es D y → z.events ≡ y.events → z ≡ y
  deeds_one a b e = deeds_left a ∙ ap (λ (ev : List Event). left_by ev nothing_open) e ∙ sym (deeds_left b)
