-- Every document that the reader accepts in edition 2 has the events of the three cases.
use Rattle.std.specs.Prelude.{ℕ, ◌≤◌, ◌≡◌, true, List, [], ◌∷◌, length}
use Rattle.std.proofs.Common.{arith, sym, ◌∙◌, ap, subst}
use Rattle.rules.specs.Settings.{Settings, is_second}
use Rattle.rules.specs.Reading.{got}
use Rattle.rules.specs.Walk.{Group, place, Begins}
use Rattle.rules.specs.TypeFile.{model, Element}
use Rattle.rules.specs.Elements.{element_at, content_of}
use Rattle.rules.specs.Decisions.{Decisions}
use Rattle.rules.specs.Events.{Event}
use Rattle.rules.specs.Settling.{Open, State}
use Rattle.rules.specs.Records.{Line}
use Rattle.rules.specs.Reader.{Reads}
use Rattle.rules.specs.RecordEnds.{Contents, Fills, SecondEdition}
use Rattle.rules_laws.specs.In.{All, none, more, ElementIn}
use Rattle.rules_laws.specs.Within.{type_file_elements}
use Rattle.document_laws.specs.Same.{Begun, passes_begun}
use Rattle.record_laws.specs.Passed.{fills_passes}
use Rattle.record_laws.specs.Outside.{none_fits}
use Rattle.record_laws.specs.Ground.{NoData}
use Rattle.record_laws.specs.ThreeCases.{second_edition_lem}

-- The first element has a name.
first_named : (s : List ℕ) (es : List Element) → 1 ≤ length es → All (ElementIn s) es → 1 ≤ (element_at es 0).size
unfolding element_at
first_named s [] h none = absurd (omega arith)
first_named s (e ∷ es) h (more p a) = p.name.some

module _ (c : Settings) (s d : List ℕ) (es : List Element) (given : List Event) (w : Reads c s d es (got given)) where
  abbrev D : Decisions
  D = w.decisions

  some_name : 1 ≤ (element_at es 0).size
  some_name = let v = type_file_elements c.name_length s es w.accepted.elements in first_named s es v.0 v.1.each

  -- In the document itself the places taken begin the walk of one place.
  document_begun : (o : Open) → o.element ≡ 0 → Begun es o → Begins (place 1) o.taken
  document_begun o e b =
      let q : content_of es 0 ≡ model b.group b.places b.tokens = ap (content_of es) (sym e) ∙ b.has in
      let g : place 1 ≡ b.group = cc in
      subst (λ (x : Group). Begins x o.taken) (sym g) b.begins

  no_data_lem : (at : ℕ) (l : Line) (z : State) (k : Contents) → Fills c s es D d at l z k → NoData s es D z
  no_data_lem at l z k h around number before after e f =
      let b = document_begun z.current number (passes_begun s es D w.means d (fills_passes h)).current in
      none_fits s es D w.means some_name before after (subst (λ (x : List ℕ). Begins (place 1) x) e b) f

  pub record_ends_lem : is_second c ≡ true → SecondEdition c s es w.decisions d given
  record_ends_lem second = second_edition_lem c s es D d no_data_lem second given w.reading
