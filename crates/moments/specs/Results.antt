-- What the functions of the program give is what the acts of the rules give: by their contracts as they stand.
use Rattle.std.specs.Prelude.{ℕ, ◌-◌, ◌≤◌, ◌≡◌, refl, true, List, [], ◌++◌, length}
use Rattle.std.proofs.Common.{sym, ◌∙◌, ap, subst, arith}
use Rattle.rules.specs.Settings.{Settings}
use Rattle.rules.specs.Reading.{got}
use Rattle.rules.specs.TypeFile.{Element}
use Rattle.rules.specs.Decisions.{Decisions, Means}
use Rattle.rules.specs.Events.{Event, with_data}
use Rattle.rules.specs.Given.{with_attributes}
use Rattle.rules.specs.Settling.{State, nothing_open, is_complete, start_element, take_data, end_element}
use Rattle.rules.specs.Records.{Line, records_settled}
use Rattle.rules.specs.Reader.{document}
use Rattle.rules.specs.Acts.{Acts, Passes, Few}
use Rattle.rules_laws.specs.Holds.{got_so}
use Rattle.document_laws.specs.Decide.{decided}
use Rattle.document_laws.specs.OneReading.{accepted_decided}
use Rattle.document_laws.specs.Moves.{with_datum}
use Rattle.turn_laws.specs.Steps.{take_data_got}
use Rattle.turn_laws.specs.Run.{run_taken}
use Rattle.turn_laws.specs.Turns.{Reaches}
use Rattle.type_tables.specs.Tables.{Tables}
use Rattle.open_elements.specs.declared.OpenElements.{OpenElements}
use Rattle.open_elements.specs.declared.Outcome.{Outcome}
use Rattle.open_elements.specs.Stands.{fresh, Ranged, Stands}
use Rattle.open_elements.specs.Becomes.{StandsWith}
use Rattle.open_elements.specs.Methods.{stands_noted}
use Rattle.placing.specs.Noting.{written_of}
use Rattle.settling.specs.Settled.{takes, Settles, takes_start, takes_run}
use Rattle.settling.specs.Steps.{Steps, steps_settle}
use Rattle.closing.specs.Closed.{TaggedGot}
use Rattle.acts.specs.Readings.{start_element_acts, take_data_acts, end_element_acts, passes_acts, document_acts}
use Rattle.moments.specs.Moment.{Moment, Beside, Leads}
use Rattle.moments.specs.Beside.{moment, moment_first, acts_beside, acts_begun}
use Rattle.moments.specs.Alike.{stands_alike}

-- These hold by whatever decisions mean the walks.
module _ {s : List ℕ} {es : List Element} {rows places facts M : List ℕ} (tables : Tables s es rows places facts M) (D : Decisions) (means : Means s es D) (bits d : List ℕ) where
  -- Wherever reading comes, acts lead to, from nothing open on, and the program's open elements stand beside at every moment.
  pub passes_beside : {c : Settings} {at : ℕ} {l : Line} {z : State} → Passes c s es D d at l z → Beside s es D rows M nothing_open fresh bits z
  passes_beside p = acts_beside tables D means (moment_first s es tables.accepted) (passes_acts s es D d p)

  -- A document that is read to its end: at last nothing is open, and its events are those noted, with record ends settled and attribute events before each start.
  pub document_beside : (c : Settings) (ev : List Event) → document c s es D d ≡ got ev → (z : State) × Beside s es D rows M nothing_open fresh bits z × (z.around ≡ []) × (is_complete s es D z.current ≡ true) × (with_attributes c.name_length s es d (records_settled c d z.events) ≡ ev)
  document_beside c ev e =
      let a = document_acts s es D d c ev e in
      let r = a.over in
      (r.last, acts_beside tables D means (moment_first s es tables.accepted) r.acts, r.nothing, r.complete, ap (λ (noted : List Event). with_attributes c.name_length s es d (records_settled c d noted)) r.events ∙ sym a.given)

module _ {s : List ℕ} {es : List Element} {rows places facts M : List ℕ} (tables : Tables s es rows places facts M) where
  abbrev D : Decisions
  D = decided s es

  means : Means s es D
  means = accepted_decided s es tables.accepted

  pub leads : {z y : State} {o : OpenElements} {bits : List ℕ} → Moment es M bits z o → Acts s es D Few z y → {r : OpenElements} {bits' : List ℕ} → Ranged r → Stands es M bits' r y → Leads s es D rows M z o bits y r bits'
  leads m a g h =
      let begun = acts_begun tables D means m.begun a in
      record { beside = acts_beside tables D means m a; alike = λ q other n. stands_alike begun h n.stands; there = moment s es tables.accepted g h begun }

  -- Between tokens: reading has come to `at` (`Reaches`, `Stands` and `Ranged`: what the loop over a document's tokens keeps). All moments before were
  -- passed by acts, from nothing open on.
  pub reaches_leads : (first : List ℕ) {c : Settings} {d : List ℕ} {at : ℕ} {l : Line} {o : OpenElements} {bits : List ℕ} {z : State} → Ranged o → Stands es M bits o z → Reaches c s es d at l z → Leads s es D rows M nothing_open fresh first z o bits
  reaches_leads first {d = d} g h r = leads (moment_first s es tables.accepted) (passes_acts s es D d r.passes) g h

  module _ {lists marks : List ℕ} {x at after n : ℕ} {o : OpenElements} {bits : List ℕ} {ends : List Event} {numbers bytes : List ℕ} {r : Outcome} {bits' numbers' bytes' : List ℕ} (h : Settles rows places facts M lists marks x at after o bits ends n numbers bytes r bits' numbers' bytes') where
    -- What has become of the token, where it is not refused.
    abbrev noted : State → List Event
    noted z = ((z.events ++ ends) ++ h.starts) ++ written_of x h.opens h.taken at after

    settled : x ≤ length es → (z : State) → Moment es M bits z o → (y : State) × (takes s es x at after z ≡ got y) × StandsWith es M bits' r.open (noted z) y
    settled most z m = h.settles s es tables z m.stands most after (λ some. refl)

    -- A start tag: the ends and the starts that it infers, then itself.
    settles_leads : 1 ≤ x → x ≤ length es → (z : State) → Moment es M bits z o → (y : State) × (start_element s es D x at after z ≡ got y) × Leads s es D rows M z o bits y r.open bits'
    settles_leads some most z m =
        let (y, e, came) = settled most z m in
        let i : start_element s es D x at after z ≡ got y = sym (takes_start s es at after z x some) ∙ e in
        (y, i, leads m (got_so (start_element_acts s es D x at after z (some, most) (omega (arith, m.many, m.ranged.few))) i) h.ranged came.0)

    -- A run of data: the ends and the starts that its first byte infers, then that byte. The further bytes of the run take the same place again, which
    -- leaves the program's open elements as they are.
    data_leads : x ≡ 0 → (z : State) → Moment es M bits z o → (y : State) × (take_data s es D at z ≡ got y) × Leads s es D rows M z o bits y r.open bits'
    data_leads nothing z m =
        let (w, e, came) = settled (omega arith) z m in
        let (y, settles, few, left) = run_taken s es D at (after - at) z w (sym (takes_run s es at after z x nothing) ∙ e) in
        let i = take_data_got s es D at z y settles few in
        let stands = stands_noted (subst (Stands es M bits' r.open) (sym left) came.0) (with_data at y.events) in
        (with_datum at y, i, leads m (got_so (take_data_acts s es D at z (omega (arith, m.many, m.ranged.few))) i) h.ranged stands)

  -- The same by the steps of the token in order, as the program takes them.
  module _ {lists marks : List ℕ} {x at after n : ℕ} {o : OpenElements} {bits numbers bytes : List ℕ} {q : OpenElements} {bits' numbers' bytes' : List ℕ} (h : Steps rows places facts M lists marks x at after n o bits numbers bytes q bits' numbers' bytes') where
    pub steps_lead : 1 ≤ x → x ≤ length es → (z : State) → Moment es M bits z o → (y : State) × (start_element s es D x at after z ≡ got y) × Leads s es D rows M z o bits y q bits'
    steps_lead some most z m = settles_leads (steps_settle m.ranged (omega (arith, tables.few)) h) some most z m

    pub steps_data : x ≡ 0 → (z : State) → Moment es M bits z o → (y : State) × (take_data s es D at z ≡ got y) × Leads s es D rows M z o bits y q bits'
    steps_data nothing z m = data_leads (steps_settle m.ranged (omega arith) h) nothing z m

  -- An end tag (`end_tag` of closing): the ends that it infers, then itself.
  pub tagged_leads : {x at after n : ℕ} {o : OpenElements} {numbers bytes : List ℕ} {r : Outcome} {numbers' bytes' : List ℕ} → TaggedGot facts x at after n o numbers bytes r numbers' bytes' → {bits : List ℕ} (z : State) → Moment es M bits z o
      → (y : State) × (end_element s es D x at after z ≡ got y) × Leads s es D rows M z o bits y r.open bits
  tagged_leads {x} {at} {after} h {bits} z m =
      let (y, e, came) = h.closes s es tables.raised tables.facts_say M bits z m.stands in
      (y, e, leads m (got_so (end_element_acts s es D x at after z (omega (arith, m.many, m.ranged.few))) e) h.brings.ranged came.0)
