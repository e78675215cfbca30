-- The steps within a token, each by the contract of the function that takes it: the ends of step 3, a start that is inferred, the place of a start
-- tag, the ends that an end tag and the document's end infer.
use Rattle.std.specs.Prelude.{ℕ, zero, suc, ◌≤◌, ◌<◌, ◌≡◌, Bool, true, false, length, eqb}
use Rattle.std.proofs.Math.Path.{refl}
use Rattle.std.proofs.Common.{sym, ◌∙◌, ap, ap₂, subst, arith}
use Rattle.std.proofs.lemmas.Bool.{false≢true}
use mathlib.Core.List.{List, [], ◌∷◌, ◌++◌}
use Rattle.rules.specs.Bytes.{TAGLVL}
use Rattle.rules.specs.Reading.{got}
use Rattle.rules.specs.TypeFile.{Element}
use Rattle.rules.specs.Elements.{content_of, has_model, end_o}
use Rattle.rules.specs.Decisions.{Token, start, pcdata, Decisions}
use Rattle.rules.specs.Events.{Event, with_data}
use Rattle.rules.specs.Settling.{State, take_place, fitting, is_complete, inferable, chain, take_token}
use Rattle.rules.specs.Settling as rules
use Rattle.rules.specs.Acts.{Act, infers, data_byte_lem, infers_end, Acts, Few}
use Rattle.rules.specs.Acts as act
use Rattle.layout.specs.declared.Place.{Place}
use Rattle.layout.specs.Typed.{place_no}
use Rattle.rules_laws.specs.Holds.{Gives, reads, so, on, either, got_so}
use Rattle.basic_laws.specs.Truth.{and_left, and_right}
use Rattle.document_laws.specs.Decide.{decided}
use Rattle.document_laws.specs.OneReading.{accepted_decided}
use Rattle.document_laws.specs.Chain.{chain_leads}
use Rattle.document_laws.specs.Moves.{state, with_datum, fits}
use Rattle.type_tables.specs.Tables.{Tables, CanTake}
use Rattle.open_elements.specs.declared.OpenElements.{OpenElements}
use Rattle.open_elements.specs.declared.Outcome.{Outcome}
use Rattle.open_elements.specs.Stands.{Taking, Starting}
use Rattle.open_elements.specs.Becomes.{StandsWith}
use Rattle.open_elements.specs.Methods.{stands_required, stands_noted}
use Rattle.ways.specs.declared.Way.{Way}
use Rattle.ways.specs.declared.Way.TheVariants.{Taken, Inferred, Stuck}
use Rattle.ways.specs.Asks.{token_of, token_of_number, token_of_declared, way_of, may_end, starts_of, place_of}
use Rattle.placing.specs.Noting.{noting, written_of, PlacedGot, opened_by}
use Rattle.placing.specs.Places.{opened_ranged, opened_notes}
use Rattle.inferring.specs.Inferring.{EndsTo, none, more, Stops, infer_one, Infers, InfersStart}
use Rattle.inferring.specs.declared.Stop.{Stop}
use Rattle.inferring.specs.Starts.{chain_infers}
use Rattle.left_out_ends.specs.Until.{infer_ends, UntilGot}
use Rattle.closing.specs.Closed.{FinishedGot}
use Rattle.acts.specs.Settled.{all_ended, all_started, Comes, left_out}
use Rattle.acts.specs.Readings.{noted_acts, end_document_acts}
use Rattle.acts.specs.Sequences.{acts_then, acts_last}
use Rattle.moments.specs.Moment.{Moment, Beside, Leads}
use Rattle.moments.specs.Beside.{can_take, moment_took, moment_act, acts_beside}
use Rattle.moments.specs.Results.{leads}

may_end_so : (s : List ℕ) (es : List Element) (D : Decisions) (o : rules.Open) (us : List rules.Open) → may_end s es D o us ≡ true → (is_complete s es D o ≡ true) × (end_o es o.element ≡ true)
may_end_so s es D o [] e = absurd (false≢true e)
may_end_so s es D o (u ∷ us) e = (and_left (is_complete s es D o) _ e, and_left (end_o es o.element) _ (and_right (is_complete s es D o) _ e))

module _ (s : List ℕ) (es : List Element) where
  abbrev D : Decisions
  D = decided s es

  -- Ends that are inferred are acts.
  ends_acts : (x at : ℕ) (around : List rules.Open) (o : rules.Open) (ev : List Event) → length around ≤ TAGLVL → Gives (Acts s es D Few (state o around ev)) (infer_ends s es D x at around o ev)
  unfolding infer_ends
  ends_acts x at [] o ev f = reads (act.still {z = state o [] ev} f)
  ends_acts x at (u ∷ around) o ev f =
      either (eqb o.element x) (λ e. reads (act.still {z = state o (u ∷ around) ev} f))
      (λ e. on (left_out s es D at o) λ i l.
      so (ends_acts x at around u (ev ++ i ∷ []) (omega arith)) (λ n j q. q)
      (λ y r. act.next {z = state o (u ∷ around) ev} f (infers_end u around at refl l.1 l.2) (subst (λ (k : Event). Acts s es D Few (state u around (ev ++ k ∷ [])) y) l.0 r)))

  -- So are those of step 3.
  step_acts : {at : ℕ} {z y : State} → EndsTo s es at z y → Few z → Acts s es D Few z y
  step_acts none f = act.still f
  step_acts {at} (more {z} {u} {us} h e may) f =
      let r = step_acts h f in
      let allowed = may_end_so s es D z.current z.around may in
      acts_then r (act.next (acts_last r) (infers_end u us at e allowed.0 allowed.1) (act.still (omega (arith, acts_last r, ap (λ (l : List rules.Open). length l) e))))

module _ (s : List ℕ) (es : List Element) (t : Token) where
  way_infers : (o : rules.Open) (ks : List ℕ) → chain s es (D s es) (length es) t o ≡ ks → (f : ℕ) → fitting s es (D s es) o t ≡ f → (way_of f (length ks) ≡ Stuck → ⊥)
      → Infers s es (D s es) t (starts_of (way_of f (length ks))) o
  way_infers o [] e zero i n = absurd (n refl)
  way_infers o (k ∷ ks) e zero i n = chain_infers s es (D s es) t (k ∷ ks) o (chain_leads s es (D s es) t (length es) o k ks e)
  way_infers o ks e (suc f) i n = omega (arith, i)

way_taken : (f n : ℕ) (p : Place) → way_of f n ≡ Taken p → p.0 ≡ f
way_taken zero zero p e = absurd (let z : ◌≡◌ {A = ℕ} 0 1 = cc in omega arith)
way_taken zero (suc n) p e = absurd (let z : ◌≡◌ {A = ℕ} 0 1 = cc in omega arith)
way_taken (suc f) n p e = let i : place_no (suc f) ≡ p = cc in sym (ap (λ (q : Place). q.0) i)

-- The place that is taken by what was found is the one as which the token fits, where no other was found, and where nothing was taken before after starts
-- were inferred.
place_found : (f g : ℕ) (w : Way) (p : ℕ) → p ≡ place_of g w → (p ≡ 0 → ⊥) → ((q : Place) → w ≡ Taken q → q.0 ≡ f) → ((n : ℕ) → w ≡ Inferred n → g ≡ f) → p ≡ f
place_found f g (Taken q) p e n h i = e ∙ h q refl
place_found f g (Inferred k) p e n h i = e ∙ i k refl
place_found f g Stuck p e n h i = absurd (n e)

not_none : (n : ℕ) → (n ≡ 0 → ⊥) → 1 ≤ n
not_none zero h = absurd (h refl)
not_none (suc n) h = omega arith

-- The functions

module _ {s : List ℕ} {es : List Element} {rows places facts M : List ℕ} (tables : Tables s es rows places facts M) where
  moment_small : {bits : List ℕ} {z : State} {o : OpenElements} → Moment es M bits z o → Few z
  moment_small m = omega (arith, m.many, m.ranged.few)

  -- What `ends` of inferring gives where it stops: acts lead to its open elements, though the token may still be refused there, and what it found is what the
  -- rules say of the token there. Where it is not stuck, so many starts can be inferred one in the other, and the token fits in the last; a place that was
  -- found is the one as which the token fits.
  pub stops_lead : {bits : List ℕ} {x at n : ℕ} {o : OpenElements} {numbers bytes : List ℕ} {r : Stop} {numbers' bytes' : List ℕ}
      → Stops rows places facts M bits x at n o numbers bytes r numbers' bytes' → x ≤ length es → (z : State) → Moment es M bits z o
      → (y : State) × Leads s es (D s es) rows M z o bits y r.open bits
      × ((r.found ≡ Stuck → ⊥) → Infers s es (D s es) (token_of x) (starts_of r.found) y.current)
      × ((p : Place) → r.found ≡ Taken p → p.0 ≡ fitting s es (D s es) y.current (token_of x))
  stops_lead {x = x} {r = r} h most z m =
      let t = token_of x in
      let came = h.turns.comes s es tables z m.stands t (token_of_number x) (token_of_declared es x most) in
      let y = came.there in
      let f = fitting s es (D s es) y.current t in
      let ks = chain s es (D s es) (length es) t y.current in
      let way : r.found ≡ way_of f (length ks) = h.finds s es tables y.current came.stands.current.entered (stands_required came.stands s) t (token_of_number x) (token_of_declared es x most) in (
        y,
        leads tables m (step_acts s es came.ends (moment_small m)) h.turns.ranged came.stands,
        λ i. subst (λ (w : Way). Infers s es (D s es) t (starts_of w) y.current) (sym way) (way_infers s es t y.current ks refl f refl (λ e. i (way ∙ e))),
        λ p e. way_taken f (length ks) p (sym way ∙ e),
      )

  -- One start that is inferred (`infer_start` of inferring) is one act, where there is one to infer.
  pub infers_start_does : {bits : List ℕ} {at n : ℕ} {o : OpenElements} {numbers bytes : List ℕ} {r : OpenElements} {bits' numbers' bytes' : List ℕ}
      → InfersStart rows places facts M bits at n o numbers bytes r bits' numbers' bytes' → o.count < TAGLVL → (z : State) → Moment es M bits z o → 1 ≤ inferable s es (D s es) z.current
      → Act s es (D s es) z (infer_one s es (D s es) at z) × Moment es M bits' (infer_one s es (D s es) at z) r
  infers_start_does {bits} {at} {o = o} {r = r} {bits'} h less z m some =
      let a : Act s es (D s es) z (infer_one s es (D s es) at z) = infers (inferable s es (D s es) z.current) at refl some in
      let does = subst (λ (k : ℕ). Starting rows M bits k o r bits') (h.chosen s es tables z m.stands) h.starting in
      (a, moment_act tables (D s es) (accepted_decided s es tables.accepted) m a (omega (arith, m.many)) does)

  -- The place of a token (`placed` of placing) that is not refused there. What was found is the place as which the token fits, or starts that were inferred, so
  -- that nothing is taken yet in the current element.
  module _ {bits : List ℕ} (x : ℕ) {found : Way} {at after n : ℕ} {o : OpenElements} {numbers bytes : List ℕ} {r : Outcome} {bits' numbers' bytes' : List ℕ}
      (h : PlacedGot rows places facts M bits found x at after n o numbers bytes r bits' numbers' bytes') (most : x ≤ length es) (z : State) (m : Moment es M bits z o)
      (right : (p : Place) → found ≡ Taken p → p.0 ≡ fitting s es (D s es) z.current (token_of x)) (new : (n : ℕ) → found ≡ Inferred n → z.current.taken ≡ []) where
    place_fits : h.p ≡ fitting s es (D s es) z.current (token_of x)
    place_fits =
        place_found _ _ found h.p (h.place s es tables m.stands.current.entered.declared most) h.some right
        (λ n e. ap₂ (λ (k : ℕ) (taken : List ℕ). (decided s es).fits k taken (token_of x)) (sym m.stands.current.entered.number) (sym (new n e)))

    fits_some : 1 ≤ fitting s es (D s es) z.current (token_of x)
    fits_some = omega (arith, place_fits, not_none h.p h.some)

    -- The place is taken as which the token fits: there is a moment, at which an element with a model is not open yet.
    pub placed_moment : Moment es M bits' (take_token s es (D s es) (token_of x) z) r.open
    placed_moment = moment_took tables (D s es) (accepted_decided s es tables.accepted) m (fits (token_of x) fits_some) (subst (λ (p : ℕ). Taking rows M bits p o r.open bits') place_fits h.taking)

    -- What is noted is what the rules note, once an element with a model is open.
    module _ (b : Bool) (none : x ≡ 0 → b ≡ false) (model : (x ≡ 0 → ⊥) → has_model (content_of es x) ≡ b) {q : OpenElements} (opened : q ≡ opened_by rows x b r.open) where
      abbrev written : List Event
      written = written_of x h.opens h.taken at after

      noted : (y : State) × (noting es x at after (take_place h.p z) ≡ got y) × StandsWith es M bits' q (z.events ++ written) y
      noted =
          let can : CanTake es z.current h.p = rw place_fits (can_take s es tables.accepted m (D s es) (accepted_decided s es tables.accepted) (fits (token_of x) fits_some)) in
          opened_notes h b none opened tables m.stands can most model after (λ some. refl)

  -- That of a start tag: one act, which opens its element or, of an EMPTY one, leaves what is open. The element is opened after `placed` (`start` of
  -- open_elements), where it has a model.
  pub places_leads : {bits : List ℕ} (x : ℕ) {found : Way} {at after n : ℕ} {o : OpenElements} {numbers bytes : List ℕ} {r : Outcome} {bits' numbers' bytes' : List ℕ}
      → PlacedGot rows places facts M bits found x at after n o numbers bytes r bits' numbers' bytes' → {q : OpenElements} → q ≡ opened_by rows x (has_model (content_of es x)) r.open
      → 1 ≤ x → x ≤ length es → (z : State) → Moment es M bits z o
      → ((p : Place) → found ≡ Taken p → p.0 ≡ fitting s es (D s es) z.current (token_of x)) → ((n : ℕ) → found ≡ Inferred n → z.current.taken ≡ [])
      → (y : State) × (noting es x at after (take_token s es (D s es) (token_of x) z) ≡ got y) × Leads s es (D s es) rows M z o bits y q bits'
  places_leads zero h opened some most z m right new = absurd (omega arith)
  places_leads (suc k) {at = at} {after} h opened some most z m right new =
      let b = has_model (content_of es (suc k)) in
      let none : suc k ≡ 0 → b ≡ false = (λ e. absurd (omega arith)) in
      let (y, e, came) = noted (suc k) h most z m right new b none (λ i. refl) opened in
      let same = place_fits (suc k) h most z m right new in
      let comes : Comes s es (D s es) (start (suc k)) at z (take_place h.p z) =
      record { between = z; ended = all_ended; here = z; started = all_started; fits = fits_some (suc k) h most z m right new; taken = ap (λ (q : ℕ). take_place q z) same } in (
        y,
        ap (λ (q : ℕ). noting es (suc k) at after (take_place q z)) (sym same) ∙ e,
        leads tables m (got_so (noted_acts s es (D s es) (suc k) at after z (take_place h.p z) (some, most) (moment_small m) comes) e) (opened_ranged h b none opened (omega (arith, most, tables.few))) came.0,
      )

  -- That of a run of data: one act, of its first byte. Each further byte takes the same place again, which leaves the program's open elements as they are.
  pub places_data : {bits : List ℕ} (x : ℕ) {found : Way} {at after n : ℕ} {o : OpenElements} {numbers bytes : List ℕ} {r : Outcome} {bits' numbers' bytes' : List ℕ}
      → PlacedGot rows places facts M bits found x at after n o numbers bytes r bits' numbers' bytes' → x ≡ 0 → (z : State) → Moment es M bits z o
      → ((p : Place) → found ≡ Taken p → p.0 ≡ fitting s es (D s es) z.current (token_of x)) → ((n : ℕ) → found ≡ Inferred n → z.current.taken ≡ [])
      → Leads s es (D s es) rows M z o bits (with_datum at (take_token s es (D s es) pcdata z)) r.open bits'
  places_data (suc k) h nothing z m right new = absurd (omega arith)
  places_data {bits} zero {at = at} {after} {r = r} {bits'} h nothing z m right new =
      let few = moment_small m in
      let there = placed_moment zero h (omega arith) z m right new in
      let byte : Act s es (D s es) z (with_datum at (take_token s es (D s es) pcdata z)) = data_byte_lem at (fits_some zero h (omega arith) z m right new) in
      leads tables m (act.next few byte (act.still few)) h.ranged (stands_noted there.stands (with_data at z.events))

  -- The ends that are inferred until the current element is x, or nothing is around it (`end_until` of left_out_ends).
  pub until_leads : {x at n : ℕ} {o : OpenElements} {numbers bytes : List ℕ} {r : Outcome} {numbers' bytes' : List ℕ} → UntilGot facts x at n o numbers bytes r numbers' bytes' → {bits : List ℕ} (z : State) → Moment es M bits z o
      → (y : State) × (infer_ends s es (D s es) x at z.around z.current z.events ≡ got y) × Leads s es (D s es) rows M z o bits y r.open bits
  until_leads {x} {at} {r = r} h {bits} z m =
      let (y, e, came) = h.ends s es tables.raised tables.facts_say M bits z m.stands in
      (y, e, leads tables m (got_so (ends_acts s es x at z.around z.current z.events (moment_small m)) e) h.brings.ranged came.0)

  -- The document's end (`finish` of closing), where it is not refused: the ends that it infers lead to where nothing is open, with the events that it brings.
  -- The state that it gives is not decided: nobody reads it.
  pub finished_beside : {at n : ℕ} {o : OpenElements} {numbers bytes : List ℕ} {r : Outcome} {numbers' bytes' : List ℕ} (h : FinishedGot facts at n o numbers bytes r numbers' bytes') → {bits : List ℕ} (z : State) → Moment es M bits z o
      → (y : State) × Beside s es (D s es) rows M z o bits y × (y.around ≡ []) × (is_complete s es (D s es) y.current ≡ true) × (y.events ≡ z.events ++ h.brings.events)
  finished_beside {at} h {bits} z m =
      let over = got_so (end_document_acts s es (D s es) at z (moment_small m)) (h.ends s es tables.raised tables.facts_say M bits z m.stands) in
      (over.last, acts_beside tables (D s es) (accepted_decided s es tables.accepted) m over.acts, over.nothing, over.complete, over.events)
