-- The open elements of the program, before and after every step of settling and closing: demand 1, "keeps
-- between 0 and 24 elements open", and paper 02, request four, "Store the mark, and the required place if
-- there is one, with each open element. At every moment both must equal what 01's definition says of the
-- places taken." The hypotheses are the contracts as they stand in the source, as on the page of the calls:
-- `Asked` is what a function requires.
--
-- What is proved here, and what is known by reading the source. A contract says what a function is handed and
-- what it returns. No contract can speak of a moment within a call, so no theorem here does: each is of one
-- method of the open elements, or of one step within a token, before it and after it. That there are no
-- moments between these is known by reading the source, and is not proved:
-- * The open elements are changed by the methods `new`, `take`, `start`, `start_required`, `end` and
--   `infer_end` of open_elements alone, and so is what has begun of "&" groups (`begun`), by `take`. No other
--   crate makes a value of this type or sets a field of one. What the program holds while a method computes
--   is not spoken of.
-- * They stand in one variable from token to token, that of `events_of` of document_events, which begins with
--   `new`, and hands it by value to what it calls.
-- * For a start tag or a run of data `events_of` calls, in this order: `is_over` of ways; `ends` of
--   inferring, which calls `infer_end` once for each end; for each start that is inferred `next_start` of
--   inferring and then `infer_start` of inferring, which calls `start_required`; `placed` of placing, which
--   calls `take`; and, where `opens` of ways says so, `start`.
-- * For an end tag it calls `end_tag` of closing, which calls `end_until` of left_out_ends, and this
--   `infer_end` once for each end that is left out; then `end`. At the document's end it calls `finish` of
--   closing, which calls `end_until` likewise.
-- * `is_over` and `next_start` are handed the open elements and return none. What else `events_of` calls is
--   not handed them: `found_at` of pieces; `next_at` of blanks, which gets how many are open, the current
--   element and the place taken last in it; `starts_of` of ways; and those of record_ends and
--   attribute_events.
use Rattle.std.specs.Prelude.{ℕ, suc, Result, Ok, Err, ◌≤◌, ◌<◌, ◌≡◌, refl, Bool, true, false, ◌&&◌, List, [], ◌∷◌, ◌++◌, length, eqb}
use Rattle.std.proofs.Common.{sym, ◌∙◌, ap, ap₂, subst, arith}
use contract.Lifetimes.{Lfts}
use denote.Triple.Clauses.{AtExit}
use borrow.Fn.World.{ArgsD}
use Rattle.rules.specs.Settings.{Settings}
use Rattle.rules.specs.Reading.{Reading, got}
use Rattle.rules.specs.Walk.{Group}
use Rattle.rules.specs.TypeFile.{Place, model, Element}
use Rattle.rules.specs.Judge.{Accepts}
use Rattle.rules.specs.Elements.{content_of, has_model}
use Rattle.rules.specs.Decisions.{Token, pcdata, Decisions, Means}
use Rattle.rules.specs.Events.{end_written, end_inferred, Event, with_data}
use Rattle.rules.specs.Given.{with_attributes}
use Rattle.rules.specs.Settling.{State, nothing_open, take_place, enter, fitting, is_complete, required_place, inferable, take_token, start_element, take_data, end_element}
use Rattle.rules.specs.Settling as rules
use Rattle.rules.specs.Acts.{Declared, Act, MarksMean, Passes, Few}
use Rattle.rules.specs.Records.{Line, records_settled}
use Rattle.rules.specs.Reader.{Reads}
use Rattle.rules.specs.Bytes.{TAGLVL}
use Rattle.document_laws.specs.Decide.{decided}
use Rattle.document_laws.specs.Moves.{fits, required}
use Rattle.turn_laws.specs.Turns.{Reaches}
use Rattle.type_tables.specs.Tables.{Tables}
use Rattle.layout.specs.declared.ElementNo.{ElementNo}
use Rattle.layout.specs.declared.Place as typed
use Rattle.open_elements.specs.declared.OpenElements.{OpenElements}
use Rattle.text.specs.declared.Refusal.{Refusal}
use Rattle.open_elements.specs.declared.Outcome.{Outcome}
use Rattle.open_elements.specs.Stands.{fresh, opening, Ranged, Stands, Taking}
use Rattle.open_elements.specs.Marks.{AllSay}
use Rattle.open_elements.specs.Methods.{ranged_fresh, ranged_taking, ranged_opening, ranged_ended}
use Rattle.open_elements.specs.contracts.OpenElements.new as new
use Rattle.open_elements.proofs.OpenElements.new.Reads as new_reads
use Rattle.open_elements.specs.contracts.OpenElements.take as take
use Rattle.open_elements.proofs.OpenElements.take.Reads as take_reads
use Rattle.open_elements.specs.contracts.OpenElements.start as start
use Rattle.open_elements.proofs.OpenElements.start.Reads as start_reads
use Rattle.open_elements.specs.contracts.OpenElements.start_required as start_required
use Rattle.open_elements.proofs.OpenElements.start_required.Reads as start_required_reads
use Rattle.open_elements.specs.contracts.OpenElements.infer_end as infer_end_here
use Rattle.open_elements.proofs.OpenElements.infer_end.Reads as infer_end_reads
use Rattle.open_elements.specs.contracts.OpenElements.end as end
use Rattle.open_elements.proofs.OpenElements.end.Reads as end_reads
use Rattle.left_out_ends.specs.Until.{infer_ends, Until}
use Rattle.left_out_ends.specs.contracts.end_until as end_until_here
use Rattle.left_out_ends.proofs.end_until.Reads as end_until_reads
use Rattle.ways.specs.declared.Way.TheVariants.{Taken, Inferred, Stuck}
use Rattle.ways.specs.Asks.{token_of, starts_of}
use Rattle.ways.specs.contracts.is_over as is_over_here
use Rattle.ways.proofs.is_over.Reads as is_over_reads
use Rattle.ways.specs.contracts.opens as opens
use Rattle.ways.proofs.opens.Reads as opens_reads
use Rattle.inferring.specs.declared.Stop.{Stop}
use Rattle.attribute_events.specs.PutBefore.{PutsDefaults, PutsWritten}
use Rattle.attribute_events.specs.contracts.put_defaults as put_defaults_here
use Rattle.attribute_events.proofs.put_defaults.Reads as put_defaults_reads
use Rattle.attribute_events.specs.contracts.put_written as PutWritten
use Rattle.attribute_events.proofs.put_written.Reads as put_written_reads
use Rattle.inferring.specs.Inferring.{Stops, infer_one, Infers, Chooses, InfersStart}
use Rattle.inferring.specs.contracts.next_start as next_start
use Rattle.inferring.proofs.next_start.Reads as next_start_reads
use Rattle.inferring.specs.contracts.ends as step_ends
use Rattle.inferring.proofs.ends.Reads as step_ends_reads
use Rattle.inferring.specs.contracts.infer_start as infer_start_here
use Rattle.inferring.proofs.infer_start.Reads as infer_start_reads
use Rattle.placing.specs.Noting.{noting, Opens, Placed, opened_by}
use Rattle.placing.specs.contracts.placed as place
use Rattle.placing.proofs.placed.Reads as place_reads
use Rattle.settling.specs.Steps.{Steps}
use Rattle.closing.specs.contracts.end_tag as end_tag_lem
use Rattle.closing.proofs.end_tag.Reads as end_tag_reads
use Rattle.closing.specs.contracts.finish as finish
use Rattle.closing.proofs.finish.Reads as finish_reads
use Rattle.closing.specs.Closed.{Tagged, Finished}
use Rattle.moments.specs.Moment.{Moment, Does, Asks, Beside, Leads}
use Rattle.moments.specs.Beside.{moment_first, moment_noted, moment_parent, moment_ended, moment_entered, complete_kept, required_kept, moment_took, moment_started, moment_act, moment_asks}
use Rattle.moments.specs.Results.{passes_beside, document_beside, reaches_leads, steps_lead, steps_data, tagged_leads}
use Rattle.moments.specs.Steps.{stops_lead, infers_start_does, placed_moment, places_leads, places_data, until_leads, finished_beside}

-- Demand 1, "keeps between 0 and 24 elements open", and what is kept of them lies in the array of 24 entries.
abbrev pub KeepsFew : OpenElements → Type 0
KeepsFew o = (o.count ≤ TAGLVL) × (length o.around ≡ TAGLVL)

keeps_few : {o : OpenElements} → Ranged o → KeepsFew o
keeps_few h = (h.few, h.whole)

-- Before and after each method, whatever the tables hold: open elements that any function of the program hands to a method are so, since the method
-- requires it, and so are those that it is handed back.
pub new_few : (κs : Lfts 0) (a : ArgsD new.signature κs) (r : OpenElements) (e : AtExit new.ended κs) → new_reads.Learnt κs a r e → KeepsFew r
new_few κs a r e made = keeps_few (subst Ranged (sym made) ranged_fresh)

pub take_few : (κs : Lfts 2) (a : ArgsD take.signature κs) (r : OpenElements) (e : AtExit take.ended κs) → take_reads.Asked κs a → take_reads.Learnt κs a r e → KeepsFew a.0 × KeepsFew r
take_few κs a r e asked made = (keeps_few asked.0, keeps_few (ranged_taking made asked.0 asked.1))

pub start_few : (κs : Lfts 1) (a : ArgsD start.signature κs) (r : OpenElements) (e : AtExit start.ended κs) → start_reads.Asked κs a → start_reads.Learnt κs a r e → KeepsFew a.0 × KeepsFew r
start_few κs a r e asked made = (keeps_few asked.0, keeps_few (subst Ranged (sym made) (ranged_opening a.1.0.now a.1.1.0.0 asked.0 asked.1 asked.2)))

pub start_required_few : (κs : Lfts 2) (a : ArgsD start_required.signature κs) (r : OpenElements) (e : AtExit start_required.ended κs) → start_required_reads.Asked κs a → start_required_reads.Learnt κs a r e → KeepsFew a.0 × KeepsFew r
start_required_few κs a r e asked made =
    let taken = ranged_taking made.taking asked.0 asked.0.required in
    let less : made.taken.count < TAGLVL = omega (arith, made.taking.count, asked.1) in
    (keeps_few asked.0, keeps_few (subst Ranged (sym made.opens) (ranged_opening a.1.0.rows.now a.1.1.1.0.0 taken less asked.2)))

pub infer_end_few : (κs : Lfts 0) (a : ArgsD infer_end_here.signature κs) (r : OpenElements) (e : AtExit infer_end_here.ended κs) → infer_end_reads.Asked κs a → infer_end_reads.Learnt κs a r e → KeepsFew a.0 × KeepsFew r
infer_end_few κs a r e asked made = (keeps_few asked.0, keeps_few (subst Ranged (sym made) (ranged_ended asked.0 asked.1)))

pub end_few : (κs : Lfts 0) (a : ArgsD end.signature κs) (r : OpenElements) (e : AtExit end.ended κs) → end_reads.Asked κs a → end_reads.Learnt κs a r e → KeepsFew a.0 × KeepsFew r
end_few κs a r e asked made = (keeps_few asked.0, keeps_few (subst Ranged (sym made) (ranged_ended asked.0 asked.1)))

-- What each of these promises of what it hands back, be it refused or not.
abbrev PlacedSo : (κs : Lfts 4) (a : ArgsD place.signature κs) (e : AtExit place.ended κs) → Result Outcome Refusal → Type 0
PlacedSo κs a e r = Placed a.0.rows.now a.0.places.now a.0.facts.now a.0.members.now a.1.0.now a.1.1.1.0 a.1.1.1.1.0.0 a.1.1.1.1.1.0 a.1.1.1.1.1.1.0 a.1.1.1.1.1.1.1.0 a.1.1.0 a.1.1.1.1.1.1.1.1.0.now a.1.1.1.1.1.1.1.1.1.0.now r e.1.0.now e.1.1.1.1.1.1.1.1.0.now e.1.1.1.1.1.1.1.1.1.0.now

abbrev TaggedSo : (κs : Lfts 3) (a : ArgsD end_tag_lem.signature κs) (e : AtExit end_tag_lem.ended κs) → Result Outcome Refusal → Type 0
TaggedSo κs a e r = Tagged a.0.now a.1.1.0.0 a.1.1.1.0 a.1.1.1.1.0 a.1.1.1.1.1.0 a.1.0 a.1.1.1.1.1.1.0.now a.1.1.1.1.1.1.1.0.now r e.1.1.1.1.1.1.0.now e.1.1.1.1.1.1.1.0.now

abbrev FinishedSo : (κs : Lfts 3) (a : ArgsD finish.signature κs) (e : AtExit finish.ended κs) → Result Outcome Refusal → Type 0
FinishedSo κs a e r = Finished a.0.now a.1.1.0 a.1.1.1.0 a.1.0 a.1.1.1.1.0.now a.1.1.1.1.1.0.now r e.1.1.1.1.0.now e.1.1.1.1.1.0.now

abbrev UntilSo : (κs : Lfts 3) (a : ArgsD end_until_here.signature κs) (e : AtExit end_until_here.ended κs) → Result Outcome Refusal → Type 0
UntilSo κs a e r = Until a.0.now a.1.1.0.0 a.1.1.1.0 a.1.1.1.1.0 a.1.0 a.1.1.1.1.1.0.now a.1.1.1.1.1.1.0.now r e.1.1.1.1.1.0.now e.1.1.1.1.1.1.0.now

-- So are those that the steps of a start tag or data, an end tag and the document's end are handed and hand back, where they do not refuse.
pub ends_few : (κs : Lfts 4) (a : ArgsD step_ends.signature κs) (r : Stop) (e : AtExit step_ends.ended κs) → step_ends_reads.Asked κs a → step_ends_reads.Learnt κs a r e → KeepsFew a.1.1.0 × KeepsFew r.open
ends_few κs a r e asked stops = (keeps_few asked.0, keeps_few stops.turns.ranged)

pub infer_start_few : (κs : Lfts 4) (a : ArgsD infer_start_here.signature κs) (r : OpenElements) (e : AtExit infer_start_here.ended κs) → infer_start_reads.Asked κs a → infer_start_reads.Learnt κs a r e → KeepsFew a.1.1.0 × KeepsFew r
infer_start_few κs a r e asked infers =
    let made = infers.starting in
    let taken = ranged_taking made.taking asked.0 asked.0.required in
    let less : made.taken.count < TAGLVL = omega (arith, made.taking.count, asked.1) in
    (keeps_few asked.0, keeps_few (subst Ranged (sym made.opens) (ranged_opening a.0.rows.now infers.k taken less infers.few)))

pub placed_few : (κs : Lfts 4) (a : ArgsD place.signature κs) (r : Result Outcome Refusal) (e : AtExit place.ended κs) → place_reads.Asked κs a → place_reads.Learnt κs a r e → KeepsFew a.1.1.0 × ((q : Outcome) → r ≡ Ok q → KeepsFew q.open)
placed_few κs a r e asked placed = (keeps_few asked.0, λ q got. keeps_few (subst (PlacedSo κs a e) got placed).ranged)

pub end_tag_few : (κs : Lfts 3) (a : ArgsD end_tag_lem.signature κs) (r : Result Outcome Refusal) (e : AtExit end_tag_lem.ended κs) → end_tag_reads.Asked κs a → end_tag_reads.Learnt κs a r e → KeepsFew a.1.0 × ((q : Outcome) → r ≡ Ok q → KeepsFew q.open)
end_tag_few κs a r e asked tagged = (keeps_few asked.0, λ q got. keeps_few (subst (TaggedSo κs a e) got tagged).brings.ranged)

pub finish_few : (κs : Lfts 3) (a : ArgsD finish.signature κs) (r : Result Outcome Refusal) (e : AtExit finish.ended κs) → finish_reads.Asked κs a → finish_reads.Learnt κs a r e → KeepsFew a.1.0 × ((q : Outcome) → r ≡ Ok q → KeepsFew q.open)
finish_few κs a r e asked finished = (keeps_few asked.0, λ q got. keeps_few (subst (FinishedSo κs a e) got finished).brings.ranged)

-- Every moment: "At every moment both must equal what 01's definition says of the places taken."

-- At a moment (`Moment`) 0 to 24 are open, as many in the program as in the rules, the program stands for the rules' state, and the marks of the current
-- element and of each around it say what the walks say of all places taken (`MarksMean` of the rules). Nothing is open at the first moment, and from a
-- moment each act (`Act` of the rules: a start, written or inferred, an end, written or inferred, data) leads to a moment, with whatever the methods of the
-- open elements make of it (`Does`: what they promise), and they may be called for it (`Asks`): so it is wherever a token has come to, though it may still be
-- refused. `bits` is what the program keeps beside of the members of "&" groups that have begun, and M is the type's table of members.
pub moment_few : (es : List Element) (M bits : List ℕ) (z : State) (o : OpenElements) → Moment es M bits z o → (o.count ≡ length z.around) × KeepsFew o
moment_few es M bits z o m = (m.many, keeps_few m.ranged)

pub moment_marks : (es : List Element) (M bits : List ℕ) (z : State) (o : OpenElements) → Moment es M bits z o
    → (o.element.0 ≡ z.current.element) × ((g : Group) (ps : List Place) (n : ℕ) → content_of es z.current.element ≡ model g ps n → MarksMean o.complete o.required.0 g z.current.taken)
moment_marks es M bits z o m = (m.marks.current.element, λ g ps n e. m.marks.current.marks e)

-- So it is of each element around the current one: the entries of the array say it of the elements of the rules' state, the innermost first (`AllSay` of
-- open_elements/specs/Marks).
pub moment_marks_around : (es : List Element) (M bits : List ℕ) (z : State) (o : OpenElements) → Moment es M bits z o → AllSay es o.around o.count z.around
moment_marks_around es M bits z o m = m.marks.around

pub first_moment : (c : Settings) (s : List ℕ) (es : List Element) → Accepts c s es → (M bits : List ℕ) → Moment es M bits nothing_open fresh
first_moment c s es accepted M bits = moment_first s es accepted

module _ (s : List ℕ) (es : List Element) (rows places facts M : List ℕ) (tables : Tables s es rows places facts M) (D : Decisions) (means : Means s es D) where
  pub each_act : (z y : State) (o q : OpenElements) (bits bits' : List ℕ) → Moment es M bits z o → (a : Act s es D z y) → Few y → Does s es D rows M a o bits q bits' → Moment es M bits' y q
  each_act z y o q bits bits' m a few does = moment_act tables D means m a few does

  pub each_act_asked : (z y : State) (o : OpenElements) (bits : List ℕ) → Moment es M bits z o → (a : Act s es D z y) → Few y → Asks s es D rows M a o
  each_act_asked z y o bits m a few = moment_asks tables D means m a few

-- Before and after each method, "At every moment both must equal what 01's definition says of the places taken": the methods are all that changes the open
-- elements, and from a moment each leads to a moment, whether or not the token is refused in the end: `take` of a place as which a token fits or which is
-- required, `start` of an element that has a model, `start_required` of the one that is required, and both that end the current element. A start that is
-- written is two calls, `take` and `start`, with a moment between them.

-- `new`: nothing is open yet.
pub new_moment : (κs : Lfts 0) (a : ArgsD new.signature κs) (r : OpenElements) (e : AtExit new.ended κs) → new_reads.Learnt κs a r e
    → (c : Settings) (s : List ℕ) (es : List Element) → Accepts c s es → (M bits : List ℕ) → Moment es M bits nothing_open r
new_moment κs a r e made c s es accepted M bits = subst (Moment es M bits nothing_open) (sym made) (moment_first s es accepted)

-- `take`, by the tables of the type, of the place as which a start tag or a data byte fits: that place is taken in the rules' state.
pub take_fitting : (κs : Lfts 2) (a : ArgsD take.signature κs) (r : OpenElements) (e : AtExit take.ended κs) → take_reads.Learnt κs a r e
    → (s : List ℕ) (es : List Element) (places facts : List ℕ) → Tables s es a.1.0.rows.now places facts a.1.0.members.now → (D : Decisions) → Means s es D
    → let o = a.0 in
    let M = a.1.0.members.now in
    let place = a.1.1.1.0.0 in
    (z : State) → Moment es M a.1.1.0.now z o → (t : Token) → place ≡ fitting s es D z.current t → 1 ≤ place → Moment es M e.1.1.0.now (take_token s es D t z) r
take_fitting κs a r e made s es places facts tables D means z m t same some =
    moment_took tables D means m (fits t (omega (arith, same))) (subst (λ (p : ℕ). Taking a.1.0.rows.now a.1.0.members.now a.1.1.0.now p a.0 r e.1.1.0.now) same made)

-- `take` of the required place, which is kept with the current element: it is the place that the rules require, and is taken in their state.
pub take_required : (κs : Lfts 2) (a : ArgsD take.signature κs) (r : OpenElements) (e : AtExit take.ended κs) → take_reads.Learnt κs a r e
    → (s : List ℕ) (es : List Element) (places facts : List ℕ) → Tables s es a.1.0.rows.now places facts a.1.0.members.now → (D : Decisions) → Means s es D
    → let o = a.0 in
    let M = a.1.0.members.now in
    let place = a.1.1.1.0.0 in
    (z : State) → Moment es M a.1.1.0.now z o → place ≡ o.required.0 → 1 ≤ place → Moment es M e.1.1.0.now (take_place (required_place s es D z.current) z) r
take_required κs a r e made s es places facts tables D means z m same some =
    let kept = same ∙ sym (required_kept s es tables.accepted m D means) in
    moment_took tables D means m (required (omega (arith, kept))) (subst (λ (p : ℕ). Taking a.1.0.rows.now a.1.0.members.now a.1.1.0.now p a.0 r e.1.1.0.now) kept made)

-- `start` of an element that has a model: it is entered in the rules' state.
pub start_moment : (κs : Lfts 1) (a : ArgsD start.signature κs) (r : OpenElements) (e : AtExit start.ended κs) → start_reads.Asked κs a → start_reads.Learnt κs a r e
    → (s : List ℕ) (es : List Element) (places facts M : List ℕ) → Tables s es a.1.0.now places facts M
    → let o = a.0 in
    let k = a.1.1.0.0 in
    (bits : List ℕ) (z : State) → Moment es M bits z o → Declared es k → has_model (content_of es k) ≡ true → Moment es M bits (enter k z) r
start_moment κs a r e asked made s es places facts M tables bits z m declared has = subst (Moment es M bits (enter a.1.1.0.0 z)) (sym made) (moment_entered tables m a.1.1.0.0 declared has asked.1)

-- `start_required`, of the element whose start is to be inferred: in the rules' state the required place is taken, and the element entered.
pub start_required_moment : (κs : Lfts 2) (a : ArgsD start_required.signature κs) (r : OpenElements) (e : AtExit start_required.ended κs) → start_required_reads.Asked κs a → start_required_reads.Learnt κs a r e
    → (s : List ℕ) (es : List Element) (places facts : List ℕ) → Tables s es a.1.0.rows.now places facts a.1.0.members.now → (D : Decisions) → Means s es D
    → let o = a.0 in
    let M = a.1.0.members.now in
    let k = a.1.1.1.0.0 in
    (z : State) → Moment es M a.1.1.0.now z o → inferable s es D z.current ≡ k → 1 ≤ k → Moment es M e.1.1.0.now (enter k (take_place (required_place s es D z.current) z)) r
start_required_moment κs a r e asked made s es places facts tables D means z m chosen some = moment_started tables D means m a.1.1.1.0.0 chosen some asked.1 made

-- `infer_end`: the method asks for the mark, so that the content is complete in the rules too. The parent u of the current element is the current one again,
-- with us around it, and the end is noted. So it is of each end that a start tag, data, an end tag or the document's end infers.
pub infer_end_moment : (κs : Lfts 0) (a : ArgsD infer_end_here.signature κs) (r : OpenElements) (e : AtExit infer_end_here.ended κs) → infer_end_reads.Asked κs a → infer_end_reads.Learnt κs a r e
    → (c : Settings) (s : List ℕ) (es : List Element) → Accepts c s es → (D : Decisions) → Means s es D → (M bits : List ℕ) (z : State) → Moment es M bits z a.0 → (at : ℕ)
    → (is_complete s es D z.current ≡ true)
    × (u : rules.Open) × (us : List rules.Open) × (z.around ≡ u ∷ us)
    × Moment es M bits (record { current = u; around = us; events = z.events ++ end_inferred z.current.element at ∷ [] }) r
infer_end_moment κs a r e asked made c s es accepted D means M bits z m at =
    let (u, us, parent) = moment_parent s es accepted m asked.1 in
    (complete_kept s es accepted m D means ∙ asked.2, u, us, parent, subst (Moment es M bits _) (sym made) (moment_ended s es accepted m u us _ parent))

-- `end`, of an end tag, likewise.
pub end_moment : (κs : Lfts 0) (a : ArgsD end.signature κs) (r : OpenElements) (e : AtExit end.ended κs) → end_reads.Asked κs a → end_reads.Learnt κs a r e
    → (c : Settings) (s : List ℕ) (es : List Element) → Accepts c s es → (M bits : List ℕ) (z : State) → Moment es M bits z a.0 → (at after : ℕ)
    → (u : rules.Open) × (us : List rules.Open) × (z.around ≡ u ∷ us)
    × Moment es M bits (record { current = u; around = us; events = z.events ++ end_written z.current.element at after ∷ [] }) r
end_moment κs a r e asked made c s es accepted M bits z m at after =
    let (u, us, parent) = moment_parent s es accepted m asked.1 in
    (u, us, parent, subst (Moment es M bits _) (sym made) (moment_ended s es accepted m u us _ parent))

-- To note events, which no method does, leaves a moment a moment.
pub noted_moment : (c : Settings) (s : List ℕ) (es : List Element) → Accepts c s es → (M bits : List ℕ) (z : State) (o : OpenElements) → Moment es M bits z o → (ev : List Event)
    → Moment es M bits (record { current = z.current; around = z.around; events = ev }) o
noted_moment c s es accepted M bits z o m ev = moment_noted s es accepted m ev

-- `Beside` leads from one moment to another, act by act, whatever the methods make of each act.
module _ (c : Settings) (s d : List ℕ) (es : List Element) (rows places facts M : List ℕ) (tables : Tables s es rows places facts M) (bits : List ℕ) where
  -- All moments before any position that reading comes to between tokens, those within each token too.
  pub every_moment : (r : Reading (List Event)) (x : Reads c s d es r) (at : ℕ) (l : Line) (z : State) → Passes c s es x.decisions d at l z → Beside s es x.decisions rows M nothing_open fresh bits z
  every_moment r x at l z p = passes_beside tables x.decisions x.means bits d p

  -- All moments of a document that is read to its end, where nothing is open any more.
  pub every_moment_read : (ev : List Event) (x : Reads c s d es (got ev))
      → (z : State) × Beside s es x.decisions rows M nothing_open fresh bits z × (z.around ≡ []) × (is_complete s es x.decisions z.current ≡ true) × (with_attributes c.name_length s es d (records_settled c d z.events) ≡ ev)
  every_moment_read ev x = document_beside tables x.decisions x.means bits d c ev x.reading

  -- What the program has between tokens is what the acts lead to: `Ranged`, `Stands` and `Reaches` are what its loop keeps (`Going` of document_events).
  -- The state that is handed from token to token is at a moment itself (`there` of `Leads`).
  pub between_tokens : (at : ℕ) (l : Line) (o : OpenElements) (now : List ℕ) (z : State) → Ranged o → Stands es M now o z → Reaches c s es d at l z
      → Passes c s es (decided s es) d at l z × Leads s es (decided s es) rows M nothing_open fresh bits z o now
  between_tokens at l o now z g h r = (r.passes, reaches_leads tables bits g h r)

-- The steps of a start tag or of data, in order (`Steps` of settling/specs): what it says of each is the contract of the function that takes it. `is_over`
-- answers whether the document is over, `ends` infers ends, `next_start` says whose start is inferred next, `put_defaults` puts the events of its attributes, `infer_start`
-- infers it, `put_written` puts the events of the attributes of a tag, `placed` takes the place, `opens` answers whether the element has a model, and `start` opens it.
pub is_over_step : (κs : Lfts 0) (a : ArgsD is_over_here.signature κs) (r : Bool) (e : AtExit is_over_here.ended κs) → is_over_reads.Learnt κs a r e → r ≡ eqb a.0.element.0 0 && a.0.complete
is_over_step κs a r e says = says

pub ends_step : (κs : Lfts 4) (a : ArgsD step_ends.signature κs) (r : Stop) (e : AtExit step_ends.ended κs) → step_ends_reads.Learnt κs a r e
    → Stops a.0.rows.now a.0.places.now a.0.facts.now a.0.members.now a.1.0.now a.1.1.1.0.0 a.1.1.1.1.0 a.1.1.1.1.1.0 a.1.1.0 a.1.1.1.1.1.1.0.now a.1.1.1.1.1.1.1.0.now r e.1.1.1.1.1.1.0.now e.1.1.1.1.1.1.1.0.now
ends_step κs a r e stops = stops

pub infer_start_step : (κs : Lfts 4) (a : ArgsD infer_start_here.signature κs) (r : OpenElements) (e : AtExit infer_start_here.ended κs) → infer_start_reads.Learnt κs a r e
    → InfersStart a.0.rows.now a.0.places.now a.0.facts.now a.0.members.now a.1.0.now a.1.1.1.0 a.1.1.1.1.0 a.1.1.0 a.1.1.1.1.1.0.now a.1.1.1.1.1.1.0.now r e.1.0.now e.1.1.1.1.1.0.now e.1.1.1.1.1.1.0.now
infer_start_step κs a r e infers = infers

pub next_start_step : (κs : Lfts 1) (a : ArgsD next_start.signature κs) (r : ElementNo) (e : AtExit next_start.ended κs) → next_start_reads.Learnt κs a r e → Chooses a.0.places.now a.0.facts.now a.1.0 r.0
next_start_step κs a r e (chooses, few) = chooses

pub put_defaults_step : (κs : Lfts 3) (a : ArgsD put_defaults_here.signature κs) (r : ℕ) (e : AtExit put_defaults_here.ended κs) → put_defaults_reads.Learnt κs a r e
    → PutsDefaults a.0.now a.1.0.0 a.1.1.0 a.1.1.1.0.now a.1.1.1.1.0.now r e.1.1.1.0.now e.1.1.1.1.0.now
put_defaults_step κs a r e puts = puts

pub put_written_step : (κs : Lfts 4) (a : ArgsD PutWritten.signature κs) (r : ℕ) (e : AtExit PutWritten.ended κs) → put_written_reads.Learnt κs a r e
    → PutsWritten a.0.now a.1.0.now a.1.1.0.0 a.1.1.1.0 a.1.1.1.1.0.now a.1.1.1.1.1.0.now r e.1.1.1.1.0.now e.1.1.1.1.1.0.now
put_written_step κs a r e puts = puts

pub placed_step : (κs : Lfts 4) (a : ArgsD place.signature κs) (r : Result Outcome Refusal) (e : AtExit place.ended κs) → place_reads.Learnt κs a r e
    → Placed a.0.rows.now a.0.places.now a.0.facts.now a.0.members.now a.1.0.now a.1.1.1.0 a.1.1.1.1.0.0 a.1.1.1.1.1.0 a.1.1.1.1.1.1.0 a.1.1.1.1.1.1.1.0 a.1.1.0 a.1.1.1.1.1.1.1.1.0.now a.1.1.1.1.1.1.1.1.1.0.now r e.1.0.now e.1.1.1.1.1.1.1.1.0.now e.1.1.1.1.1.1.1.1.1.0.now
placed_step κs a r e placed = placed

pub opens_step : (κs : Lfts 1) (a : ArgsD opens.signature κs) (r : Bool) (e : AtExit opens.ended κs) → opens_reads.Learnt κs a r e → Opens a.0.now a.1.0.0 r
opens_step κs a r e says = says

pub start_step : (κs : Lfts 1) (a : ArgsD start.signature κs) (r : OpenElements) (e : AtExit start.ended κs) → start_reads.Learnt κs a r e → r ≡ opened_by a.1.0.now a.1.1.0.0 true a.0
start_step κs a r e made = made

-- Within a start tag that is not refused: the ends that it infers, the starts that it infers, then itself, with a moment before and after each. x is the
-- element, from `at` to `after`. What the steps give, one after the other, is what these acts lead to.
module _ (s : List ℕ) (es : List Element) (rows places facts M lists marks : List ℕ) (tables : Tables s es rows places facts M) (x at after n : ℕ) (o : OpenElements) (bits numbers bytes : List ℕ) (q : OpenElements) (bits' numbers' bytes' : List ℕ)
    (steps : Steps rows places facts M lists marks x at after n o bits numbers bytes q bits' numbers' bytes') where
  pub within_start_tag : 1 ≤ x → x ≤ length es → (z : State) → Moment es M bits z o → (y : State) × (start_element s es (decided s es) x at after z ≡ got y) × Leads s es (decided s es) rows M z o bits y q bits'
  within_start_tag some most z m = steps_lead tables steps some most z m

  -- Within a run of data that is not refused: x is 0. The first byte of the run infers what is inferred and takes its place; each further byte takes the
  -- same place again.
  pub within_data : x ≡ 0 → (z : State) → Moment es M bits z o → (y : State) × (take_data s es (decided s es) at z ≡ got y) × Leads s es (decided s es) rows M z o bits y q bits'
  within_data nothing z m = steps_data tables steps nothing z m

-- Within an end tag that is not refused: the ends that it infers, then itself. The other tables are those of the type, which an end tag does not ask.
pub within_end_tag : (κs : Lfts 3) (a : ArgsD end_tag_lem.signature κs) (g : Result Outcome Refusal) (e : AtExit end_tag_lem.ended κs) → end_tag_reads.Learnt κs a g e → (r : Outcome) → g ≡ Ok r
    → (s : List ℕ) (es : List Element) (rows places M : List ℕ) → Tables s es rows places a.0.now M
    → let o = a.1.0 in
    let x = a.1.1.0.0 in
    let at = a.1.1.1.0 in
    let after = a.1.1.1.1.0 in
    (bits : List ℕ) (z : State) → Moment es M bits z o
    → (y : State) × (end_element s es (decided s es) x at after z ≡ got y) × Leads s es (decided s es) rows M z o bits y r.open bits
within_end_tag κs a g e tagged r done s es rows places M tables bits z m = tagged_leads tables (subst (TaggedSo κs a e) done tagged) z m

-- Within the document's end that is not refused: the ends that it infers, until nothing is open and the document itself is complete, with the events that
-- it brings.
pub within_end : (κs : Lfts 3) (a : ArgsD finish.signature κs) (g : Result Outcome Refusal) (e : AtExit finish.ended κs) (h : finish_reads.Learnt κs a g e) (r : Outcome) (done : g ≡ Ok r)
    → (s : List ℕ) (es : List Element) (rows places M : List ℕ) → Tables s es rows places a.0.now M
    → let o = a.1.0 in
    (bits : List ℕ) (z : State) → Moment es M bits z o
    → (y : State) × Beside s es (decided s es) rows M z o bits y × (y.around ≡ []) × (is_complete s es (decided s es) y.current ≡ true) × (y.events ≡ z.events ++ (subst (FinishedSo κs a e) done h).brings.events)
within_end κs a g e finished r done s es rows places M tables bits z m = finished_beside tables (subst (FinishedSo κs a e) done finished) z m

-- The steps within a token, "At every moment both must equal what 01's definition says of the places taken": each by the contract of the function that takes
-- it, from the moment before it to the moment after it, though the token may still be refused later.

-- Within a start tag of x, or data for 0, the ends that are inferred before it (`ends` of inferring): act by act they lead to the open elements that are
-- handed back. Where the token is not stuck there, so many starts can be inferred one in the other as were found, none if the token fits, and it fits in the
-- last; a place that was found is the one as which the token fits.
pub within_ends : (κs : Lfts 4) (a : ArgsD step_ends.signature κs) (r : Stop) (e : AtExit step_ends.ended κs) → step_ends_reads.Learnt κs a r e
    → (s : List ℕ) (es : List Element) → Tables s es a.0.rows.now a.0.places.now a.0.facts.now a.0.members.now
    → let M = a.0.members.now in
    let bits = a.1.0.now in
    let o = a.1.1.0 in
    let x = a.1.1.1.0.0 in
    x ≤ length es → (z : State) → Moment es M bits z o
    → (y : State) × Leads s es (decided s es) a.0.rows.now M z o bits y r.open bits
    × ((r.found ≡ Stuck → ⊥) → Infers s es (decided s es) (token_of x) (starts_of r.found) y.current)
    × ((p : typed.Place) → r.found ≡ Taken p → p.0 ≡ fitting s es (decided s es) y.current (token_of x))
within_ends κs a r e stops s es tables most z m = stops_lead tables stops most z m

-- Each start that is inferred before it (`infer_start` of inferring), where one or more are left to infer: it is one act, after which there is a moment with
-- the open elements that are handed back, and one start fewer is left. Nothing is taken yet in the element that it opens.
pub within_inferred_start : (κs : Lfts 4) (a : ArgsD infer_start_here.signature κs) (r : OpenElements) (e : AtExit infer_start_here.ended κs) → infer_start_reads.Asked κs a → infer_start_reads.Learnt κs a r e
    → (s : List ℕ) (es : List Element) → Tables s es a.0.rows.now a.0.places.now a.0.facts.now a.0.members.now
    → let M = a.0.members.now in
    let o = a.1.1.0 in
    let at = a.1.1.1.0 in
    (z : State) → Moment es M a.1.0.now z o → (t : Token) (left : ℕ) → Infers s es (decided s es) t (suc left) z.current
    → let y = infer_one s es (decided s es) at z in
    Act s es (decided s es) z y × Moment es M e.1.0.now y r × Infers s es (decided s es) t left y.current × (y.current.taken ≡ [])
within_inferred_start κs a r e asked infers s es tables z m t left (some, rest) =
    let (does, there) = infers_start_does tables infers asked.1 z m some in
    (does, there, rest, refl)

-- The place of a start tag of x, or of data for 0 (`placed` of placing), which is not refused there: in the rules' state the place is taken as which the token
-- fits. What was found before (`within_ends`) is how many starts to infer, after which nothing is taken yet in the current element
-- (`within_inferred_start`), or that place.
pub within_place : (κs : Lfts 4) (a : ArgsD place.signature κs) (g : Result Outcome Refusal) (e : AtExit place.ended κs) → place_reads.Learnt κs a g e → (r : Outcome) → g ≡ Ok r
    → (s : List ℕ) (es : List Element) → Tables s es a.0.rows.now a.0.places.now a.0.facts.now a.0.members.now
    → let M = a.0.members.now in
    let bits = a.1.0.now in
    let o = a.1.1.0 in
    let found = a.1.1.1.0 in
    let x = a.1.1.1.1.0.0 in
    x ≤ length es → (z : State) → Moment es M bits z o
    → ((p : typed.Place) → found ≡ Taken p → p.0 ≡ fitting s es (decided s es) z.current (token_of x)) → ((n : ℕ) → found ≡ Inferred n → z.current.taken ≡ [])
    → Moment es M e.1.0.now (take_token s es (decided s es) (token_of x) z) r.open
within_place κs a g e placed r done s es tables most z m right new = placed_moment tables _ (subst (PlacedSo κs a e) done placed) most z m right new

-- Of an EMPTY element x the tag is noted there, and acts lead to what is handed back.
pub within_empty_place : (κs : Lfts 4) (a : ArgsD place.signature κs) (g : Result Outcome Refusal) (e : AtExit place.ended κs) → place_reads.Learnt κs a g e → (r : Outcome) → g ≡ Ok r
    → (s : List ℕ) (es : List Element) → Tables s es a.0.rows.now a.0.places.now a.0.facts.now a.0.members.now
    → let M = a.0.members.now in
    let bits = a.1.0.now in
    let o = a.1.1.0 in
    let found = a.1.1.1.0 in
    let x = a.1.1.1.1.0.0 in
    let at = a.1.1.1.1.1.0 in
    let after = a.1.1.1.1.1.1.0 in
    1 ≤ x → x ≤ length es → has_model (content_of es x) ≡ false → (z : State) → Moment es M bits z o
    → ((p : typed.Place) → found ≡ Taken p → p.0 ≡ fitting s es (decided s es) z.current (token_of x)) → ((n : ℕ) → found ≡ Inferred n → z.current.taken ≡ [])
    → (y : State) × (noting es x at after (take_token s es (decided s es) (token_of x) z) ≡ got y) × Leads s es (decided s es) a.0.rows.now M z o bits y r.open e.1.0.now
within_empty_place κs a g e placed r done s es tables some most none z m right new =
    places_leads tables _ (subst (PlacedSo κs a e) done placed) (ap (λ (b : Bool). opened_by a.0.rows.now a.1.1.1.1.0.0 b r.open) (sym none)) some most z m right new

-- An element x that has a model is opened after it (`start` of open_elements, with what `placed` handed back): the tag is noted and the element entered, and
-- acts lead to what `start` hands back.
pub within_opened_place : (κs : Lfts 4) (a : ArgsD place.signature κs) (g : Result Outcome Refusal) (e : AtExit place.ended κs) → place_reads.Learnt κs a g e → (r : Outcome) → g ≡ Ok r
    → (s : List ℕ) (es : List Element) → Tables s es a.0.rows.now a.0.places.now a.0.facts.now a.0.members.now
    → let M = a.0.members.now in
    let bits = a.1.0.now in
    let o = a.1.1.0 in
    let found = a.1.1.1.0 in
    let x = a.1.1.1.1.0.0 in
    let at = a.1.1.1.1.1.0 in
    let after = a.1.1.1.1.1.1.0 in
    (lives : Lfts 1) (b : ArgsD start.signature lives) (q : OpenElements) (f : AtExit start.ended lives) → start_reads.Learnt lives b q f → b.0 ≡ r.open → b.1.0.now ≡ a.0.rows.now → b.1.1.0.0 ≡ x
    → 1 ≤ x → x ≤ length es → has_model (content_of es x) ≡ true → (z : State) → Moment es M bits z o
    → ((p : typed.Place) → found ≡ Taken p → p.0 ≡ fitting s es (decided s es) z.current (token_of x)) → ((n : ℕ) → found ≡ Inferred n → z.current.taken ≡ [])
    → (y : State) × (noting es x at after (take_token s es (decided s es) (token_of x) z) ≡ got y) × Leads s es (decided s es) a.0.rows.now M z o bits y q e.1.0.now
within_opened_place κs a g e placed r done s es tables lives b q f made given table number some most has z m right new =
    let there : q ≡ opening a.0.rows.now a.1.1.1.1.0.0 r.open = made ∙ ap₂ (λ (rows : List ℕ) (k : ℕ). opening rows k b.0) table number ∙ ap (opening a.0.rows.now a.1.1.1.1.0.0) given in
    places_leads tables _ (subst (PlacedSo κs a e) done placed) (there ∙ ap (λ (c : Bool). opened_by a.0.rows.now a.1.1.1.1.0.0 c r.open) (sym has)) some most z m right new

-- The place of a run of data likewise: the rules' state is the one after its first byte. Each further byte takes the same place again.
pub within_data_place : (κs : Lfts 4) (a : ArgsD place.signature κs) (g : Result Outcome Refusal) (e : AtExit place.ended κs) → place_reads.Learnt κs a g e → (r : Outcome) → g ≡ Ok r
    → (s : List ℕ) (es : List Element) → Tables s es a.0.rows.now a.0.places.now a.0.facts.now a.0.members.now
    → let M = a.0.members.now in
    let bits = a.1.0.now in
    let o = a.1.1.0 in
    let found = a.1.1.1.0 in
    let x = a.1.1.1.1.0.0 in
    let at = a.1.1.1.1.1.0 in
    x ≡ 0 → (z : State) → Moment es M bits z o
    → ((p : typed.Place) → found ≡ Taken p → p.0 ≡ fitting s es (decided s es) z.current (token_of x)) → ((n : ℕ) → found ≡ Inferred n → z.current.taken ≡ [])
    → let y = take_token s es (decided s es) pcdata z in
    Leads s es (decided s es) a.0.rows.now M z o bits (record { current = y.current; around = y.around; events = with_data at y.events }) r.open e.1.0.now
within_data_place κs a g e placed r done s es tables nothing z m right new = places_data tables _ (subst (PlacedSo κs a e) done placed) nothing z m right new

-- Within an end tag of x, or the document's end, the ends that are inferred until the current element is x or nothing is around it (`end_until` of
-- left_out_ends), where none of them is refused. `infer_end_moment` has the moment after each.
pub within_left_out_ends : (κs : Lfts 3) (a : ArgsD end_until_here.signature κs) (g : Result Outcome Refusal) (e : AtExit end_until_here.ended κs) → end_until_reads.Learnt κs a g e → (r : Outcome) → g ≡ Ok r
    → (s : List ℕ) (es : List Element) (rows places M : List ℕ) → Tables s es rows places a.0.now M
    → let o = a.1.0 in
    let x = a.1.1.0.0 in
    let at = a.1.1.1.0 in
    (bits : List ℕ) (z : State) → Moment es M bits z o
    → (y : State) × (infer_ends s es (decided s es) x at z.around z.current z.events ≡ got y) × Leads s es (decided s es) rows M z o bits y r.open bits
within_left_out_ends κs a g e until r done s es rows places M tables bits z m = until_leads tables (subst (UntilSo κs a e) done until) z m
