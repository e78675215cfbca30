-- The proofs of the demands, one theorem each; Demands has them together and is to be read first.
use Rattle.std.specs.Prelude.{ℕ, ◌-◌, ◌*◌, ◌<◌, ◌≤◌, ◌≡◌, refl, false, ◌||◌, ◌↔◌, List, ◌++◌, length, eqb}
use Rattle.std.proofs.Common.{sym, ◌∙◌, ap, ⊎_elim, arith, le-leb}
use Rattle.std.proofs.lemmas.Bool.{not-true}
use Rattle.rules.specs.Settings.{Settings, is_offered}
use Rattle.rules.specs.Lent.{Lent, room}
use Rattle.rules.specs.Reading.{got}
use Rattle.rules.specs.Walk.{Group}
use Rattle.rules.specs.Ambiguity.{Ambiguous, PairAtFault}
use Rattle.rules.specs.TypeFile.{Place, Element, type_file}
use Rattle.rules.specs.Judge.{same_place, Answer, refusal, Legible, Refuses, no_room, Accepts, Judged, refuses, accepts, record_width}
use Rattle.rules.specs.Events.{Event, event_width}
use Rattle.rules.specs.Given.{attributes_before, with_attributes}
use Rattle.rules.specs.Decisions.{Decisions, Means}
use Rattle.rules.specs.Attributes.{needs_tag}
use Rattle.rules.specs.Elements.{element_at}
use Rattle.rules.specs.Settling.{Open, State, inferable}
use Rattle.document_laws.specs.Chain.{inferable_may}
use Rattle.basic_laws.specs.Truth.{and_right}
use Rattle.rules.specs.Acts.{Deeds, IsStart, Took}
use Rattle.rules.specs.Records.{is_end, records_settled}
use Rattle.rules.specs.Reader.{BothLegible, Reads, RefusesBoth, ReadAs}
use Rattle.demands.specs.Words.{Refusal, Acceptance, ModelOf, SomeRepeated, RepeatsFirst, SomeAmbiguous, NamesFirst, NamesDecide, ReaderRefusal, ReaderAcceptance, SameVerdict}
use Rattle.answer_laws.specs.Judge.{settled_one, settled_refuses, settled_accepts, settled_fair, settled_faulty, refuses_named, refuses_some, settled_twenty_four, settled_twenty_five, settled_repeated, settled_nine, settled_nineteen, first_model, model_exactly, not_ambiguous, names_alone, settled_length}
use Rattle.demands.specs.Ampersands.{repeats_first}
use Rattle.demands.specs.Models.{pair_in, names_first, some_repeated, repeated_some, unrepeated_none, none_repeated}
use Rattle.document_laws.specs.OneReading.{same_elements}
use Rattle.record_due.specs.Due.{to_other}
use Rattle.record_due.specs.Among.{Among, cut_run, stands, among}
use Rattle.place_laws.specs.Taken.{deeds_took}
use Rattle.place_laws.specs.Stood.{OfAttribute, Stood, added, there, of_attribute}
use Rattle.answer_laws.specs.Reader.{given_one, both_says, both_some, given_twenty_four, given_twenty_five, given_repeated, given_nine, given_nineteen, type_refused, given_refuses, given_accepts, given_faulty, given_fair, given_length}

-- The type judge

module _ (l : Lent) (c : Settings) (s before : List ℕ) (a : Answer) (after : List ℕ) (promised : Judged l c s before a after) where
  -- Demand 1.

  pub refusal_whole : (a.number ≡ 0 → ⊥) → Refusal s before a after
  refusal_whole h =
      let (r, z) = settled_refuses promised h in
      let (n, k, p, q, e, b, i, o) = refuses_named r in
      rw e (record { number = b; input = refl; position = i; places = o; count = refl; zeroed = z })

  pub same_length : length after ≡ length before
  same_length = settled_length promised

  -- Demand 2: the type is accepted exactly when the rules accept it and the numbers fit, and then with exactly their records.

  pub accepted_exactly : (a.number ≡ 0) ↔ ((es : List Element) × Accepts c s es × (record_width * length es ≤ room l before))
  accepted_exactly = (
    λ h. let (es, w, f, e, z) = settled_accepts promised h in (es, w, f),
    λ (es, w, f). rw (settled_one promised (accepts es w f refl refl)).0,
  )

  pub acceptance_whole : a.number ≡ 0 → Acceptance l c s before a after
  acceptance_whole h =
      let (es, w, f, e, z) = settled_accepts promised h in
      record { elements = es; accepted = w; fits = f; answer = e; written = z }

  -- Every refusal is the one that the order picks: "1 type, .. 2 type, ..; the type file's 3 to 8 ..; 9; ..; 19", with 24 before all and 25 before 9.
  pub refused_exactly : (a.number ≡ 0 → ⊥) ↔ Refuses c s (room l before) a
  refused_exactly = (λ h. (settled_refuses promised h).0, refuses_some)

  pub order_picks : (b : Answer) → Refuses c s (room l before) b → a ≡ b
  order_picks b r = (settled_one promised (refuses r refl)).0

  -- "19 only where nothing else is wrong, and exactly if the numbers don't fit."
  pub too_small_exactly : (a.number ≡ 19) ↔ ((es : List Element) × Accepts c s es × (room l before < record_width * length es))
  too_small_exactly = (
    settled_nineteen promised,
    λ (es, w, f). rw (order_picks _ (no_room w.legible es w.elements w.unrepeated w.unambiguous f refl)),
  )

  -- Number 24: the caller's settings are not offered.
  pub not_offered_lem : is_offered c ≡ false → a ≡ refusal 24 0 0 0
  not_offered_lem o = order_picks _ (Refuses.not_offered o refl)

  pub not_offered_exactly : (a.number ≡ 24) ↔ (is_offered c ≡ false)
  not_offered_exactly = (settled_twenty_four promised, λ o. rw (not_offered_lem o))

  -- Number 25: in some content model an "&" group stands where none may.
  pub repeated_exactly : (a.number ≡ 25) ↔ (Legible c s × (es : List Element) × (type_file c.name_length s ≡ got es) × SomeRepeated es)
  repeated_exactly = (
    λ h. let (i, es, r, l, k) = settled_twenty_five promised h in (i, es, r, some_repeated c.name_length s es r l),
    λ (i, es, r, x). settled_repeated promised i es r (repeated_some c.name_length s es r x),
  )

  pub repeated_named : a.number ≡ 25 → RepeatsFirst c s a
  repeated_named h = let (i, es, r, l, k) = settled_twenty_five promised h in repeats_first c s a es r l k

  -- Demand 3: a type is refused as ambiguous exactly when some content model is.

  pub ambiguous_exactly : (a.number ≡ 9) ↔ (Legible c s × (es : List Element) × (type_file c.name_length s ≡ got es) × (SomeRepeated es → ⊥) × SomeAmbiguous s es)
  ambiguous_exactly = (
    λ h. let (i, es, r, o, f) = settled_nine promised h in (i, es, r, unrepeated_none c.name_length s es r o, first_model f),
    λ (i, es, r, o, (g, ps, (e, n, m, b), x)). settled_faulty promised i es r (none_repeated c.name_length s es r o) (λ u. not_ambiguous s g ps u m b x),
  )

  pub ambiguous_named : a.number ≡ 9 → NamesFirst c s a
  ambiguous_named h = let (i, es, r, o, f) = settled_nine promised h in names_first c s a es r f

  -- Else names alone decide places, also where the buffer is too small.
  pub names_decide : Legible c s → (a.number ≡ 9 → ⊥) → (es : List Element) → type_file c.name_length s ≡ got es → (SomeRepeated es → ⊥) → NamesDecide s es
  names_decide i h es r o g ps (e, n, m, b) = names_alone s g ps (settled_fair promised i es r h (not_repeated o)) m b
    where
      not_repeated : (SomeRepeated es → ⊥) → a.number ≡ 25 → ⊥
      not_repeated o z =
          let (j, fs, q, x) = repeated_exactly.0 z in
          o (rw (same_elements c s fs es q r) at x)

-- A model is ambiguous by demand 3 exactly if it has a pair at fault.
pub pair_exactly : (s : List ℕ) (g : Group) (ps : List Place) → Ambiguous (same_place s ps) g ↔ ((p : ℕ) × (q : ℕ) × PairAtFault (same_place s ps) g p q)
pair_exactly = model_exactly

-- Of a model that was read both places are places of the model.
pub pair_places : (c : Settings) (s : List ℕ) (es : List Element) → type_file c.name_length s ≡ got es → (g : Group) (ps : List Place) → ModelOf es g ps
    → (p q : ℕ) → PairAtFault (same_place s ps) g p q → (1 ≤ p) × (q ≤ length ps)
pair_places c = pair_in c.name_length

-- The rules have only one answer of the judge, with what the buffer holds after.
pub judged_one : (l : Lent) (c : Settings) (s before : List ℕ) (a b : Answer) (after other : List ℕ) → Judged l c s before a after → Judged l c s before b other → (a ≡ b) × (after ≡ other)
judged_one l c s before a b after other = settled_one

-- The document reader

module _ (l : Lent) (c : Settings) (s d before : List ℕ) (a : Answer) (after : List ℕ) (called : ReadAs l c s d before a after) where
  one : (b : Answer) (other : List ℕ) → ReadAs l c s d before b other → a ≡ b
  one b other x = (given_one l c s d before a b after other called x).0

  -- Demand 1.

  pub reader_refusal_whole : (a.number ≡ 0 → ⊥) → ReaderRefusal s d before a after
  reader_refusal_whole h =
      let (r, z) = given_refuses called h in
      let (w, p, n) = both_says r in
      record { stands = w; places = p; count = n; zeroed = z }

  pub reader_same_length : length after ≡ length before
  reader_same_length = given_length called

  -- Demand 2: the document is accepted exactly when the rules accept it and the numbers fit, and then with exactly their events.

  pub reader_accepted_exactly : (a.number ≡ 0) ↔ ((es : List Element) × (ev : List Event) × Reads c s d es (got ev) × (event_width * length ev ≤ room l before))
  reader_accepted_exactly = (
    λ h. let (es, ev, r, f, e, z) = given_accepts called h in (es, ev, r, f),
    λ (es, ev, r, f). rw (one _ _ (ReadAs.accepts es ev r f refl refl)),
  )

  pub reader_acceptance_whole : a.number ≡ 0 → ReaderAcceptance l c s d before a after
  reader_acceptance_whole h =
      let (es, ev, r, f, e, z) = given_accepts called h in
      record { elements = es; events = ev; read = r; fits = f; answer = e; written = z }

  -- Every refusal is the one that the order picks: "1 type, 1 document, 2 type, 2 document; the type file's 3 to 8 ..; 9; then the
  -- document's tokens in turn; 19".
  pub reader_refused_exactly : (a.number ≡ 0 → ⊥) ↔ RefusesBoth c s d (room l before) a
  reader_refused_exactly = (λ h. (given_refuses called h).0, both_some)

  pub reader_order_picks : (b : Answer) → RefusesBoth c s d (room l before) b → a ≡ b
  reader_order_picks b r = one b _ (ReadAs.refuses r refl)

  pub reader_too_small_exactly : (a.number ≡ 19) ↔ ((es : List Element) × (ev : List Event) × Reads c s d es (got ev) × (room l before < event_width * length ev))
  reader_too_small_exactly = (
    given_nineteen called,
    λ (es, ev, r, f). rw (reader_order_picks _ (RefusesBoth.no_room es ev r f refl)),
  )

  pub reader_not_offered : is_offered c ≡ false → a ≡ refusal 24 0 0 0
  reader_not_offered o = reader_order_picks _ (RefusesBoth.not_offered o refl)

  pub reader_not_offered_exactly : (a.number ≡ 24) ↔ (is_offered c ≡ false)
  reader_not_offered_exactly = (given_twenty_four called, λ o. rw (reader_not_offered o))

  -- Number 25, as for the judge.
  pub reader_repeated_exactly : (a.number ≡ 25) ↔ (BothLegible c s d × (es : List Element) × (type_file c.name_length s ≡ got es) × SomeRepeated es)
  reader_repeated_exactly = (
    λ h. let (i, es, r, l, k) = given_twenty_five called h in (i, es, r, some_repeated c.name_length s es r l),
    λ (i, es, r, x). given_repeated called i r (repeated_some c.name_length s es r x),
  )

  pub reader_repeated_named : a.number ≡ 25 → RepeatsFirst c s a
  reader_repeated_named h = let (i, es, r, l, k) = given_twenty_five called h in repeats_first c s a es r l k

  -- Demand 3, whatever document and buffer come with the type: it is refused as ambiguous exactly when some content model is.

  pub reader_ambiguous_exactly : (a.number ≡ 9) ↔ (BothLegible c s d × (es : List Element) × (type_file c.name_length s ≡ got es) × (SomeRepeated es → ⊥) × SomeAmbiguous s es)
  reader_ambiguous_exactly = (
    λ h. let (i, es, r, o, f) = given_nine called h in (i, es, r, unrepeated_none c.name_length s es r o, first_model f),
    λ (i, es, r, o, (g, ps, (e, n, m, b), x)). given_faulty called i r (none_repeated c.name_length s es r o) (λ u. not_ambiguous s g ps u m b x),
  )

  pub reader_ambiguous_named : a.number ≡ 9 → NamesFirst c s a
  reader_ambiguous_named h = let (i, es, r, o, f) = given_nine called h in names_first c s a es r f

  -- Else names alone decide places, also where the document is refused.
  pub reader_names_decide : BothLegible c s d → (a.number ≡ 9 → ⊥) → (es : List Element) → type_file c.name_length s ≡ got es → (SomeRepeated es → ⊥) → NamesDecide s es
  reader_names_decide i h es r o g ps (e, n, m, b) = names_alone s g ps (given_fair called i r h (not_repeated o)) m b
    where
      not_repeated : (SomeRepeated es → ⊥) → a.number ≡ 25 → ⊥
      not_repeated o z =
          let (j, fs, q, x) = reader_repeated_exactly.0 z in
          o (rw (same_elements c s fs es q r) at x)

-- Demand 3, across the calls: the judge, lent `before`, and the reader, lent `other`, are of one mind on the type.
module _ (l m : Lent) (c : Settings) (s d before other : List ℕ) (a b : Answer) (after left : List ℕ) (judged : Judged l c s before a after) (kept : ReadAs m c s d other b left) where
  same_answer : BothLegible c s d → 1 ≤ a.number → (a.number ≡ 19 → ⊥) → a ≡ b
  same_answer i h k = sym (reader_order_picks m c s d other b left kept a (type_refused i ((refused_exactly l c s before a after judged).0 (λ z. omega arith)) k))

  same_nine : BothLegible c s d → b.number ≡ 9 → a.number ≡ 9
  same_nine i h =
      let (j, es, r, o, x) = (reader_ambiguous_exactly m c s d other b left kept).0 h in
      (ambiguous_exactly l c s before a after judged).1 (i.type, es, r, o, x)

  pub same_verdict : BothLegible c s d → SameVerdict a b
  same_verdict i = record { ambiguous = (λ h. rw (same_answer i (omega arith) (λ z. omega arith)) at h, same_nine i); same = same_answer i }

-- Events

-- Of each event of a document: a start took its place behind all that the events before did, and the events of its own attributes stand between; all others have no place.
pub told_among : (c : Settings) (s : List ℕ) (es : List Element) {given : Settings} → Accepts given s es → (D : Decisions) → Means s es D → (d : List ℕ) {y : State} → Deeds s es D y → (before : List Event) (e : Event) → Stood c.name_length s es d (records_settled c d y.events) before e
    → (IsStart e → (z : State) × Deeds s es D z × (with_attributes c.name_length s es d (records_settled c d z.events) ++ attributes_before c.name_length s es d e ≡ before) × Took s es z.current e) × ((IsStart e → ⊥) → e.place ≡ 0)
told_among c s es accepted D means d deeds before e (added x m) =
    let o = of_attribute c.name_length s es d x e m in
    (λ k. absurd (no_start e o k), λ k. o.place)
  where
    no_start : (e : Event) → OfAttribute e → IsStart e → ⊥
    no_start e o k = ⊎_elim (λ i. ⊎_elim (λ j. omega (arith, i, j)) (λ j. omega (arith, i, j)) k) (λ i. ⊎_elim (λ j. omega (arith, i, j)) (λ j. omega (arith, i, j)) k) o.kind
told_among c s es accepted D means d {y} deeds before e (there first last i j) = by_settled (among c d y.events first e last i)
  where
    start_no_end : IsStart e → is_end e ≡ false
    start_no_end k = ⊎_elim (λ q. ap (λ (n : ℕ). eqb n 3 || eqb n 4) q) (λ q. ap (λ (n : ℕ). eqb n 3 || eqb n 4) q) k

    by_settled : Among c d y.events first e
        → (IsStart e → (z : State) × Deeds s es D z × (with_attributes c.name_length s es d (records_settled c d z.events) ++ attributes_before c.name_length s es d e ≡ before) × Took s es z.current e) × ((IsStart e → ⊥) → e.place ≡ 0)
    by_settled (cut_run k p) = (λ q. absurd (⊎_elim (λ n. omega (arith, k, n)) (λ n. omega (arith, k, n)) q), λ q. p)
    by_settled (stands a b m settled) =
        let (took, other) = deeds_took s es accepted D means deeds a e b m in (
          λ k.
              let (z, did, are, t) = took k in
              let shows : records_settled c d z.events ≡ first = ap (records_settled c d) are ∙ sym (to_other c d e a (start_no_end k)) ∙ settled in
              (z, did, ap (λ (v : List Event). with_attributes c.name_length s es d v ++ attributes_before c.name_length s es d e) shows ∙ sym j, t),
          other,
        )

-- Paper 02, request one: no start of an element with a required attribute may be inferred in an open element.
pub required_never_inferable : (s : List ℕ) (es : List Element) (D : Decisions) (o : Open)
    → 1 ≤ inferable s es D o → needs_tag (element_at es (inferable s es D o - 1)).attributes ≡ false
required_never_inferable s es D o some =
    not-true _ (and_right (eqb (element_at es (inferable s es D o - 1)).start 1) _
    (inferable_may s es D o (le-leb 1 (inferable s es D o) some)).start)
