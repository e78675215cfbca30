-- The events of a document that is read in edition 2 are those of the paper's three cases.
use Rattle.std.specs.Prelude.{ℕ, ◌+◌, ◌-◌, ◌≤◌, ◌<◌, ◌≡◌, refl, Bool, ◌↔◌, length, eqb}
use Rattle.std.proofs.Common.{arith, sym, ◌∙◌, subst, le-leb}
use Rattle.std.proofs.Math.Path.{ap}
use Rattle.std.proofs.Math.Bool.{true, false}
use mathlib.Core.List.{List, [], ◌∷◌, ◌++◌, nil≢cons, Memᴰ}
use Rattle.rules.specs.Settings.{Settings, is_second}
use Rattle.rules.specs.Reading.{got}
use Rattle.rules.specs.Attributes.{Default, required, implied, literal, Attribute}
use Rattle.rules.specs.TypeFile.{Element}
use Rattle.rules.specs.Document.{Written, start_tag_at}
use Rattle.rules.specs.Elements.{element_at}
use Rattle.rules.specs.Bytes.{byte_at, RE}
use Rattle.rules.specs.Decisions.{pcdata, Decisions}
use Rattle.rules.specs.Events.{Event}
use Rattle.rules.specs.Given.{given_for, attribute_event, attribute_events, given_by, attributes_before, with_attributes}
use Rattle.rules.specs.Settling.{State, fitting}
use Rattle.rules.specs.Records.{Line, cut_before_ends, records_settled}
use Rattle.rules.specs.Reader.{document}
use Rattle.rules.specs.RecordEnds.{Thing, record_end, datum, Contents, after_events, new_in, Ignored, Fills, Filled, IsData, ByThreeCases, SecondEdition}
use Rattle.rules_laws.specs.Holds.{got_so}
use Rattle.record_laws.specs.Cases.{is_dropped, dropped_means}
use Rattle.record_laws.specs.Tracks.{kept}
use Rattle.record_laws.specs.Counts.{count, data_count, data_append}
use Rattle.record_laws.specs.Moves.{moves_new, Over, document_over}
use Rattle.record_laws.specs.AtOnce.{moves_rooted}
use Rattle.record_laws.specs.Counted.{open_count, ended_count, moves_counted, fills_counted}
use Rattle.record_laws.specs.Places.{places, places_append, all_places, moves_places, fills_placed}
use Rattle.record_laws.specs.Kept.{so_far_most, kept_datum, kept_end, same_one, part}
use Rattle.record_laws.specs.InEvents.{counted_data, data_counted, ended_stands, one_place}
use Rattle.record_laws.specs.NoneLeftOut.{all_ends, ends_in, moves_ends, ends_places, all_stand, stood_counted}
use Rattle.record_laws.specs.Ground.{bottom, Ground, moves_ground, rooted_none, NoData, fills_ground}
use Rattle.document_laws.specs.Moves.{document_came as read_came}
use Rattle.record_laws.specs.Passed.{passes_fills}

-- Where each place is in the data events as often as the three cases keep it in the elements, and is one thing of one element.
pub record Settled (ev : List Event) (elements : List (List Thing)) : Type 0 where
  pub counts : (p : ℕ) → data_count p ev ≡ ended_count p elements
  pub once : (p : ℕ) → all_places p elements ≤ 1

module _ {ev : List Event} {elements : List (List Thing)} (w : Settled ev elements) where
  -- A place of an element is data as often as it is kept there.
  there : (p : ℕ) (c : List Thing) → Memᴰ c elements → 1 ≤ places p c → (data_count p ev ≡ count p (kept [] c)) × (places p c ≤ 1)
  there p c m h =
      let x = part p c elements m in
      (omega (arith, w.counts p, w.once p, x.counts, x.stand, x.most), omega (arith, w.once p, x.stand))

  datum_some : (p : ℕ) (before after : List Thing) → 1 ≤ places p (before ++ datum p ∷ after)
  datum_some p before after = omega (arith, places_append p before (datum p ∷ after), same_one p)

  end_some : (p : ℕ) (before after : List Thing) → 1 ≤ places p (before ++ record_end p ∷ after)
  end_some p before after = omega (arith, places_append p before (record_end p ∷ after), same_one p)

  data_byte_lem : (c before after : List Thing) (p : ℕ) → Memᴰ c elements → c ≡ before ++ datum p ∷ after → IsData p ev
  data_byte_lem c before after p m e =
      let (a, b) = there p c m (omega (arith, ap (places p) e, datum_some p before after)) in
      counted_data p ev (omega (arith, a, ap (λ (l : List Thing). count p (kept [] l)) e, kept_datum p before after (omega (arith, b, ap (places p) e))))

  end_count : (c before after : List Thing) (p : ℕ) → Memᴰ c elements → c ≡ before ++ record_end p ∷ after → (b : Bool) → is_dropped before p after ≡ b → data_count p ev ≡ elim b as (λ _. ℕ) [ true ↦ 0 | false ↦ 1 ]
  end_count c before after p m e b q =
      let (a, o) = there p c m (omega (arith, ap (places p) e, end_some p before after)) in
      a ∙ ap (λ (l : List Thing). count p (kept [] l)) e ∙ kept_end p before after b q (omega (arith, o, ap (places p) e))

  record_end_lem : (c before after : List Thing) (p : ℕ) → Memᴰ c elements → c ≡ before ++ record_end p ∷ after → IsData p ev ↔ (¬ (Ignored before p after))
  record_end_lem c before after p m e = (λ x i. not_both x i, λ n. is_data_lem (is_dropped before p after) refl n)
    where
      not_both : IsData p ev → Ignored before p after → ⊥
      not_both x i = omega (arith, data_counted p ev x, end_count c before after p m e true ((dropped_means before p after).1 i))

      is_data_lem : (b : Bool) → is_dropped before p after ≡ b → ¬ (Ignored before p after) → IsData p ev
      is_data_lem true q n = absurd (n ((dropped_means before p after).0 q))
      is_data_lem false q n = counted_data p ev (omega (arith, end_count c before after p m e false q))

  pub three_cases : ByThreeCases ev elements
  three_cases =
      record {
        record_end_lem = record_end_lem;
        data_byte_lem = data_byte_lem;
        nothing_else = λ p x. ended_stands p elements (omega (arith, data_counted p ev x, w.counts p));
        one_place = λ p x y. one_place p elements (w.once p) x y;
      }

-- Attribute events are no data.

event_attributes : (p n : ℕ) (f : Default) (ws : List Written) → data_count p (attribute_event n f ws) ≡ 0
event_attributes p n required [] = refl
event_attributes p n implied [] = refl
event_attributes p n (literal q) [] = refl
event_attributes p n required (w ∷ ws) = refl
event_attributes p n implied (w ∷ ws) = refl
event_attributes p n (literal q) (w ∷ ws) = refl

list_attributes : (p n : ℕ) (s : List ℕ) (xs : List Attribute) (d : List ℕ) (ws : List Written) → data_count p (attribute_events n s xs d ws) ≡ 0
unfolding attribute_events
list_attributes p n s [] d ws = refl
list_attributes p n s (a ∷ xs) d ws =
    omega (arith, data_append p (attribute_event n a.default (given_for s a d ws)) (attribute_events (n + 1) s xs d ws), event_attributes p n a.default (given_for s a d ws), list_attributes p (n + 1) s xs d ws)

before_attributes : (p long : ℕ) (s : List ℕ) (es : List Element) (d : List ℕ) (e : Event) → data_count p (attributes_before long s es d e) ≡ 0
unfolding attributes_before
before_attributes p long s es d e = by_kind (eqb e.kind 1) (eqb e.kind 2)
  where
    xs : List Attribute
    xs = (element_at es (e.number - 1)).attributes

    by_kind : (a b : Bool) → data_count p (elim a as (λ _. List Event) [ true ↦ attribute_events 1 s xs d (given_by (start_tag_at long d (e.offset + 1))) | false ↦ elim b as (λ _. List Event) [ true ↦ attribute_events 1 s xs d [] | false ↦ [] ] ]) ≡ 0
    by_kind true b = list_attributes p 1 s xs d (given_by (start_tag_at long d (e.offset + 1)))
    by_kind false true = list_attributes p 1 s xs d []
    by_kind false false = refl

pub attributes_count : (p long : ℕ) (s : List ℕ) (es : List Element) (d : List ℕ) (ev : List Event) → data_count p (with_attributes long s es d ev) ≡ data_count p ev
unfolding with_attributes
attributes_count p long s es d [] = refl
attributes_count p long s es d (e ∷ ev) =
    omega (arith, data_append p (attributes_before long s es d e) (e ∷ with_attributes long s es d ev), before_attributes p long s es d e, attributes_count p long s es d ev)

-- A document read to its end

module _ (c : Settings) (s : List ℕ) (es : List Element) (D : Decisions) (d : List ℕ) where
  -- The events of a document, those that reading came to with the records settled and attributes added, and what came in it.
  record Came (given : List Event) : Type 0 where
    events : List Event
    contents : Contents
    filled : Filled c s es D d events contents
    gives : given ≡ with_attributes c.name_length s es d (records_settled c d events)

  document_came : (given : List Event) → document c s es D d ≡ got given → Came given
  document_came given e =
      let x = read_came c s es D d given e in
      let a = x.end in
      let (k, fills) = passes_fills a.passes in
      record {
        events = x.events;
        contents = after_events (new_in a.there.events x.events) k;
        filled = record { at = a.at; line = a.line; state = a.there; before = k; fills = fills; over = a.over; ends = a.gives; contents = refl };
        gives = x.shown;
      }

  module _ (none : (at : ℕ) (l : Line) (z : State) (k : Contents) → Fills c s es D d at l z k → NoData s es D z) (second : is_second c ≡ true) where
    nothing_open_lem : (p : ℕ) (cs : List (List Thing)) → cs ≡ [] → open_count p cs ≡ 0
    nothing_open_lem p cs e = ap (open_count p) e

    ground_clean : (p : ℕ) (z : State) (k : Contents) → Ground z k → k.around ≡ [] → places p k.current ≡ 0
    ground_clean p z k g e = bare k.around e (g.clean p)
      where
        bare : (around : List (List Thing)) → around ≡ [] → places p (bottom around k.current) ≡ 0 → places p k.current ≡ 0
        bare [] q h = h
        bare (u ∷ around) q h = absurd (nil≢cons (sym q))

    over_settled : {z : State} {k : Contents} {at : ℕ} {l : Line} (ev : List Event) → Fills c s es D d at l z k → (o : Over z k ev) → Settled (cut_before_ends d ev) o.contents.ended
    over_settled ev h o =
        let n = moves_counted o.moves (fills_counted c s es D d second h) in
        let w = fills_ground c s es D d none h in
        let g = moves_ground o.moves w.1 in
        let a = rooted_none o.last.around o.contents.around (moves_rooted o.moves w.0.rooted) o.around in
        record {
          counts = λ p. omega (
            arith,
            n.total p,
            ap (λ (x : List Event). data_count p (cut_before_ends d x)) o.events,
            so_far_most p o.contents.current,
            ground_clean p o.last o.contents g a,
            nothing_open_lem p o.contents.around a,
          );
          once = λ p. omega (arith, moves_places p o.moves, (fills_placed c s es D d h).once p);
        }

    filled_settled : {ev : List Event} {k : Contents} → Filled c s es D d ev k → Settled (cut_before_ends d ev) k.ended
    filled_settled {ev} {k} w =
        let o = got_so (document_over s es D (length d) w.state w.before) w.ends in
        let e : o.contents ≡ k = moves_new o.moves ∙ ap (λ (x : List Event). after_events (new_in w.state.events x) w.before) o.events ∙ sym w.contents in
        subst (λ (j : Contents). Settled (cut_before_ends d ev) j.ended) e (over_settled ev w.fills o)

    settled_second : (ev : List Event) → records_settled c d ev ≡ cut_before_ends d ev
    unfolding records_settled
    settled_second ev = ap {B = List Event} (λ (b : Bool). elim b as (λ _. List Event) [ true ↦ cut_before_ends d ev | false ↦ ev ]) second

    -- Whatever came: the events that are given are those of the three cases.
    pub filled_cases : (ev : List Event) (k : Contents) → Filled c s es D d ev k → ByThreeCases (with_attributes c.name_length s es d (records_settled c d ev)) k.ended
    filled_cases ev k w =
        let v = filled_settled w in
        three_cases (record { counts = λ p. attributes_count p c.name_length s es d (records_settled c d ev) ∙ ap (data_count p) (settled_second ev) ∙ v.counts p; once = v.once })

    -- No record end is left out.
    over_left : {z : State} {k : Contents} {at : ℕ} {l : Line} (p : ℕ) (ev : List Event) → Fills c s es D d at l z k → (o : Over z k ev) → 1 ≤ ends_in p k → 1 ≤ all_ends p o.contents.ended
    over_left p ev h o e =
        let w = fills_ground c s es D d none h in
        let a = rooted_none o.last.around o.contents.around (moves_rooted o.moves w.0.rooted) o.around in
        omega (
          arith,
          moves_ends p o.moves,
          ends_places p o.contents.current,
          ground_clean p o.last o.contents (moves_ground o.moves w.1) a,
          ap (all_ends p) a,
        )

    filled_left : {ev : List Event} {j : Contents} → Filled c s es D d ev j → (p : ℕ) (l : Line) (z : State) (k : Contents) → Fills c s es D d p l z k → p < length d → byte_at d p ≡ RE → 1 ≤ fitting s es D z.current pcdata
        → (element : List Thing) × (before : List Thing) × (after : List Thing) × Memᴰ element j.ended × (element ≡ before ++ record_end p ∷ after)
    filled_left {ev} {j} w p l z k h i b f =
        let o = got_so (document_over s es D (length d) w.state w.before) w.ends in
        let e : o.contents ≡ j = moves_new o.moves ∙ ap (λ (x : List Event). after_events (new_in w.state.events x) w.before) o.events ∙ sym w.contents in
        let n : 1 ≤ ends_in p w.before = stood_counted c s es D d h w.fills (omega (arith, w.over)) b (le-leb 1 (fitting s es D z.current pcdata) f) in
        let x = all_stand p j.ended (subst (λ (y : Contents). 1 ≤ all_ends p y.ended) e (over_left p ev w.fills o n)) in
        (x.element, x.before, x.after, x.among, x.stands)

    -- So it is with every document that is read in edition 2.
    pub second_edition_lem : (given : List Event) → document c s es D d ≡ got given → SecondEdition c s es D d given
    second_edition_lem given e =
        let w = document_came given e in
        record {
          events = w.events;
          contents = w.contents;
          filled = w.filled;
          gives = w.gives;
          by_cases = subst (λ (x : List Event). ByThreeCases x w.contents.ended) (sym w.gives) (filled_cases w.events w.contents w.filled);
          none_left_out = filled_left w.filled;
        }
