-- The whole of a token: the ends, the starts and its place, put together as the rules have them.
use Rattle.std.specs.Prelude.{ℕ, zero, suc, ◌+◌, ◌-◌, ◌≤◌, ◌<◌, ◌≡◌, refl, Bool, true, false, List, [], ◌∷◌, ◌++◌, length}
use Rattle.std.proofs.Common.{sym, ◌∙◌, ap, ap₂, append_assoc, arith, length-append}
use Rattle.rules.specs.Reading.{Reading, refused, got, and_then}
use Rattle.rules.specs.TypeFile.{Element}
use Rattle.rules.specs.Decisions.{Token}
use Rattle.rules.specs.Document.{Tag, start_tag_at}
use Rattle.rules.specs.Elements.{element_at}
use Rattle.rules.specs.Events.{Event, start_written, end_of_empty}
use Rattle.rules.specs.Given.{attribute_events, with_attributes}
use Rattle.rules.specs.Settling.{State, take_place, fitting, take_token, is_over, settle_from, settle}
use Rattle.rules.specs.Records.{due_run}
use Rattle.rules_laws.specs.BeforeStarts.{with_append, with_start_written, plain_end_of_empty}
use Rattle.rules.specs.Bytes.{TAGLVL}
use Rattle.text.specs.declared.Refusal.{Refusal}
use Rattle.text.specs.Refusal.{number_of}
use Rattle.document_laws.specs.Decide.{decided}
use Rattle.acts.specs.Settled.{settle_over, settle_on, start_element_is}
use Rattle.turn_laws.specs.Steps.{take_run_is}
use Rattle.list_table.specs.Lists.{Lists}
use Rattle.attribute_events.specs.PutBefore.{PutsWritten}
use Rattle.type_tables.specs.Tables.{Tables, CanTake}
use Rattle.open_elements.specs.declared.OpenElements.{OpenElements}
use Rattle.open_elements.specs.declared.Outcome.{Outcome}
use Rattle.open_elements.specs.Stands.{Stands}
use Rattle.open_elements.specs.Becomes.{Got, StandsWith}
use Rattle.open_elements.specs.Taken.{can_fit}
use Rattle.open_elements.specs.Methods.{stands_deep}
use Rattle.event_buffer.specs.EventByEvent.{puts_then}
use Rattle.ways.specs.declared.Way.{Way}
use Rattle.ways.specs.declared.Way.TheVariants.{Taken, Inferred, Stuck}
use Rattle.ways.specs.Asks.{token_of, token_of_number, token_of_declared, way_of, chained, starts_of, place_of}
use Rattle.inferring.specs.declared.Stop.{Stop}
use Rattle.inferring.specs.Inferring.{Comes, Stops, infer_many, Infers}
use Rattle.inferring.specs.Starts.{infer_deeper, infer_fresh, Along, along_all}
use Rattle.inferring.specs.Inward.{way_fits, way_infers, way_some}
use Rattle.inferring.specs.Ends.{found_at, found_settled, found_refused}
use Rattle.placing.specs.Noting.{noting, written_of, shown_of, PlacedGot, PlacedRefused, Places}
use Rattle.placing.specs.Places.{noting_many}
use Rattle.settling.specs.Settled.{takes, Gives, RefusesToken, Settles}
use Rattle.record_due.specs.Lists.{plain_run}

-- What the rules make of a token: it is settled, then noted.
takes_noting : (s : List ℕ) (es : List Element) (x at after : ℕ) (z : State) → takes s es x at after z ≡ and_then (settle s es (decided s es) (token_of x) at z) (noting es x at after)
takes_noting s es zero at after z = take_run_is s es (decided s es) at (after - at) z
takes_noting s es (suc k) at after z = start_element_is s es (decided s es) (suc k) at after z

-- The attribute events of a tag and what is shown of its token are that with attribute events before its start; data has none.
given_shown : (long : ℕ) (s : List ℕ) (es : List Element) (d : List ℕ) (at shown : ℕ) (b : Bool) (v x : ℕ) (given : List Event) → (x ≡ 0 → given ≡ [])
    → (1 ≤ x → (t : Tag) × (start_tag_at long d (at + 1) ≡ got t) × (given ≡ attribute_events 1 s (element_at es (x - 1)).attributes d t.written))
    → given ++ shown_of x b v at shown ≡ with_attributes long s es d (shown_of x b v at shown)
given_shown long s es d at shown b v zero given none some = ap (λ (i : List Event). i ++ due_run at (shown - at)) (none refl) ∙ sym ((plain_run at (shown - at)).plain long s es d)
given_shown long s es d at shown true v (suc k) given none some =
    let (t, there, are) = some (omega arith) in
    ap (λ (i : List Event). i ++ start_written (suc k) at shown v ∷ []) are ∙ sym (with_start_written long s es d (suc k) at shown v there)
given_shown long s es d at shown false v (suc k) given none some =
    let (t, there, are) = some (omega arith) in
    let start = start_written (suc k) at shown v in
    let end = end_of_empty (suc k) shown in
    sym (append_assoc given (start ∷ []) (end ∷ []))
    ∙ ap₂ (λ (i j : List Event). i ++ j) (ap (λ (i : List Event). i ++ start ∷ []) are ∙ sym (with_start_written long s es d (suc k) at shown v there)) (sym ((plain_end_of_empty (suc k) shown).plain long s es d))
    ∙ sym (with_append long s es d (start ∷ []) (end ∷ []))

-- The token comes after the document.
pub refuses_over : (rows places facts M : List ℕ) (x at shown : ℕ) (o : OpenElements) (begun : List ℕ)
    → ((s : List ℕ) (es : List Element) (z : State) → Stands es M begun o z → is_over s es (decided s es) z ≡ true) → RefusesToken rows places facts M x at shown o begun 16
refuses_over rows places facts M x at shown o begun over s es tables z stands most after ends =
    takes_noting s es x at after z ∙ ap (λ q. and_then q (noting es x at after)) (settle_over s es (decided s es) (token_of x) at z (over s es z stands))

-- After the starts, in the state `last`, which has these events, the token takes the place p, and is noted.
record PlacedAs (s : List ℕ) (es : List Element) (M begun : List ℕ) (x at : ℕ) (o : OpenElements) (p : ℕ) (z : State) (events : List Event) : Type 0 where
  some : p ≡ 0 → ⊥
  last : State
  here : Stands es M begun o last
  noted : last.events ≡ events
  can : CanTake es last.current p
  settled : (after : ℕ) → takes s es x at after z ≡ noting es x at after (take_place p last)

module _ {rows places facts M begun : List ℕ} {x at n : ℕ} {o₀ : OpenElements} {numbers₀ bytes₀ : List ℕ} {f : Stop} {numbers bytes : List ℕ} (shown : ℕ) (most₀ : o₀.count ≤ TAGLVL)
    (on : (s : List ℕ) (es : List Element) (z : State) → Stands es M begun o₀ z → is_over s es (decided s es) z ≡ false)
    (h : Stops rows places facts M begun x at n o₀ numbers₀ bytes₀ f numbers bytes) where
  module _ (s : List ℕ) (es : List Element) (tables : Tables s es rows places facts M) (z : State) (stands : Stands es M begun o₀ z) (most : x ≤ length es) where
    abbrev t : Token
    t = token_of x

    come : Comes s es M begun t at f.open h.turns.events z
    come = h.turns.comes s es tables z stands t (token_of_number x) (token_of_declared es x most)

    -- This is the state of the rules that was come to.
    abbrev there : State
    there = come.there

    found : f.found ≡ way_of (fitting s es (decided s es) there.current t) (chained s es (decided s es) t there.current)
    found = found_at h.finds tables come.stands t (token_of_number x) (token_of_declared es x most)

    -- What is settled from there is noted.
    from_there : (after : ℕ) (q : Reading State) → settle_from s es (decided s es) t at there.around there.current there.events ≡ q → takes s es x at after z ≡ and_then q (noting es x at after)
    from_there after q e = takes_noting s es x at after z ∙ ap (λ r. and_then r (noting es x at after)) (settle_on s es (decided s es) t at z (on s es z stands) ∙ sym come.same ∙ e)

    -- So many starts would be too many.
    many : (after k : ℕ) → f.found ≡ Inferred k → TAGLVL < f.open.count + k → takes s es x at after z ≡ refused 15 at
    many after k e l =
        let y = take_token s es (decided s es) t (infer_many s es (decided s es) at k there) in
        from_there after (got y) (found_settled s es (decided s es) t at there (Inferred k) (sym e ∙ found) _ refl)
        ∙ noting_many es at after y x (omega (arith, infer_deeper s es (decided s es) at k there, stands_deep come.stands))

  pub refuses_many : TAGLVL < f.open.count + starts_of f.found → RefusesToken rows places facts M x at shown o₀ begun 15
  refuses_many l s es tables z stands most after ends = by_way f.found refl
    where
      by_way : (w : Way) → f.found ≡ w → takes s es x at after z ≡ refused 15 at
      by_way (Taken p) e = absurd (omega (arith, rw e at l, h.turns.ranged.few))
      by_way (Inferred k) e = many s es tables z stands most after k e (rw e at l)
      by_way Stuck e = absurd (omega (arith, rw e at l, h.turns.ranged.few))

  -- Behind m₀ events the starts are inferred, each behind its attribute events; p is the place of the token by what was found.
  module _ {lists : List ℕ} {starts k m₀ m : ℕ} {o : OpenElements} {numbers_from bytes_from begun₁ numbers₁ bytes₁ : List ℕ} (counted : starts ≡ starts_of f.found) (few : f.open.count + starts ≤ TAGLVL)
      (a : Along rows places facts M lists at m₀ starts k f.open begun numbers_from bytes_from m o begun₁ numbers₁ bytes₁) (all : starts ≤ k)
      (p : ℕ) (place : (s : List ℕ) (es : List Element) → Tables s es rows places facts M → o.element.0 ≤ length es → x ≤ length es → p ≡ place_of ((decided s es).fits o.element.0 [] (token_of x)) f.found) where
    module _ (s : List ℕ) (es : List Element) (tables : Tables s es rows places facts M) (z : State) (stands : Stands es M begun o₀ z) (most : x ≤ length es) where
      abbrev Reaches : Type 0
      Reaches = PlacedAs s es M begun₁ x at o p z ((z.events ++ h.turns.events) ++ a.events)

      abbrev y : State
      y = there s es tables z stands most

      as_placed : (p ≡ 0 → ⊥) → (w : State) → Stands es M begun₁ o w → w.events ≡ y.events ++ a.events → CanTake es w.current p
          → settle_from s es (decided s es) (token_of x) at y.around y.current y.events ≡ got (take_place p w) → Reaches
      as_placed some w here noted can settled =
          record {
            some = some;
            last = w;
            here = here;
            noted = noted ∙ ap (λ (ev : List Event). ev ++ a.events) (come s es tables z stands most).noted;
            can = can;
            settled = λ after. from_there s es tables z stands most after (got (take_place p w)) settled;
          }

      -- So many starts can be inferred as were found, and the token takes its place after them, unless it is stuck.
      reaches_by : (w : Way) → f.found ≡ w → (w ≡ Stuck → ⊥) → Reaches
      reaches_by (Taken v) e free =
          let t = token_of x in
          let is = sym e ∙ found s es tables z stands most in
          let (fits, some) = way_fits v (fitting s es (decided s es) y.current t) (chained s es (decided s es) t y.current) is in
          let none : starts ≡ 0 = counted ∙ ap starts_of e in
          let i = rw none at (along_all rows places facts M lists at m₀ starts a all s es tables y (come s es tables z stands most).stands t (rw none (omega (arith, fits, some)))) in
          let here : p ≡ v.0 = place s es tables i.stands.current.entered.declared most ∙ ap (place_of ((decided s es).fits o.element.0 [] t)) e in
          let fit : p ≡ fitting s es (decided s es) i.there.current t = here ∙ fits ∙ ap (λ (v : State). fitting s es (decided s es) v.current t) (sym i.same) in
          as_placed (λ n. some (sym here ∙ n)) i.there i.stands i.noted (rw fit (can_fit tables i.stands.current.entered t i.infers))
          (found_settled s es (decided s es) t at y (Taken v) is _ refl ∙ ap₂ (λ q (v : State). got (take_place q v)) (sym here) (sym i.same))
      reaches_by (Inferred n) e free =
          let t = token_of x in
          let is = sym e ∙ found s es tables z stands most in
          let n_starts : starts ≡ n = counted ∙ ap starts_of e in
          let i = rw n_starts at (along_all rows places facts M lists at m₀ starts a all s es tables y (come s es tables z stands most).stands t (rw n_starts (way_infers s es (decided s es) t n y.current is))) in
          let nothing : i.there.current.taken ≡ [] = ap (λ (v : State). v.current.taken) i.same ∙ infer_fresh s es (decided s es) at n y (way_some n (fitting s es (decided s es) y.current t) (chained s es (decided s es) t y.current) is) in
          let fit : p ≡ fitting s es (decided s es) i.there.current t =
          place s es tables i.stands.current.entered.declared most ∙ ap (place_of ((decided s es).fits o.element.0 [] t)) e ∙ rw (nothing, i.stands.current.entered.number) refl in
          as_placed (λ v. omega (arith, i.infers, fit)) i.there i.stands i.noted (rw fit (can_fit tables i.stands.current.entered t i.infers))
          (found_settled s es (decided s es) t at y (Inferred n) is _ refl ∙ ap (λ (v : State). got (take_token s es (decided s es) t v)) (sym i.same) ∙ ap (λ q. got (take_place q i.there)) (sym fit))
      reaches_by Stuck e free = absurd (free refl)

      -- Where it is stuck it has no place.
      none_placed : f.found ≡ Stuck → p ≡ 0
      none_placed e =
          let none : starts ≡ 0 = counted ∙ ap starts_of e in
          let declared : o.element.0 ≤ length es = rw (a.still (omega (arith, a.most))) (come s es tables z stands most).stands.current.entered.declared in
          place s es tables declared most ∙ ap (place_of ((decided s es).fits o.element.0 [] (token_of x))) e

      placed_so : (p ≡ 0 → ⊥) → Reaches
      placed_so some = reaches_by f.found refl (λ e. some (none_placed e))

  -- It is refused there.
  pub refuses_placed : {lists : List ℕ} {starts k m₀ m : ℕ} {o : OpenElements} {numbers_from bytes_from begun₁ numbers₁ bytes₁ numbers₂ bytes₂ : List ℕ} → starts ≡ starts_of f.found → f.open.count + starts ≤ TAGLVL
      → Along rows places facts M lists at m₀ starts k f.open begun numbers_from bytes_from m o begun₁ numbers₁ bytes₁ → starts ≤ k
      → {r : Refusal} {begun' numbers' bytes' : List ℕ} → PlacedRefused rows places facts M begun₁ f.found x at shown o numbers₂ bytes₂ r begun' numbers' bytes' → RefusesToken rows places facts M x at shown o₀ begun (number_of r)
  refuses_placed counted few a all {r} placed s es tables z stands most after ends = by_way f.found refl
    where
      by_place : (w : Way) → f.found ≡ w → (w ≡ Stuck → ⊥) → takes s es x at after z ≡ refused (number_of r) at
      by_place w e free =
          let i = reaches_by counted few a all placed.p placed.place s es tables z stands most w e free in
          i.settled after ∙ placed.notes i.some s es tables i.last i.here i.can most after ends

      by_way : (w : Way) → f.found ≡ w → takes s es x at after z ≡ refused (number_of r) at
      by_way (Taken v) e = by_place (Taken v) e (λ i. absurd (let z : ◌≡◌ {A = ℕ} 0 1 = cc in omega arith))
      by_way (Inferred n) e = by_place (Inferred n) e (λ i. absurd (let z : ◌≡◌ {A = ℕ} 0 1 = cc in omega arith))
      by_way Stuck e =
          let y = there s es tables z stands most in
          from_there s es tables z stands most after (refused 12 at)
          (found_refused s es (decided s es) (token_of x) at y f.found (found s es tables z stands most) e
          (sym (h.stays e s es tables.raised tables.facts_say M begun y (come s es tables z stands most).stands)))
          ∙ ap (λ (n : ℕ). refused n at) (sym (placed.stuck (none_placed counted few a all placed.p placed.place s es tables z stands most e)))

  -- The events of a tag's attributes are put, the token takes its place, and an element with a model is opened.
  module _ {lists marks : List ℕ} {starts k m₀ m : ℕ} {o : OpenElements} {numbers_from bytes_from begun₁ numbers₁ bytes₁ : List ℕ} (counted : starts ≡ starts_of f.found) (few : f.open.count + starts ≤ TAGLVL)
      (a : Along rows places facts M lists at m₀ starts k f.open begun numbers_from bytes_from m o begun₁ numbers₁ bytes₁) (all : starts ≤ k)
      {m₁ : ℕ} {numbers₂ bytes₂ : List ℕ} (given : PutsWritten lists marks x m numbers₁ bytes₁ m₁ numbers₂ bytes₂)
      {r : Outcome} {q : OpenElements} {begun' numbers' bytes' : List ℕ} (opened : Places rows places facts M begun₁ f.found x at shown m₁ o numbers₂ bytes₂ r q begun' numbers' bytes') where
    abbrev placed : PlacedGot rows places facts M begun₁ f.found x at shown m₁ o numbers₂ bytes₂ r begun' numbers' bytes'
    placed = opened.placed

    -- The events of the token, up to `after`, and what is shown of them.
    abbrev own : (after : ℕ) → List Event
    own after = written_of x placed.opens placed.taken at after

    abbrev own_shown : List Event
    own_shown = shown_of x placed.opens placed.taken at shown

    module _ (s : List ℕ) (es : List Element) (tables : Tables s es rows places facts M) (z : State) (stands : Stands es M begun o₀ z) (most : x ≤ length es) where
      made : (after : ℕ) → (1 ≤ x → after ≡ shown) → Got (StandsWith es M begun' q (((z.events ++ h.turns.events) ++ a.events) ++ own after)) (takes s es x at after z)
      made after ends =
          let i = placed_so counted few a all placed.p placed.place s es tables z stands most placed.some in
          let (v, e, came) = opened.notes s es tables i.last i.here i.can most after ends in
          (v, i.settled after ∙ e, (came.0, came.1 ∙ ap (λ (ev : List Event). ev ++ own after) i.noted))

      -- So many starts can be inferred as were found.
      infers_all : (w : Way) → f.found ≡ w → Infers s es (decided s es) (token_of x) starts (there s es tables z stands most).current
      infers_all (Taken v) e =
          let t = token_of x in
          let y = there s es tables z stands most in
          let (fits, some) = way_fits v (fitting s es (decided s es) y.current t) (chained s es (decided s es) t y.current) (sym e ∙ found s es tables z stands most) in
          let none : starts ≡ 0 = counted ∙ ap starts_of e in
          rw none (omega (arith, fits, some))
      infers_all (Inferred n) e =
          let y = there s es tables z stands most in
          let n_starts : starts ≡ n = counted ∙ ap starts_of e in
          rw n_starts (way_infers s es (decided s es) (token_of x) n y.current (sym e ∙ found s es tables z stands most))
      infers_all Stuck e = absurd (placed.some (none_placed counted few a all placed.p placed.place s es tables z stands most e))

      -- What is put are the events of the starts and what is shown of the token's own, with the attribute events before each start.
      put_with : (long : ℕ) (d : List ℕ) → Lists long s es lists → (1 ≤ x → Gives long s es d x at marks) → (a.written ++ given.events) ++ placed.events ≡ with_attributes long s es d (a.events ++ own_shown)
      put_with long d lists gives =
          let y = there s es tables z stands most in
          let before = a.adds s es tables y (come s es tables z stands most).stands (token_of x) (infers_all f.found refl) long d lists in
          let last = ap (λ (i : List Event). given.events ++ i) placed.written
          ∙ given_shown long s es d at shown placed.opens placed.taken x given.events given.few.nothing (λ l. let g = gives l in (g.tag, g.there, given.are long s d _ g.tag.written l (lists (x - 1) (omega arith)) g.marked)) in
          append_assoc a.written given.events placed.events ∙ ap₂ (λ (i j : List Event). i ++ j) before last ∙ sym (with_append long s es d a.events own_shown)

    pub settles_placed : Settles rows places facts M lists marks x at shown o₀ begun h.turns.events m₀ numbers_from bytes_from (record { «open» = q; events = r.events }) begun' numbers' bytes'
    settles_placed =
        let second : m₁ ≡ m₀ + length (a.written ++ given.events) = simp length-append (omega (arith, a.counted, given.few.counted)) in
        record {
          ranged = opened.ranged;
          whole = placed.whole ∙ a.whole;
          ended = h.turns.are;
          starts = a.events;
          started = a.are;
          opens = placed.opens;
          taken = placed.taken;
          written = (a.written ++ given.events) ++ placed.events;
          puts = puts_then (puts_then a.puts a.counted given.few.puts) second placed.puts;
          counted = placed.counted ∙ simp length-append (omega (arith, a.counted, given.few.counted));
          few = simp length-append (omega (arith, a.few, a.most, given.few.few, placed.few));
          settles = made;
          adds = put_with;
        }
