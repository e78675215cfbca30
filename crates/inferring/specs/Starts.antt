-- Starts that are inferred one in the other.
use Rattle.std.specs.Prelude.{ℕ, zero, suc, ◌+◌, ◌-◌, ◌*◌, ◌≤◌, ◌<◌, ◌≡◌, length}
use Rattle.std.proofs.Math.Path.{refl, ap}
use Rattle.std.proofs.Common.{sym, ◌∙◌, ap₂, subst, arith, length-append, le-leb, leb-true}
use mathlib.Core.List.{List, [], ◌∷◌, ◌++◌, append_assoc, append-nil}
use Rattle.rules.specs.Bytes.{ATTCNT, TAGLVL}
use Rattle.rules.specs.TypeFile.{Element}
use Rattle.rules.specs.Elements.{element_at}
use Rattle.rules.specs.Given.{attribute_events, with_attributes}
use Rattle.rules.specs.Decisions.{Token, Decisions}
use Rattle.rules.specs.Events.{Event, start_inferred}
use Rattle.rules.specs.Settling.{State, take_place, shown, place_taken, enter, note, fitting, required_place, inferable, infer_starts}
use Rattle.rules.specs.Settling as rules
use Rattle.rules_laws.specs.BeforeStarts.{with_append, with_start_inferred, plain_none}
use Rattle.document_laws.specs.Decide.{decided}
use Rattle.document_laws.specs.Chain.{Leads, inferable_may}
use Rattle.document_laws.specs.Moves.{fresh, place_taken_took}
use Rattle.type_tables.specs.Tables.{Tables, CanTake}
use Rattle.open_elements.specs.declared.OpenElements.{OpenElements}
use Rattle.open_elements.specs.Stands.{Ranged, Stands}
use Rattle.open_elements.specs.Taken.{can_require}
use Rattle.open_elements.specs.Methods.{stands_required, stands_noted, stands_opening, ranged_taking, ranged_opening}
use Rattle.event_buffer.specs.Buffers.{Puts}
use Rattle.event_buffer.specs.EventByEvent.{puts_none, puts_then}
use Rattle.list_table.specs.Lists.{Lists}
use Rattle.attribute_events.specs.PutBefore.{PutsDefaults}
use Rattle.inferring.specs.Inferring.{StartsAt, no_start, one_start, infer_one, infer_many, Infers, InfersOn, Chooses, InfersStart}

-- These hold by whatever decisions.
module _ (s : List ℕ) (es : List Element) (D : Decisions) where
  -- The start of k is inferred at the place p.
  abbrev starting : (at p k : ℕ) → State → State
  starting at p k z =
      let y = take_place p z in
      note (start_inferred k at (place_taken y.current)) (enter k y)

  -- The starts of a chain are those that are inferred one in the other.
  pub chain_infers : (t : Token) (ks : List ℕ) (o : rules.Open) → Leads s es D t o ks → Infers s es D t (length ks) o
  chain_infers t [] o h = leb-true 1 (fitting s es D o t) h
  chain_infers t (k ∷ ks) o (e, i, h) = rw e (leb-true 1 k i, chain_infers t ks (fresh k) h)

  pub chain_starts : (t : Token) (at : ℕ) (ks : List ℕ) (z : State) → Leads s es D t z.current ks → infer_starts s es D at ks z ≡ infer_many s es D at (length ks) z
  unfolding infer_starts
  chain_starts t at [] z h = refl
  chain_starts t at (k ∷ ks) z (e, i, h) =
      let p = required_place s es D z.current in
      chain_starts t at ks (starting at p k z) h ∙ ap (λ j. infer_many s es D at (length ks) (starting at p j z)) (sym e)

  pub infer_deeper : (at n : ℕ) (z : State) → length (infer_many s es D at n z).around ≡ length z.around + n
  infer_deeper at zero z = omega arith
  infer_deeper at (suc n) z = infer_deeper at n (infer_one s es D at z) ∙ omega arith

  -- In the last that was started nothing was taken.
  pub infer_fresh : (at n : ℕ) (z : State) → 1 ≤ n → (infer_many s es D at n z).current.taken ≡ []
  infer_fresh at zero z l = absurd (omega arith)
  infer_fresh at (suc zero) z l = refl
  infer_fresh at (suc (suc n)) z l = infer_fresh at (suc n) (infer_one s es D at z) (omega arith)

-- One start

module _ {rows places facts M before : List ℕ} {at n : ℕ} {o : OpenElements} {numbers bytes : List ℕ} {r : OpenElements} {after numbers' bytes' : List ℕ}
    (i : InfersStart rows places facts M before at n o numbers bytes r after numbers' bytes') (less : o.count < TAGLVL) where
  -- Its event has the place that it took.
  abbrev started : Event
  started = start_inferred i.k at (shown o.element.0 o.required.0)

  start_ranged : Ranged o → Ranged r
  start_ranged h =
      let t = i.starting.taking in
      rw i.starting.opens (ranged_opening rows i.k (ranged_taking t h h.required) (omega (arith, t.count)) i.few)

  start_deep : r.count ≡ o.count + 1
  start_deep = ap (λ (u : OpenElements). u.count) i.starting.opens ∙ omega (arith, i.starting.taking.count)

  module _ {s : List ℕ} {es : List Element} (tables : Tables s es rows places facts M) {z : State} (stands : Stands es M before o z) (some : 1 ≤ inferable s es (decided s es) z.current) where
    abbrev D : Decisions
    D = decided s es

    -- By the tables of a type the place is the required one, and the element that which is to be inferred.
    start_same : starting s es D at o.required.0 i.k z ≡ infer_one s es D at z
    start_same = ap₂ (λ p k. starting s es D at p k z) (stands_required stands s) (i.chosen s es tables z stands)

    -- The state of the rules in which the start was inferred.
    pub start_stands : Stands es M after r (infer_one s es D at z)
    start_stands =
        let may = inferable_may s es D z.current (le-leb 1 _ some) in
        let can : CanTake es z.current o.required.0 = rw (stands_required stands s) (can_require tables stands.current.entered may.place) in
        let t = i.starting.taking in
        let chosen = i.chosen s es tables z stands in
        let opened = stands_opening (t.stands s es places facts tables z stands can) tables i.k (omega (arith, t.count)) (omega (arith, chosen)) (omega (arith, chosen, may.declared)) in
        subst (λ (y : State). Stands es M after r y) start_same (rw i.starting.opens (stands_noted opened _))

    pub start_noted_lem : (infer_one s es D at z).events ≡ z.events ++ started ∷ []
    start_noted_lem =
        ap (λ (y : State). y.events) (sym start_same)
        ∙ ap (λ p. z.events ++ start_inferred i.k at p ∷ []) (place_taken_took z.current o.required.0 ∙ ap (λ k. shown k o.required.0) stands.current.entered.number)

-- Many starts

-- The first k of the starts are inferred, and what is left to infer comes to the same as all of them from the first state. What is put are their events, with the
-- attribute events before each: at most ATTCNT + 1 for a start.
pub record Along (rows places facts M lists : List ℕ) (at m₀ starts k : ℕ) (o₀ : OpenElements) (begun₀ numbers₀ bytes₀ : List ℕ) (m : ℕ) (o : OpenElements) (begun numbers bytes : List ℕ) : Type 0 where
  pub most : k ≤ starts
  pub events : List Event
  pub are : StartsAt at events
  pub written : List Event
  pub puts : Puts numbers₀ bytes₀ m₀ written numbers bytes
  pub counted : m ≡ m₀ + length written
  pub few : length written ≤ (ATTCNT + 1) * k
  pub deep : o.count ≡ o₀.count + k
  pub whole : length begun ≡ length begun₀
  pub ranged : Ranged o
  pub still : k ≡ 0 → o ≡ o₀
  pub along : (s : List ℕ) (es : List Element) → Tables s es rows places facts M → (z : State) → Stands es M begun₀ o₀ z → (t : Token) → Infers s es (decided s es) t starts z.current
      → InfersOn s es M begun t at (starts - k) o events starts z
  pub adds : (s : List ℕ) (es : List Element) → Tables s es rows places facts M → (z : State) → Stands es M begun₀ o₀ z → (t : Token) → Infers s es (decided s es) t starts z.current
      → (long : ℕ) (d : List ℕ) → Lists long s es lists → written ≡ with_attributes long s es d events

module _ (rows places facts M lists : List ℕ) (at m₀ starts : ℕ) where
  pub along_start : (o : OpenElements) (begun numbers bytes : List ℕ) → Ranged o → Along rows places facts M lists at m₀ starts 0 o begun numbers bytes m₀ o begun numbers bytes
  along_start o begun numbers bytes h =
      let left : starts - 0 ≡ starts = omega arith in
      record {
        most = omega arith;
        events = [];
        are = no_start;
        written = [];
        puts = puts_none numbers bytes m₀;
        counted = omega arith;
        few = omega arith;
        deep = omega arith;
        whole = refl;
        ranged = h;
        still = λ e. refl;
        along = λ s es tables z stands t infers. rw left record { there = z; stands = stands; infers = infers; noted = rw append-nil; same = refl };
        adds = λ s es tables z stands t infers long d lists. sym (plain_none.plain long s es d);
      }

  module _ {k : ℕ} {o₀ : OpenElements} {begun₀ numbers₀ bytes₀ : List ℕ} {m : ℕ} {o : OpenElements} {begun numbers bytes : List ℕ} (h : Along rows places facts M lists at m₀ starts k o₀ begun₀ numbers₀ bytes₀ m o begun numbers bytes) where
    -- A turn of the loop: one start more is inferred, behind the events of the attributes of its element.
    module _ (l : k < starts) (less : o.count < TAGLVL) {e : ℕ} (chooses : Chooses places facts o e) {m₁ : ℕ} {numbers₁ bytes₁ : List ℕ} (before : PutsDefaults lists e m numbers bytes m₁ numbers₁ bytes₁)
        {r : OpenElements} {begun' numbers' bytes' : List ℕ} (i : InfersStart rows places facts M begun at m₁ o numbers₁ bytes₁ r begun' numbers' bytes') where
      left : starts - k ≡ suc (starts - (k + 1))
      left = omega arith

      -- This is left to infer before the turn.
      here : (s : List ℕ) (es : List Element) → Tables s es rows places facts M → (z : State) → Stands es M begun₀ o₀ z → (t : Token) → Infers s es (decided s es) t starts z.current
          → InfersOn s es M begun t at (suc (starts - (k + 1))) o h.events starts z
      here s es tables z stands t infers = rw left at (h.along s es tables z stands t infers)

      -- By the tables of a type the events of the attributes are those of the element that starts.
      same_element : (s : List ℕ) (es : List Element) → Tables s es rows places facts M → (y : State) → Stands es M begun o y → e ≡ i.k
      same_element s es tables y stands = chooses s es rows M begun tables y stands ∙ sym (i.chosen s es tables y stands)

      defaults : (s : List ℕ) (es : List Element) → Tables s es rows places facts M → (y : State) → Stands es M begun o y → 1 ≤ inferable s es (decided s es) y.current
          → (long : ℕ) (d : List ℕ) → Lists long s es lists → before.events ++ started i less ∷ [] ≡ with_attributes long s es d (started i less ∷ [])
      defaults s es tables y stands some long d l =
          let same = same_element s es tables y stands in
          let chosen = i.chosen s es tables y stands in
          let may = inferable_may s es (decided s es) y.current (le-leb 1 _ some) in
          let are = before.are long s d (element_at es (e - 1)).attributes (omega (arith, same, chosen)) (l (e - 1) (omega (arith, same, chosen, may.declared))) in
          ap (λ (ev : List Event). ev ++ started i less ∷ []) (are ∙ ap (λ (j : ℕ). attribute_events 1 s (element_at es (j - 1)).attributes d []) same)
          ∙ sym (with_start_inferred long s es d i.k at (shown o.element.0 o.required.0))

      pub along_next : Along rows places facts M lists at m₀ starts (k + 1) o₀ begun₀ numbers₀ bytes₀ (m₁ + 1) r begun' numbers' bytes'
      along_next =
          let put = puts_then before.few.puts before.few.counted i.puts in
          record {
            most = omega arith;
            events = h.events ++ started i less ∷ [];
            are = one_start i.k (shown o.element.0 o.required.0) h.are;
            written = h.written ++ (before.events ++ started i less ∷ []);
            puts = puts_then h.puts h.counted put;
            counted = simp length-append (omega (arith, h.counted, before.few.counted));
            few = simp length-append (omega (arith, h.few, before.few.few));
            deep = omega (arith, h.deep, start_deep i less);
            whole = i.starting.taking.whole ∙ h.whole;
            ranged = start_ranged i less h.ranged;
            still = λ e. absurd (omega arith);
            along = λ s es tables z stands t infers.
                let b = here s es tables z stands t infers in
                let some = b.infers.0 in
                record {
                  there = infer_one s es (decided s es) at b.there;
                  stands = start_stands i less tables b.stands some;
                  infers = b.infers.1;
                  noted = start_noted_lem i less tables b.stands some ∙ ap (λ (ev : List Event). ev ++ started i less ∷ []) b.noted ∙ append_assoc z.events h.events (started i less ∷ []);
                  same = b.same;
                };
            adds = λ s es tables z stands t infers long d lists.
                let b = here s es tables z stands t infers in
                ap₂ (λ (u v : List Event). u ++ v) (h.adds s es tables z stands t infers long d lists) (defaults s es tables b.there b.stands b.infers.0 long d lists)
                ∙ sym (with_append long s es d h.events (started i less ∷ []));
          }

    pub along_all : starts ≤ k → (s : List ℕ) (es : List Element) → Tables s es rows places facts M → (z : State) → Stands es M begun₀ o₀ z → (t : Token) → Infers s es (decided s es) t starts z.current
        → InfersOn s es M begun t at 0 o h.events starts z
    along_all l s es tables z stands t infers = let none : starts - k ≡ 0 = omega arith in rw none at (h.along s es tables z stands t infers)
