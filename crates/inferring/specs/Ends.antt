-- The loop of step 3, for every type whose tables these are: ends are inferred until the token fits or is stuck.
use Rattle.std.specs.Prelude.{ℕ, ◌+◌, ◌≤◌, refl, Bool, true, false}
use Rattle.std.proofs.Math.Path.{◌≡◌}
use Rattle.std.proofs.Common.{sym, ◌∙◌, ap, subst, arith, length-append}
use mathlib.Core.List.{List, [], ◌∷◌, ◌++◌, append_assoc, append-nil}
use Rattle.rules.specs.Reading.{refused, got}
use Rattle.rules.specs.TypeFile.{Element}
use Rattle.rules.specs.Decisions.{Token, Decisions}
use Rattle.rules.specs.Events.{Event, end_inferred}
use Rattle.rules.specs.Settling.{State, settled, stuck, inward, settle_from, fitting}
use Rattle.rules.specs.Settling as rules
use Rattle.rules_laws.specs.BeforeStarts.{plain_none, plain_then, plain_end_inferred}
use Rattle.document_laws.specs.Decide.{decided}
use Rattle.document_laws.specs.Moves.{state}
use Rattle.type_tables.specs.Tables.{name_number, Declares, Tables}
use Rattle.open_elements.specs.declared.OpenElements.{OpenElements}
use Rattle.open_elements.specs.Stands.{ended, Ranged, Stands}
use Rattle.open_elements.specs.Methods.{stands_required, stands_around, ranged_ended}
use Rattle.event_buffer.specs.Buffers.{Puts}
use Rattle.event_buffer.specs.EventByEvent.{puts_none, puts_then}
use Rattle.ways.specs.declared.Way.{Way}
use Rattle.ways.specs.declared.Way.TheVariants.{Stuck}
use Rattle.ways.specs.Asks.{way_of, chained, may_end, MayEnd}
use Rattle.inferring.specs.Inferring.{none, more, no_end, one_end, Comes, Turns, Finds}
use Rattle.inferring.specs.Inward.{inward_as, inward_way}

-- Steps 3 and 4, by whatever decisions

module _ (s : List ℕ) (es : List Element) (D : Decisions) (t : Token) (at : ℕ) where
  settle_inward : (us : List rules.Open) (o : rules.Open) (ev : List Event) (y : State) → inward s es D t at (state o us ev) ≡ settled y → settle_from s es D t at us o ev ≡ got y
  unfolding settle_from
  settle_inward [] o ev y e = rw (e, settle_from)
  settle_inward (u ∷ us) o ev y e = rw (e, settle_from)

  settle_stuck : (us : List rules.Open) (o : rules.Open) (ev : List Event) → inward s es D t at (state o us ev) ≡ stuck → may_end s es D o us ≡ false → settle_from s es D t at us o ev ≡ refused 12 at
  unfolding settle_from
  settle_stuck [] o ev e h = rw (e, settle_from)
  settle_stuck (u ∷ us) o ev e h = rw (e, settle_from, h)

  settle_end : (u : rules.Open) (us ws : List rules.Open) → ws ≡ u ∷ us → (o : rules.Open) (ev : List Event) → inward s es D t at (state o ws ev) ≡ stuck → may_end s es D o ws ≡ true
      → settle_from s es D t at ws o ev ≡ settle_from s es D t at us u (ev ++ end_inferred o.element at ∷ [])
  unfolding settle_from
  settle_end u us [] q o ev e h = absurd (let z : ◌≡◌ {A = ℕ} 0 1 = cc in omega arith)
  settle_end u us (w ∷ ws) q o ev e h =
      let i : w ≡ u = cc in
      let j : ws ≡ us = cc in
      rw (e, settle_from, h, i, j)

  -- By what is found of the current element.
  module _ (z : State) (w : Way) (finds : w ≡ way_of (fitting s es D z.current t) (chained s es D t z.current)) where
    found_inward : inward s es D t at z ≡ inward_as s es D t at w z
    found_inward = inward_way s es D t at z ∙ ap (λ x. inward_as s es D t at x z) (sym finds)

    pub found_settled : (y : State) → inward_as s es D t at w z ≡ settled y → settle_from s es D t at z.around z.current z.events ≡ got y
    found_settled y e = settle_inward z.around z.current z.events y (found_inward ∙ e)

    pub found_refused : w ≡ Stuck → may_end s es D z.current z.around ≡ false → settle_from s es D t at z.around z.current z.events ≡ refused 12 at
    found_refused e h = settle_stuck z.around z.current z.events (found_inward ∙ ap (λ x. inward_as s es D t at x z) e) h

    found_ends : w ≡ Stuck → may_end s es D z.current z.around ≡ true → (u : rules.Open) (us : List rules.Open) → z.around ≡ u ∷ us
        → settle_from s es D t at us u (z.events ++ end_inferred z.current.element at ∷ []) ≡ settle_from s es D t at z.around z.current z.events
    found_ends e h u us are = sym (settle_end u us z.around are z.current z.events (found_inward ∙ ap (λ x. inward_as s es D t at x z) e) h)

-- What is found of the current element is found of the rules' one.
pub found_at : {rows places facts M begun : List ℕ} {x : ℕ} {o : OpenElements} {w : Way} → Finds rows places facts M begun x o w → {s : List ℕ} {es : List Element} → Tables s es rows places facts M
    → {z : State} → Stands es M begun o z → (t : Token) → name_number t ≡ x → Declares es t → w ≡ way_of (fitting s es (decided s es) z.current t) (chained s es (decided s es) t z.current)
found_at finds {s} {es} tables {z} stands t i d = finds s es tables z.current stands.current.entered (stands_required stands s) t i d

-- An end is inferred.
comes_end : {s : List ℕ} {es : List Element} {M begun : List ℕ} {t : Token} {at : ℕ} {o : OpenElements} {events : List Event} {z₀ : State} → (h : Comes s es M begun t at o events z₀)
    → (w : Way) → w ≡ way_of (fitting s es (decided s es) h.there.current t) (chained s es (decided s es) t h.there.current) → w ≡ Stuck → may_end s es (decided s es) h.there.current h.there.around ≡ true → 1 ≤ o.count
    → Comes s es M begun t at (ended o) (events ++ end_inferred o.element.0 at ∷ []) z₀
comes_end {s} {es} {M} {begun} {t} {at} {o} {events} {z₀} h w finds e ends some =
    let z = h.there in
    let a = stands_around h.stands some in
    let event = end_inferred o.element.0 at in
    let noted : z.events ++ end_inferred z.current.element at ∷ [] ≡ z₀.events ++ (events ++ event ∷ []) =
    ap (λ (k : ℕ). z.events ++ end_inferred k at ∷ []) h.stands.current.entered.number ∙ ap (λ (ev : List Event). ev ++ event ∷ []) h.noted ∙ append_assoc z₀.events events (event ∷ []) in
    record {
      there = state a.parent a.others (z.events ++ end_inferred z.current.element at ∷ []);
      stands = a.stands _;
      ends = more h.ends a.are ends;
      noted = noted;
      same = found_ends s es (decided s es) t at z w finds e ends a.parent a.others a.are ∙ h.same;
    }

-- The loop

module _ (rows places facts M begun : List ℕ) (x at n : ℕ) where
  pub turns_start : (o : OpenElements) (numbers bytes : List ℕ) → Ranged o → Turns rows places facts M begun x at n o numbers bytes o n numbers bytes
  turns_start o numbers bytes h =
      record {
        events = [];
        are = no_end;
        puts = puts_none numbers bytes n;
        counted = omega arith;
        plain = plain_none;
        deep = omega arith;
        ranged = h;
        comes = λ s es tables z stands t i d. record { there = z; stands = stands; ends = none; noted = rw append-nil; same = refl };
      }

  -- A turn: the end of the current element is inferred, and noted.
  pub turns_end : {o₀ : OpenElements} {numbers₀ bytes₀ : List ℕ} {o : OpenElements} {m : ℕ} {numbers bytes : List ℕ} → Turns rows places facts M begun x at n o₀ numbers₀ bytes₀ o m numbers bytes
      → (w : Way) → Finds rows places facts M begun x o w → w ≡ Stuck → (b : Bool) → MayEnd facts o b → b ≡ true → 1 ≤ o.count
      → {numbers' bytes' : List ℕ} → Puts numbers bytes m (end_inferred o.element.0 at ∷ []) numbers' bytes' → {r : OpenElements} → r ≡ ended o → {q : ℕ} → q ≡ m + 1
      → Turns rows places facts M begun x at n o₀ numbers₀ bytes₀ r q numbers' bytes'
  turns_end {o₀} {numbers₀} {bytes₀} {o} {m} h w finds e b ends may some {numbers'} {bytes'} puts i {q} counted =
      subst (λ (u : OpenElements). Turns rows places facts M begun x at n o₀ numbers₀ bytes₀ u q numbers' bytes') (sym i)
      record {
        events = h.events ++ end_inferred o.element.0 at ∷ [];
        are = one_end o.element.0 h.are;
        puts = puts_then h.puts h.counted puts;
        counted = simp length-append (omega (arith, h.counted));
        plain = plain_then h.plain (plain_end_inferred o.element.0 at);
        deep = simp length-append (omega (arith, h.deep));
        ranged = ranged_ended h.ranged some;
        comes = λ s es tables z stands t j d.
            let y = h.comes s es tables z stands t j d in
            comes_end y w (found_at finds tables y.stands t j d) e (sym (ends s es tables.raised tables.facts_say M begun y.there y.stands) ∙ may) some;
      }
