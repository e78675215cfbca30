-- From moment to moment: after each act the program's open elements stand for the rules' state again, and their marks are right.
use Rattle.std.specs.Prelude.{ℕ, ◌≤◌, ◌<◌, ◌≡◌, refl, true, List, ◌∷◌, length}
use Rattle.std.proofs.Common.{sym, ◌∙◌, ap, subst, arith, le-leb}
use Rattle.rules.specs.TypeFile.{Element}
use Rattle.rules.specs.Elements.{content_of, has_model}
use Rattle.rules.specs.Decisions.{start, pcdata, Decisions, Means}
use Rattle.rules.specs.Events.{Event}
use Rattle.rules.specs.Settling.{State, nothing_open, take_place, enter, is_complete, required_place}
use Rattle.rules.specs.Settling as rules
use Rattle.rules.specs.Acts.{Declared, Act, starts, empties, infers, data_byte_lem, infers_end, ends, Acts, Few}
use Rattle.rules.specs.Acts as act
use Rattle.rules.specs.Settings.{Settings}
use Rattle.rules.specs.Judge.{Accepts}
use Rattle.rules.specs.Bytes.{GRPGTCNT, TAGLVL}
use Rattle.document_laws.specs.Decide.{decided}
use Rattle.document_laws.specs.OneReading.{accepted_decided}
use Rattle.document_laws.specs.Chain.{inferable_may}
use Rattle.document_laws.specs.Moves.{state, Answers, Chosen, fits, required}
use Rattle.document_laws.specs.Same.{AllBegun, begun_moves, nothing_begun}
use Rattle.type_tables.specs.Tables.{Tables, CanTake}
use Rattle.open_elements.specs.declared.OpenElements.{OpenElements}
use Rattle.open_elements.specs.Stands.{fresh, opening, ended, Ranged, Stands, Taking, Starting}
use Rattle.type_tables.specs.Marks.{can_range}
use Rattle.open_elements.specs.Methods.{stands_deep, stands_required, stands_fresh, stands_noted, stands_opening, stands_ended, stands_around, ranged_fresh, ranged_taking, ranged_opening, ranged_ended}
use Rattle.open_elements.specs.Marks.{marks_say}
use Rattle.left_out_ends.specs.Loop.{stands_complete}
use Rattle.acts.specs.Sequences.{acts_first, ended_begun}
use Rattle.moments.specs.Moment.{Moment, Does, Asks, Along, Beside}

module _ {c : Settings} (s : List ℕ) (es : List Element) (accepted : Accepts c s es) {M bits : List ℕ} where
  -- What has been shown of the two states makes a moment.
  pub moment : {z : State} {o : OpenElements} → Ranged o → Stands es M bits o z → AllBegun es z → Moment es M bits z o
  moment r h b = record { many = sym (stands_deep h); ranged = r; stands = h; begun = b; marks = marks_say s es accepted h }

  -- Nothing is open yet, whatever the bits are.
  pub moment_first : Moment es M bits nothing_open fresh
  moment_first = moment ranged_fresh (stands_fresh es M bits) (nothing_begun es)

  module _ {z : State} {o : OpenElements} (m : Moment es M bits z o) where
    -- Whatever events are noted, what is open stays.
    pub moment_noted : (ev : List Event) → Moment es M bits (state z.current z.around ev) o
    moment_noted ev = moment m.ranged (stands_noted m.stands ev) (record { current = m.begun.current; around = m.begun.around })

    -- Where any are open, the current element has a parent in the rules too.
    pub moment_parent : 1 ≤ o.count → (u : rules.Open) × (us : List rules.Open) × (z.around ≡ u ∷ us)
    moment_parent some = let a = stands_around m.stands some in (a.parent, a.others, a.are)

    -- The current element has ended.
    pub moment_ended : (u : rules.Open) (us : List rules.Open) (ev : List Event) → z.around ≡ u ∷ us → Moment es M bits (state u us ev) (ended o)
    moment_ended u us ev e =
        let some : 1 ≤ o.count = omega (arith, m.many, ap (λ (l : List rules.Open). length l) e) in
        moment (ranged_ended m.ranged some) (stands_ended m.stands u us e ev) (ended_begun u us ev e m.begun)

    module _ (D : Decisions) (means : Means s es D) where
      answers : Answers s es D (decided s es) z.current z.current
      answers = (begun_moves s es D (decided s es) means (accepted_decided s es accepted)).ends.alike (refl, m.begun)

      -- Whether the content is complete, and the required place, are what is kept.
      pub complete_kept : is_complete s es D z.current ≡ o.complete
      complete_kept = answers.complete ∙ stands_complete m.stands s

      pub required_kept : required_place s es D z.current ≡ o.required.0
      required_kept = answers.required ∙ sym (stands_required m.stands s)

      -- The place as which a token fits can be taken, and the required one.
      pub can_take : {p : ℕ} → Chosen s es D z.current p → CanTake es z.current p
      can_take (fits t l) =
          let b = m.begun.current in
          record { group = b.group; places = b.places; tokens = b.tokens; content = b.has; next = (((means.walks z.current.element b.has z.current.taken b.begins).fits t).some l).next }
      can_take (required l) =
          let b = m.begun.current in
          record { group = b.group; places = b.places; tokens = b.tokens; content = b.has; next = ((means.walks z.current.element b.has z.current.taken b.begins).required.some l).next }

module _ {s : List ℕ} {es : List Element} {rows places facts M : List ℕ} (tables : Tables s es rows places facts M) where
  -- An element that has a model is opened in the current one.
  pub moment_entered : {bits : List ℕ} {z : State} {o : OpenElements} → Moment es M bits z o → (k : ℕ) → Declared es k → has_model (content_of es k) ≡ true → o.count < TAGLVL → Moment es M bits (enter k z) (opening rows k o)
  moment_entered m k d h less =
      let means = accepted_decided s es tables.accepted in
      moment s es tables.accepted (ranged_opening rows k m.ranged less (omega (arith, d.1, tables.few))) (stands_opening m.stands tables k less d.0 d.1)
      ((begun_moves s es (decided s es) (decided s es) means means).enter (refl, m.begun) k h).1

  module _ (D : Decisions) (means : Means s es D) where
    -- The place is taken as which a token fits, or the one that is required.
    module _ {bits : List ℕ} {z : State} {o : OpenElements} (m : Moment es M bits z o) {p : ℕ} (c : Chosen s es D z.current p) where
      can : CanTake es z.current p
      can = can_take s es tables.accepted m D means c

      pub place_small : p ≤ GRPGTCNT
      place_small = (can_range tables m.stands.current.entered can).1

      pub moment_took : {r : OpenElements} {bits' : List ℕ} → Taking rows M bits p o r bits' → Moment es M bits' (take_place p z) r
      moment_took t =
          moment s es tables.accepted (ranged_taking t m.ranged place_small) (t.stands s es places facts tables z m.stands can)
          ((begun_moves s es D D means means).taking (refl, m.begun) p c).1

    -- The required place is taken, and the element that is named there opened.
    pub moment_started : {bits bits' : List ℕ} {z : State} {o q : OpenElements} → Moment es M bits z o → (k : ℕ) → rules.inferable s es D z.current ≡ k → 1 ≤ k → o.count < TAGLVL → Starting rows M bits k o q bits'
        → Moment es M bits' (enter k (take_place (required_place s es D z.current) z)) q
    moment_started {bits} {bits'} {z} {o} m k e l less h =
        let i = inferable_may s es D z.current (rw e (le-leb 1 k l)) in
        let t = subst (λ (p : ℕ). Taking rows M bits p o h.taken bits') (sym (required_kept s es tables.accepted m D means)) h.taking in
        rw h.opens (moment_entered (moment_took m (required i.place) t) k (l, rw e at i.declared) (rw e at i.model) (omega (arith, t.count)))

    -- After an act in the rules, and whatever the methods make of it, there is a moment again.
    pub moment_act : {z y : State} {o q : OpenElements} {bits bits' : List ℕ} → Moment es M bits z o → (a : Act s es D z y) → Few y → Does s es D rows M a o bits q bits' → Moment es M bits' y q
    moment_act m (starts k at after d f h) few (r, t, e) =
        rw e (moment_noted s es tables.accepted (moment_entered (moment_took m (fits (start k) f) t) k d h (omega (arith, m.many, t.count))) _)
    moment_act m (empties k at after d f h l) few t = moment_noted s es tables.accepted (moment_took m (fits (start k) f) t) _
    moment_act m (infers k at e l) few t = moment_noted s es tables.accepted (moment_started m k e l (omega (arith, m.many)) t) _
    moment_act m (data_byte_lem at f) few t = moment_noted s es tables.accepted (moment_took m (fits pcdata f) t) _
    moment_act m (infers_end u us at e c l) few (i, j) = rw (i, j) (moment_ended s es tables.accepted m u us _ e)
    moment_act m (ends u us at after e c) few (i, j) = rw (i, j) (moment_ended s es tables.accepted m u us _ e)

    -- The methods may be called for it.
    pub moment_asks : {z y : State} {o : OpenElements} {bits : List ℕ} → Moment es M bits z o → (a : Act s es D z y) → Few y → Asks s es D rows M a o
    moment_asks m (starts k at after d f h) few = (m.ranged, place_small m (fits (start k) f), omega (arith, m.many), omega (arith, d.1, tables.few))
    moment_asks m (empties k at after d f h l) few = (m.ranged, place_small m (fits (start k) f))
    moment_asks {z} m (infers k at e l) few = (m.ranged, omega (arith, m.many), omega (arith, rw e at (inferable_may s es D z.current (rw e (le-leb 1 k l))).declared, tables.few))
    moment_asks m (data_byte_lem at f) few = (m.ranged, place_small m (fits pcdata f))
    moment_asks m (infers_end u us at e c l) few = (m.ranged, omega (arith, m.many, ap (λ (l : List rules.Open). length l) e), sym (complete_kept s es tables.accepted m D means) ∙ c)
    moment_asks m (ends u us at after e c) few = (m.ranged, omega (arith, m.many, ap (λ (l : List rules.Open). length l) e))

    -- Wherever acts lead in the rules with at most 24 open, the methods lead beside.
    acts_along : {z y : State} {o : OpenElements} {bits : List ℕ} → Moment es M bits z o → (r : Acts s es D Few z y) → Along s es D rows M r o bits
    acts_along m (act.still f) = m
    acts_along m (act.next f a r) = (m, moment_asks m a (acts_first r), λ v b does. acts_along (moment_act m a (acts_first r) does) r)

    pub acts_beside : {z y : State} {o : OpenElements} {bits : List ℕ} → Moment es M bits z o → Acts s es D Few z y → Beside s es D rows M z o bits y
    acts_beside m r = record { acts = r; moments = acts_along m r }

    -- The places taken begin walks wherever acts lead.
    act_begun : {z y : State} → AllBegun es z → Act s es D z y → AllBegun es y
    act_begun {z} b (starts k at after d f h) = let moves = begun_moves s es D D means means in (moves.ends.note (moves.enter (moves.taking (refl, b) _ (fits (start k) f)) k h) _ refl).1
    act_begun {z} b (empties k at after d f h l) = let t = ((begun_moves s es D D means means).taking (refl, b) _ (fits (start k) f)).1 in record { current = t.current; around = t.around }
    act_begun {z} b (infers k at e l) =
        let moves = begun_moves s es D D means means in
        let i = inferable_may s es D z.current (rw e (le-leb 1 k l)) in
        (moves.ends.note (moves.enter (moves.taking (refl, b) _ (required i.place)) k (rw e at i.model)) _ refl).1
    act_begun {z} b (data_byte_lem at f) = let t = ((begun_moves s es D D means means).taking (refl, b) _ (fits pcdata f)).1 in record { current = t.current; around = t.around }
    act_begun {z} b (infers_end u us at e c l) = ended_begun u us _ e b
    act_begun {z} b (ends u us at after e c) = ended_begun u us _ e b

    pub acts_begun : {z y : State} → AllBegun es z → Acts s es D Few z y → AllBegun es y
    acts_begun b (act.still f) = b
    acts_begun b (act.next f a r) = acts_begun (act_begun b a) r
