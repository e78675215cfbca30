-- What settling does, walked once: which ends are inferred, then which starts, and where the token is taken; which ends an end tag and the document's end
-- infer, and which end is written then.
use Rattle.std.specs.Prelude.{ℕ, ◌≤◌, Bool, ◌&&◌, length, eqb, ltb}
use Rattle.std.proofs.Math.Path.{◌≡◌, refl, sym, ap, subst}
use Rattle.std.proofs.Common.{◌∙◌, arith}
use Rattle.std.proofs.Math.Bool.{true, false}
use mathlib.Core.List.{List, [], ◌∷◌, ◌++◌}
use Rattle.std.proofs.Math.Dec.{leb}
use borrow.Author.Tests.{leb-true, ltb-false, eqb-true}
use Rattle.rules.specs.Bytes.{TAGLVL}
use Rattle.rules.specs.Reading.{Reading, refused, got, and_then}
use Rattle.rules.specs.TypeFile.{Element}
use Rattle.rules.specs.Elements.{content_of, has_model, end_o}
use Rattle.rules.specs.Decisions.{Token, start, pcdata, Decisions}
use Rattle.rules.specs.Events.{Event, start_written, start_inferred, end_written, end_inferred, end_of_empty}
use Rattle.rules.specs.Settling.{Open, State, take_place, place_taken, enter, note, limited, is_open, Inward, settled, stuck, fitting, is_complete, required_place, inferable, chain, infer_starts, take_token, inward, settle_from, is_over, settle, start_element, take_data, end_left_out, close_from, end_element, end_from, end_document}
use Rattle.rules.specs.Acts.{Few}
use Rattle.rules_laws.specs.Holds.{stops, reads, Gives, each, so, on, either}
use Rattle.basic_laws.specs.Truth.{and_left, and_right}
use Rattle.document_laws.specs.Chain.{Leads, chain_leads}
use Rattle.document_laws.specs.Moves.{state, with_datum}

-- The start of k is inferred in the current element, where it takes the required place.
abbrev pub start_in : List ℕ → List Element → Decisions → (k at : ℕ) → State → State
start_in s es D k at z =
    let y = take_place (required_place s es D z.current) z in
    note (start_inferred k at (place_taken y.current)) (enter k y)

-- At most 24 are open, or the token is refused.
pub limited_few : (at : ℕ) (z : State) → ltb TAGLVL (length z.around) ≡ false → limited at z ≡ got z
unfolding limited
limited_few at z e = rw (e, limited)

pub limited_many : (at : ℕ) (z : State) → ltb TAGLVL (length z.around) ≡ true → limited at z ≡ refused 15 at
unfolding limited
limited_many at z e = rw (e, limited)

-- Ends are inferred one after another, each of an element that is complete and whose end is "O".
pub data Ended (s : List ℕ) (es : List Element) (D : Decisions) (at : ℕ) : State → State → Type 0 where
  all_ended : {z : State} → Ended s es D at z z
  ends_then : {z y : State} (u : Open) (us : List Open) → z.around ≡ u ∷ us → is_complete s es D z.current ≡ true → end_o es z.current.element ≡ true
      → Ended s es D at (state u us (z.events ++ end_inferred z.current.element at ∷ [])) y → Ended s es D at z y

-- Starts are inferred, one in the other.
pub data Started (s : List ℕ) (es : List Element) (D : Decisions) (at : ℕ) : State → State → Type 0 where
  all_started : {z : State} → Started s es D at z z
  starts_then : {z y : State} (k : ℕ) → inferable s es D z.current ≡ k → 1 ≤ k → Started s es D at (start_in s es D k at z) y → Started s es D at z y

module _ (s : List ℕ) (es : List Element) (D : Decisions) where
  -- The definitions as equations

  pub settle_over : (t : Token) (at : ℕ) (z : State) → is_over s es D z ≡ true → settle s es D t at z ≡ refused 16 at
  unfolding settle
  settle_over t at z e = rw (e, settle)

  pub settle_on : (t : Token) (at : ℕ) (z : State) → is_over s es D z ≡ false → settle s es D t at z ≡ settle_from s es D t at z.around z.current z.events
  unfolding settle
  settle_on t at z e = rw (e, settle)

  -- What becomes of a start tag that has its place, and of data.
  abbrev pub start_noted : (k at after : ℕ) → State → Reading State
  start_noted k at after y =
      and_then (limited at (enter k y)) λ x.
      elim (has_model (content_of es k)) [
        | true ↦ got (note (start_written k at after (place_taken y.current)) x)
        | false ↦ got (note (end_of_empty k after) (note (start_written k at after (place_taken y.current)) y))
      ]

  pub start_element_is : (k at after : ℕ) (z : State) → start_element s es D k at after z ≡ and_then (settle s es D (start k) at z) (start_noted k at after)
  unfolding start_element
  start_element_is k at after z = refl

  pub take_data_is : (at : ℕ) (z : State) → take_data s es D at z ≡ and_then (settle s es D pcdata at z) λ y. and_then (limited at y) λ x. got (with_datum at x)
  unfolding take_data
  take_data_is at z = refl

  -- Start tags and data

  starts_are : (t : Token) (at : ℕ) (ks : List ℕ) (z : State) → Leads s es D t z.current ks → Started s es D at z (infer_starts s es D at ks z)
  unfolding infer_starts
  starts_are t at [] z l = all_started
  starts_are t at (k ∷ ks) z (e, i, l) = starts_then k e (leb-true 1 k i) (starts_are t at ks (start_in s es D k at z) l)

  starts_fit : (t : Token) (at : ℕ) (ks : List ℕ) (z : State) → Leads s es D t z.current ks → 1 ≤ fitting s es D (infer_starts s es D at ks z).current t
  unfolding infer_starts
  starts_fit t at [] z l = leb-true 1 _ l
  starts_fit t at (k ∷ ks) z (e, i, l) = starts_fit t at ks (start_in s es D k at z) l

  -- Ends were inferred, then starts, and the token was taken where it fits.
  pub record Comes (t : Token) (at : ℕ) (z y : State) : Type 0 where
    pub between : State
    pub ended : Ended s es D at z between
    pub here : State
    pub started : Started s es D at between here
    pub fits : 1 ≤ fitting s es D here.current t
    pub taken : y ≡ take_token s es D t here

  inward_comes : (t : Token) (at : ℕ) (z y : State) → inward s es D t at z ≡ settled y → Comes t at z y
  unfolding inward
  inward_comes t at z y = by_fit (leb 1 (fitting s es D z.current t)) refl (chain s es D (length es) t z.current) refl
    where
      by_fit : (b : Bool) → leb 1 (fitting s es D z.current t) ≡ b → (c : List ℕ) → chain s es D (length es) t z.current ≡ c
          → ◌≡◌ {A = Inward} (elim b [ true ↦ settled (take_token s es D t z) | false ↦ elim c [ [] ↦ stuck | k ∷ ks ↦ settled (take_token s es D t (infer_starts s es D at (k ∷ ks) z)) ] ]) (settled y)
          → Comes t at z y
      by_fit true f c i e = let j : take_token s es D t z ≡ y = cc in record { between = z; ended = all_ended; here = z; started = all_started; fits = leb-true 1 _ f; taken = sym j }
      by_fit false f [] i e = absurd (let z : ◌≡◌ {A = ℕ} 0 1 = cc in omega arith)
      by_fit false f (k ∷ ks) i e =
          let j : take_token s es D t (infer_starts s es D at (k ∷ ks) z) ≡ y = cc in
          let l = chain_leads s es D t (length es) z.current k ks i in
          record { between = z; ended = all_ended; here = infer_starts s es D at (k ∷ ks) z; started = starts_are t at (k ∷ ks) z l; fits = starts_fit t at (k ∷ ks) z l; taken = sym j }

  -- An end is inferred first.
  ends_first : (t : Token) (at : ℕ) (u : Open) (around : List Open) (o : Open) (ev : List Event) (y : State) → is_complete s es D o ≡ true → end_o es o.element ≡ true
      → Comes t at (state u around (ev ++ end_inferred o.element at ∷ [])) y → Comes t at (state o (u ∷ around) ev) y
  ends_first t at u around o ev y c e h =
      record { between = h.between; ended = ends_then {z = state o (u ∷ around) ev} u around refl c e h.ended; here = h.here; started = h.started; fits = h.fits; taken = h.taken }

  settle_from_comes : (t : Token) (at : ℕ) (around : List Open) (o : Open) (ev : List Event) (y : State) → settle_from s es D t at around o ev ≡ got y → Comes t at (state o around ev) y
  unfolding settle_from
  settle_from_comes t at [] o ev y = by_inward (inward s es D t at (state o [] ev)) refl
    where
      by_inward : (w : Inward) → inward s es D t at (state o [] ev) ≡ w → ◌≡◌ {A = Reading State} (elim w [ settled z ↦ got z | stuck ↦ refused 12 at ]) (got y) → Comes t at (state o [] ev) y
      by_inward (settled z) i e = let j : z ≡ y = cc in inward_comes t at (state o [] ev) y (i ∙ ap settled j)
      by_inward stuck i e = absurd (let z : ◌≡◌ {A = ℕ} 0 1 = cc in omega arith)
  settle_from_comes t at (u ∷ around) o ev y = by_inward (inward s es D t at (state o (u ∷ around) ev)) refl (settle_from_comes t at around u (ev ++ end_inferred o.element at ∷ []) y)
    where
      later : Reading State
      later = settle_from s es D t at around u (ev ++ end_inferred o.element at ∷ [])

      by_test : (b : Bool) → (is_complete s es D o && (end_o es o.element && leb 1 u.element)) ≡ b → (later ≡ got y → Comes t at (state u around (ev ++ end_inferred o.element at ∷ [])) y)
          → ◌≡◌ {A = Reading State} (elim b [ true ↦ later | false ↦ refused 12 at ]) (got y) → Comes t at (state o (u ∷ around) ev) y
      by_test true q ih e = ends_first t at u around o ev y (and_left (is_complete s es D o) _ q) (and_left (end_o es o.element) _ (and_right (is_complete s es D o) _ q)) (ih e)
      by_test false q ih e = absurd (let z : ◌≡◌ {A = ℕ} 0 1 = cc in omega arith)

      by_inward : (w : Inward) → inward s es D t at (state o (u ∷ around) ev) ≡ w → (later ≡ got y → Comes t at (state u around (ev ++ end_inferred o.element at ∷ [])) y)
          → ◌≡◌ {A = Reading State} (elim w [ settled z ↦ got z | stuck ↦ elim (is_complete s es D o && (end_o es o.element && leb 1 u.element)) [ true ↦ later | false ↦ refused 12 at ] ]) (got y)
          → Comes t at (state o (u ∷ around) ev) y
      by_inward (settled z) i ih e = let j : z ≡ y = cc in inward_comes t at (state o (u ∷ around) ev) y (i ∙ ap settled j)
      by_inward stuck i ih e = by_test (is_complete s es D o && (end_o es o.element && leb 1 u.element)) refl ih e

  settle_comes : (t : Token) (at : ℕ) (z : State) → Gives (Comes t at z) (settle s es D t at z)
  unfolding settle
  settle_comes t at z = either (is_over s es D z) (λ e. stops tt) (λ e. each (settle_from s es D t at z.around z.current z.events) (λ n k i. tt) (λ y i. settle_from_comes t at z.around z.current z.events y i))

  limited_lets : (at : ℕ) (z : State) → Gives (λ (x : State). (x ≡ z) × Few z) (limited at z)
  unfolding limited
  limited_lets at z = either (ltb TAGLVL (length z.around)) (λ e. stops tt) (λ e. reads (refl, ltb-false _ _ e))

  -- What a start tag leaves: its element is opened, or has come and gone.
  pub data Tagged (k at after : ℕ) (z : State) : State → Type 0 where
    opened : {y : State} → Comes (start k) at z y → Few (enter k y) → has_model (content_of es k) ≡ true → Tagged k at after z (note (start_written k at after (place_taken y.current)) (enter k y))
    passed : {y : State} → Comes (start k) at z y → Few (enter k y) → has_model (content_of es k) ≡ false → Tagged k at after z (note (end_of_empty k after) (note (start_written k at after (place_taken y.current)) y))

  -- A start tag that has its place in y is noted, and its element opened, or over at once.
  pub noted_tagged : (k at after : ℕ) (z y : State) → Comes (start k) at z y
      → Gives (Tagged k at after z) (start_noted k at after y)
  noted_tagged k at after z y c =
      on (limited_lets at (enter k y)) λ x l.
      either (has_model (content_of es k)) (λ m. reads (rw l.0 (opened c l.1 m))) (λ m. reads (passed c l.1 m))

  pub start_element_tagged : (k at after : ℕ) (z : State) → Gives (Tagged k at after z) (start_element s es D k at after z)
  start_element_tagged k at after z = rw (start_element_is k at after z) (on (settle_comes (start k) at z) λ y c. noted_tagged k at after z y c)

  -- What a data byte leaves: it has its place, and is noted there.
  pub record Datum (at : ℕ) (z x : State) : Type 0 where
    pub place : State
    pub comes : Comes pcdata at z place
    pub few : Few place
    pub is : x ≡ with_datum at place

  pub take_data_datum : (at : ℕ) (z : State) → Gives (Datum at z) (take_data s es D at z)
  take_data_datum at z = rw (take_data_is at z) (on (settle_comes pcdata at z) λ y c. on (limited_lets at y) λ x l. reads (record { place = y; comes = c; few = l.1; is = ap (with_datum at) l.0 }))

  -- A token that fits

  -- Nothing is inferred, and it takes its place.
  pub settle_from_fits : (t : Token) (at : ℕ) (around : List Open) (o : Open) (ev : List Event) → leb 1 (fitting s es D o t) ≡ true → settle_from s es D t at around o ev ≡ got (take_token s es D t (state o around ev))
  unfolding settle_from inward
  settle_from_fits t at [] o ev h = rw (settle_from, inward, h)
  settle_from_fits t at (u ∷ around) o ev h = rw (settle_from, inward, h)

  settle_fits : (t : Token) (at : ℕ) (z : State) → leb 1 (fitting s es D z.current t) ≡ true → Gives (λ (y : State). y ≡ take_token s es D t z) (settle s es D t at z)
  unfolding settle
  settle_fits t at z h = either (is_over s es D z) (λ e. stops tt) (λ e. rw (settle_from_fits t at z.around z.current z.events h) (reads refl))

  pub take_data_fits : (at : ℕ) (z : State) → leb 1 (fitting s es D z.current pcdata) ≡ true → Gives (λ (y : State). (y ≡ with_datum at (take_token s es D pcdata z)) × Few z) (take_data s es D at z)
  take_data_fits at z h = rw (take_data_is at z) (on (settle_fits pcdata at z h) λ y i. on (limited_lets at y) λ x l. reads (ap (with_datum at) (l.0 ∙ i), subst (λ (w : State). length w.around ≤ TAGLVL) i l.1))

  -- Ends

  -- An end that is left out is inferred of an element that is complete, with end "O".
  pub left_out : (at : ℕ) (o : Open) → Gives (λ (e : Event). (e ≡ end_inferred o.element at) × (is_complete s es D o ≡ true) × (end_o es o.element ≡ true)) (end_left_out s es D at o)
  unfolding end_left_out
  left_out at o = either (is_complete s es D o) (λ c. either (end_o es o.element) (λ e. reads (refl, c, e)) (λ e. stops tt)) (λ c. stops tt)

  -- What an end tag leaves: ends were inferred, and then the element that it names was closed.
  pub record Closes (k at after : ℕ) (z y : State) : Type 0 where
    pub here : State
    pub ended : Ended s es D at z here
    pub outer : Open
    pub outers : List Open
    pub inside : here.around ≡ outer ∷ outers
    pub named : here.current.element ≡ k
    pub complete : is_complete s es D here.current ≡ true
    pub is : y ≡ state outer outers (here.events ++ end_written k at after ∷ [])

  close_from_closes : (k at after : ℕ) (around : List Open) (o : Open) (ev : List Event) → Gives (Closes k at after (state o around ev)) (close_from s es D k at after around o ev)
  unfolding close_from
  close_from_closes k at after [] o ev = stops tt
  close_from_closes k at after (u ∷ around) o ev =
      either (eqb o.element k)
      (λ e. either (is_complete s es D o)
      (λ c. reads (record { here = state o (u ∷ around) ev; ended = all_ended; outer = u; outers = around; inside = refl; named = eqb-true o.element k e; complete = c; is = refl }))
      (λ c. stops tt))
      (λ e. on (left_out at o) λ x l.
      so (close_from_closes k at after around u (ev ++ x ∷ [])) (λ n j i. i)
      (λ y r.
      let first = subst (λ (i : Event). Ended s es D at (state u around (ev ++ i ∷ [])) r.here) l.0 r.ended in
      record { here = r.here; ended = ends_then {z = state o (u ∷ around) ev} u around refl l.1 l.2 first; outer = r.outer; outers = r.outers; inside = r.inside; named = r.named; complete = r.complete; is = r.is }))

  pub end_element_closes : (k at after : ℕ) (z : State) → Gives (Closes k at after z) (end_element s es D k at after z)
  unfolding end_element
  end_element_closes k at after z = either (is_open k (z.current ∷ z.around)) (λ e. close_from_closes k at after z.around z.current z.events) (λ e. stops tt)

  -- What the document's end leaves: ends were inferred until nothing was open, and the document itself is complete.
  pub record AllClosed (at : ℕ) (z : State) (ev : List Event) : Type 0 where
    pub last : State
    pub ended : Ended s es D at z last
    pub nothing : last.around ≡ []
    pub complete : is_complete s es D last.current ≡ true
    pub events : last.events ≡ ev

  end_from_closed : (at : ℕ) (around : List Open) (o : Open) (ev : List Event) → Gives (AllClosed at (state o around ev)) (end_from s es D at around o ev)
  unfolding end_from
  end_from_closed at [] o ev = either (is_complete s es D o) (λ c. reads (record { last = state o [] ev; ended = all_ended; nothing = refl; complete = c; events = refl })) (λ c. stops tt)
  end_from_closed at (u ∷ around) o ev =
      on (left_out at o) λ x l.
      so (end_from_closed at around u (ev ++ x ∷ [])) (λ n j i. i)
      (λ y r.
      let first = subst (λ (i : Event). Ended s es D at (state u around (ev ++ i ∷ [])) r.last) l.0 r.ended in
      record { last = r.last; ended = ends_then {z = state o (u ∷ around) ev} u around refl l.1 l.2 first; nothing = r.nothing; complete = r.complete; events = r.events })

  pub end_document_closed : (at : ℕ) (z : State) → Gives (AllClosed at z) (end_document s es D at z)
  unfolding end_document
  end_document_closed at z = end_from_closed at z.around z.current z.events
