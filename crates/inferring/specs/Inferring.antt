-- What inferring ends and starts does, step by step, beside the rules' own states: what its contracts cite.
use Rattle.std.specs.Prelude.{ℕ, zero, suc, ◌+◌, ◌≤◌, ◌≡◌, true, false, List, [], ◌∷◌, ◌++◌, length}
use Rattle.rules.specs.TypeFile.{Element}
use Rattle.rules.specs.Decisions.{Token, Decisions}
use Rattle.rules.specs.Events.{start_inferred, end_inferred, Event}
use Rattle.rules.specs.Settling.{State, take_place, shown, place_taken, enter, note, fitting, required_place, inferable, settle_from}
use Rattle.rules.specs.Settling as rules
use Rattle.rules_laws.specs.BeforeStarts.{Plain}
use Rattle.rules.specs.Bytes.{GRPGTCNT, element_limit}
use Rattle.document_laws.specs.Decide.{decided}
use Rattle.document_laws.specs.Moves.{state, fresh}
use Rattle.type_tables.specs.Tables.{name_number, Declares, Tables, Entered}
use Rattle.open_elements.specs.declared.OpenElements.{OpenElements}
use Rattle.open_elements.specs.Stands.{Ranged, Stands, Starting}
use Rattle.event_buffer.specs.Buffers.{Puts}
use Rattle.ways.specs.declared.Way.{Way}
use Rattle.ways.specs.declared.Way.TheVariants.{Stuck}
use Rattle.ways.specs.Asks.{way_of, chained, starts_of, fit_of, may_end, MayEnd}
use Rattle.inferring.specs.declared.Stop.{Stop}

-- Ends

-- From z₀ ends are inferred one after another, each where step 3 allows it.
pub data EndsTo (s : List ℕ) (es : List Element) (at : ℕ) (z₀ : State) : State → Type 0 where
  none : EndsTo s es at z₀ z₀
  more : {z : State} {u : rules.Open} {us : List rules.Open} → EndsTo s es at z₀ z → z.around ≡ u ∷ us → may_end s es (decided s es) z.current z.around ≡ true
      → EndsTo s es at z₀ (state u us (z.events ++ end_inferred z.current.element at ∷ []))

-- The events of ends that are inferred at `at`, one after another.
pub data EndsAt (at : ℕ) : List Event → Type 0 where
  no_end : EndsAt at []
  one_end : (k : ℕ) {ev : List Event} → EndsAt at ev → EndsAt at (ev ++ end_inferred k at ∷ [])

-- The open elements have come to stand for a state from which the same is settled as from z₀: ends alone were inferred between, with these events.
pub record Comes (s : List ℕ) (es : List Element) (M begun : List ℕ) (t : Token) (at : ℕ) (o : OpenElements) (events : List Event) (z₀ : State) : Type 0 where
  pub there : State
  pub stands : Stands es M begun o there
  pub ends : EndsTo s es at z₀ there
  pub noted : there.events ≡ z₀.events ++ events
  pub same : settle_from s es (decided s es) t at there.around there.current there.events ≡ settle_from s es (decided s es) t at z₀.around z₀.current z₀.events

-- So it is for every type whose tables these are, and the token whose name is x. An end was inferred for each event.
pub record Turns (rows places facts M begun : List ℕ) (x at n : ℕ) (o₀ : OpenElements) (numbers₀ bytes₀ : List ℕ) (o : OpenElements) (m : ℕ) (numbers bytes : List ℕ) : Type 0 where
  pub events : List Event
  pub are : EndsAt at events
  pub puts : Puts numbers₀ bytes₀ n events numbers bytes
  pub counted : m ≡ n + length events
  pub plain : Plain events
  pub deep : length events + o.count ≡ o₀.count
  pub ranged : Ranged o
  pub comes : (s : List ℕ) (es : List Element) → Tables s es rows places facts M → (z : State) → Stands es M begun o₀ z → (t : Token) → name_number t ≡ x → Declares es t → Comes s es M begun t at o events z

-- What is found of the current element.
abbrev pub Finds : (rows places facts M begun : List ℕ) (x : ℕ) → OpenElements → Way → Type 0
Finds rows places facts M begun x o w =
    (s : List ℕ) (es : List Element) → Tables s es rows places facts M → (v : rules.Open) → Entered es M begun o.count o.element.0 o.place.0 v → o.required.0 ≡ required_place s es (decided s es) v
    → (t : Token) → name_number t ≡ x → Declares es t → w ≡ way_of (fitting s es (decided s es) v t) (chained s es (decided s es) t v)

-- No more ends are inferred.
pub record Stops (rows places facts M begun : List ℕ) (x at n : ℕ) (o₀ : OpenElements) (numbers₀ bytes₀ : List ℕ) (r : Stop) (numbers bytes : List ℕ) : Type 0 where
  pub turns : Turns rows places facts M begun x at n o₀ numbers₀ bytes₀ r.open r.events numbers bytes
  pub fits : fit_of r.found ≤ GRPGTCNT
  pub starts : starts_of r.found ≤ element_limit
  pub finds : Finds rows places facts M begun x r.open r.found
  pub stays : r.found ≡ Stuck → MayEnd facts r.open false

-- Starts

-- The events of starts that are inferred at `at`, one after another.
pub data StartsAt (at : ℕ) : List Event → Type 0 where
  no_start : StartsAt at []
  one_start : (k place : ℕ) {ev : List Event} → StartsAt at ev → StartsAt at (ev ++ start_inferred k at place ∷ [])

module _ (s : List ℕ) (es : List Element) (D : Decisions) where
  -- The start of the element that the current one requires is inferred.
  abbrev pub infer_one : (at : ℕ) → State → State
  infer_one at z =
      let k = inferable s es D z.current in
      let y = take_place (required_place s es D z.current) z in
      note (start_inferred k at (place_taken y.current)) (enter k y)

  -- So many starts are inferred, one in the other.
  abbrev pub infer_many : (at starts : ℕ) → State → State
  infer_many at zero z = z
  infer_many at (suc n) z = infer_many at n (infer_one at z)

  -- So many starts can be inferred in o, one in the other, and the token fits in the last.
  abbrev pub Infers : Token → ℕ → rules.Open → Type 0
  Infers t zero o = 1 ≤ fitting s es D o t
  Infers t (suc n) o = (1 ≤ inferable s es D o) × Infers t n (fresh (inferable s es D o))

-- The open elements have come to stand for a state from which what is left to infer comes to the same as so many starts from z₀; with these events.
pub record InfersOn (s : List ℕ) (es : List Element) (M begun : List ℕ) (t : Token) (at left : ℕ) (o : OpenElements) (events : List Event) (starts : ℕ) (z₀ : State) : Type 0 where
  pub there : State
  pub stands : Stands es M begun o there
  pub infers : Infers s es (decided s es) t left there.current
  pub noted : there.events ≡ z₀.events ++ events
  pub same : infer_many s es (decided s es) at left there ≡ infer_many s es (decided s es) at starts z₀

-- By the tables of a type k is the element whose start is to be inferred next, wherever the open elements stand for a state of the rules.
abbrev pub Chooses : (places facts : List ℕ) → OpenElements → (k : ℕ) → Type 0
Chooses places facts o k =
    (s : List ℕ) (es : List Element) (rows M begun : List ℕ) → Tables s es rows places facts M → (z : State) → Stands es M begun o z → k ≡ inferable s es (decided s es) z.current

-- The required place is taken, the element k opened there, and its start noted; by the tables of a type it is the one whose start is to be
-- inferred.
pub record InfersStart (rows places facts M before : List ℕ) (at n : ℕ) (o : OpenElements) (numbers bytes : List ℕ) (r : OpenElements) (after numbers' bytes' : List ℕ) : Type 0 where
  pub k : ℕ
  pub few : k ≤ element_limit
  pub starting : Starting rows M before k o r after
  pub puts : Puts numbers bytes n (start_inferred k at (shown o.element.0 o.required.0) ∷ []) numbers' bytes'
  pub chosen : (s : List ℕ) (es : List Element) → Tables s es rows places facts M → (z : State) → Stands es M before o z → k ≡ inferable s es (decided s es) z.current
