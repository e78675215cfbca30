-- What follows once a token has its place: what the contracts cite.
use Rattle.std.specs.Prelude.{ℕ, zero, suc, ◌+◌, ◌-◌, ◌≤◌, ◌<◌, ◌≡◌, Bool, true, false, List, [], ◌∷◌, ◌++◌, length, Result, Ok, Err}
use Rattle.rules.specs.Reading.{Reading, refused, got, and_then}
use Rattle.rules.specs.TypeFile.{Element}
use Rattle.rules.specs.Elements.{content_of, has_model}
use Rattle.rules.specs.Decisions.{start}
use Rattle.rules.specs.Events.{start_written, end_of_empty, data_run, Event}
use Rattle.rules.specs.Settling.{State, take_place, place_taken, enter, note, limited}
use Rattle.rules.specs.Records.{due_run}
use Rattle.rules.specs.Bytes.{TAGLVL}
use Rattle.text.specs.declared.Refusal.{Refusal}
use Rattle.text.specs.Refusal.{number_of}
use Rattle.document_laws.specs.Decide.{decided}
use Rattle.document_laws.specs.Moves.{state}
use Rattle.type_tables.specs.Tables.{Declares, Facts, Tables, CanTake}
use Rattle.open_elements.specs.declared.OpenElements.{OpenElements}
use Rattle.open_elements.specs.declared.Outcome.{Outcome}
use Rattle.open_elements.specs.Stands.{opening, Ranged, Stands, Taking}
use Rattle.open_elements.specs.Becomes.{Got}
use Rattle.event_buffer.specs.Buffers.{Puts}
use Rattle.ways.specs.declared.Way.{Way}
use Rattle.ways.specs.Asks.{token_of, place_of}

-- Of what the rules make of a start tag of the element x, or of a run of data for 0, from `at` to `after`: what follows once the token has its place, in the state y.
abbrev pub noting : List Element → (x at after : ℕ) → State → Reading State
noting es zero at after y =
    and_then (limited at y) λ x.
    got (record { current = x.current; around = x.around; events = x.events ++ data_run at (after - at) ∷ [] })
noting es (suc k) at after y =
    and_then (limited at (enter (suc k) y)) λ x.
    elim (has_model (content_of es (suc k))) [
      | true ↦ got (note (start_written (suc k) at after (place_taken y.current)) x)
      | false ↦ got (note (end_of_empty (suc k) after) (note (start_written (suc k) at after (place_taken y.current)) y))
    ]

-- Whether x is an element with a model, by the table of facts: it is open once it has started.
abbrev pub Opens : (facts : List ℕ) (x : ℕ) → Bool → Type 0
Opens facts x b = (x ≡ 0 → b ≡ false) × ((s : List ℕ) (es : List Element) (raised : ℕ → Bool) → Facts s es raised facts → Declares es (start x) → b ≡ has_model (content_of es x))

-- The event of a run of data, or those of an element x which shows this place: that of its start and, unless it opens, that of its end.
abbrev pub written_of : (x : ℕ) (opens : Bool) (place at after : ℕ) → List Event
written_of zero b p at after = data_run at (after - at) ∷ []
written_of (suc k) true p at after = start_written (suc k) at after p ∷ []
written_of (suc k) false p at after = start_written (suc k) at after p ∷ end_of_empty (suc k) after ∷ []

-- What is shown of these events, up to `shown`: of a run of data the bytes up to there, and no event if there is none; a tag is shown as it is.
abbrev pub shown_of : (x : ℕ) (opens : Bool) (place at shown : ℕ) → List Event
shown_of zero b p at shown = due_run at (shown - at)
shown_of (suc k) b p at shown = written_of (suc k) b p at shown

-- These events are put behind the n before: those of an element that opens, or of a token that does not, by the table of facts.
pub record Writes (facts : List ℕ) (x place at shown n : ℕ) (numbers bytes : List ℕ) (r : ℕ) (numbers' bytes' : List ℕ) : Type 0 where
  pub b : Bool
  pub opens : Opens facts x b
  pub counted : r ≡ n + length (shown_of x b place at shown)
  pub puts : Puts numbers bytes n (shown_of x b place at shown) numbers' bytes'

-- The place

-- What is open once the token has its place, in the state y, and is noted: an element with a model is entered.
abbrev pub entering : List Element → (x : ℕ) → State → State
entering es zero y = y
entering es (suc k) y = elim (has_model (content_of es (suc k))) [ true ↦ enter (suc k) y | false ↦ y ]

-- So many events are noted more than in y, in which the token has its place, and an element with a model is entered.
abbrev pub Notes : (es : List Element) (x : ℕ) (y : State) (events : List Event) → State → Type 0
Notes es x y events w = w ≡ state (entering es x y).current (entering es x y).around (y.events ++ events)

-- The token takes its place by what was found, and its events are put. An element with a model is not opened yet: there is room for it, and the open elements are those
-- before but for the place that was taken. What is put is what is shown of the events that the rules note: a run of data may reach further than it is shown, a tag ends
-- at `shown`.
pub record PlacedGot (rows places facts M begun : List ℕ) (found : Way) (x at shown n : ℕ) (o : OpenElements) (numbers bytes : List ℕ) (r : Outcome) (begun' numbers' bytes' : List ℕ) : Type 0 where
  pub ranged : Ranged r.open
  pub whole : length begun' ≡ length begun
  pub events : List Event
  pub puts : Puts numbers bytes n events numbers' bytes'
  pub counted : r.events ≡ n + length events
  pub few : length events ≤ 2
  -- Whether its element opens, and the place that it shows.
  pub opens : Bool
  pub taken : ℕ
  pub written : events ≡ shown_of x opens taken at shown
  pub p : ℕ
  pub place : (s : List ℕ) (es : List Element) → Tables s es rows places facts M → o.element.0 ≤ length es → x ≤ length es → p ≡ place_of ((decided s es).fits o.element.0 [] (token_of x)) found
  pub some : p ≡ 0 → ⊥
  pub taking : Taking rows M begun p o r.open begun'
  pub room : (x ≡ 0 → ⊥) → r.open.count < TAGLVL
  pub notes : (s : List ℕ) (es : List Element) → Tables s es rows places facts M → (z : State) → Stands es M begun o z → CanTake es z.current p → x ≤ length es
      → (after : ℕ) → (1 ≤ x → after ≡ shown) → Got (Notes es x (take_place p z) (written_of x opens taken at after)) (noting es x at after (take_place p z))

-- It is refused: as the rules refuse it where it has its place, or where it fits at none. Nothing was put, and no member has begun.
pub record PlacedRefused (rows places facts M begun : List ℕ) (found : Way) (x at shown : ℕ) (o : OpenElements) (numbers bytes : List ℕ) (f : Refusal) (begun' numbers' bytes' : List ℕ) : Type 0 where
  pub small : number_of f < 20
  pub begun_same : begun' ≡ begun
  pub numbers_same : numbers' ≡ numbers
  pub bytes_same : bytes' ≡ bytes
  pub p : ℕ
  pub place : (s : List ℕ) (es : List Element) → Tables s es rows places facts M → o.element.0 ≤ length es → x ≤ length es → p ≡ place_of ((decided s es).fits o.element.0 [] (token_of x)) found
  pub stuck : p ≡ 0 → number_of f ≡ 12
  pub notes : (p ≡ 0 → ⊥) → (s : List ℕ) (es : List Element) → Tables s es rows places facts M → (z : State) → Stands es M begun o z → CanTake es z.current p → x ≤ length es
      → (after : ℕ) → (1 ≤ x → after ≡ shown) → noting es x at after (take_place p z) ≡ refused (number_of f) at

-- The token takes its place by what was found, and its events are put, or it is refused; where it fits at none it is refused.
abbrev pub Placed : (rows places facts M begun : List ℕ) (found : Way) (x at shown n : ℕ) (o : OpenElements) (numbers bytes : List ℕ) → Result Outcome Refusal → (begun' numbers' bytes' : List ℕ) → Type 0
Placed rows places facts M begun found x at shown n o numbers bytes (Ok r) begun' numbers' bytes' = PlacedGot rows places facts M begun found x at shown n o numbers bytes r begun' numbers' bytes'
Placed rows places facts M begun found x at shown n o numbers bytes (Err f) begun' numbers' bytes' = PlacedRefused rows places facts M begun found x at shown o numbers bytes f begun' numbers' bytes'

-- Where it opens, the element x is the current one.
abbrev pub opened_by : (rows : List ℕ) (x : ℕ) (opens : Bool) → OpenElements → OpenElements
opened_by rows x true o = opening rows x o
opened_by rows x false o = o

-- The open elements stand for what was read, and so many events are noted more than in z.
abbrev pub Follows : (es : List Element) (M begun : List ℕ) (o : OpenElements) (z : State) (events : List Event) → State → Type 0
Follows es M begun o z events y = Stands es M begun o y × (y.events ≡ z.events ++ events)

-- After that an element with a model is opened, and the open elements are q: by the tables of a type they stand for what the rules make of the token.
pub record Places (rows places facts M begun : List ℕ) (found : Way) (x at shown n : ℕ) (o : OpenElements) (numbers bytes : List ℕ) (r : Outcome) (q : OpenElements) (begun' numbers' bytes' : List ℕ) : Type 0 where
  pub placed : PlacedGot rows places facts M begun found x at shown n o numbers bytes r begun' numbers' bytes'
  pub ranged : Ranged q
  pub notes : (s : List ℕ) (es : List Element) → Tables s es rows places facts M → (z : State) → Stands es M begun o z → CanTake es z.current placed.p → x ≤ length es
      → (after : ℕ) → (1 ≤ x → after ≡ shown) → Got (Follows es M begun' q z (written_of x placed.opens placed.taken at after)) (noting es x at after (take_place placed.p z))
