-- How ends are inferred from the current element outwards, and what the functions of the code say of it.
use Rattle.std.specs.Prelude.{ℕ, ◌+◌, ◌≤◌, ◌<◌, ◌≡◌, Bool, true, false, List, [], ◌∷◌, ◌++◌, length, eqb, Result, Ok, Err}
use Rattle.rules.specs.Reading.{Reading, refused, got, and_then}
use Rattle.rules.specs.TypeFile.{Element}
use Rattle.rules.specs.Decisions.{Decisions}
use Rattle.rules.specs.Events.{Event, end_inferred}
use Rattle.rules.specs.Settling.{State, end_left_out}
use Rattle.rules.specs.Settling as rules
use Rattle.rules_laws.specs.BeforeStarts.{Plain}
use Rattle.text.specs.declared.Refusal.{Refusal}
use Rattle.text.specs.Refusal.{number_of}
use Rattle.document_laws.specs.Decide.{decided}
use Rattle.type_tables.specs.Tables.{Facts}
use Rattle.event_buffer.specs.Buffers.{Puts}
use Rattle.open_elements.specs.declared.OpenElements.{OpenElements}
use Rattle.open_elements.specs.declared.Outcome.{Outcome}
use Rattle.open_elements.specs.Stands.{Ranged, Stands}
use Rattle.open_elements.specs.Becomes.{Got, StandsWith}

-- Ends are inferred until the current element is x, or nothing is around it: what an end tag and the document's end have in common.
unfoldable pub infer_ends : List ℕ → List Element → Decisions → (x at : ℕ) → List rules.Open → rules.Open → List Event → Reading State
infer_ends s es D x at [] o ev = got (record { current = o; around = []; events = ev })
infer_ends s es D x at (u ∷ around) o ev =
    elim (eqb o.element x) [
      | true ↦ got (record { current = o; around = u ∷ around; events = ev })
      | false ↦ and_then (end_left_out s es D at o) λ e. infer_ends s es D x at around u (ev ++ e ∷ [])
    ]

-- What the rules say of the end of the current element, which is not the document, at each position, by the table of facts.
abbrev pub Says : (facts : List ℕ) (o : OpenElements) → (ℕ → Reading Event) → Type 0
Says facts o due = (s : List ℕ) (es : List Element) (raised : ℕ → Bool) → Facts s es raised facts → (M begun : List ℕ) (z : State) → Stands es M begun o z → 1 ≤ o.count → (at : ℕ)
    → end_left_out s es (decided s es) at z.current ≡ due at

-- Whether the end of the current element, which is not the document, may be inferred, or why not.
abbrev pub Judges : (facts : List ℕ) (o : OpenElements) → Result (Unit {0}) Refusal → Type 0
Judges facts o (Ok u) = (o.complete ≡ true) × Says facts o (λ at. got (end_inferred o.element.0 at))
Judges facts o (Err f) = (number_of f < 20) × Says facts o (λ at. refused (number_of f) at)

-- What is handed back, whatever the tables hold: the numbers of the state are in range, and these events, ends alone, were put
-- behind n others.
pub record Brings (n : ℕ) (numbers bytes : List ℕ) (r : Outcome) (numbers' bytes' : List ℕ) : Type 0 where
  pub ranged : Ranged r.open
  pub events : List Event
  pub puts : Puts numbers bytes n events numbers' bytes'
  pub counted : r.events ≡ n + length events
  pub plain : Plain events

-- What is refused, whatever the tables hold: by a number below 20, and before that these events, ends alone, were put behind n others.
pub record Refused (n : ℕ) (numbers bytes : List ℕ) (f : Refusal) (numbers' bytes' : List ℕ) : Type 0 where
  pub small : number_of f < 20
  pub events : List Event
  pub puts : Puts numbers bytes n events numbers' bytes'
  pub plain : Plain events

-- The state and events r are what inferring ends comes to from the state o. At most one end is inferred for each element that is open no more.
pub record UntilGot (facts : List ℕ) (x at n : ℕ) (o : OpenElements) (numbers bytes : List ℕ) (r : Outcome) (numbers' bytes' : List ℕ) : Type 0 where
  pub brings : Brings n numbers bytes r numbers' bytes'
  pub few : length brings.events + r.open.count ≤ o.count
  pub reached : 1 ≤ r.open.count → r.open.element.0 ≡ x
  pub ends : (s : List ℕ) (es : List Element) (raised : ℕ → Bool) → Facts s es raised facts → (M begun : List ℕ) (z : State) → Stands es M begun o z
      → Got (StandsWith es M begun r.open (z.events ++ brings.events)) (infer_ends s es (decided s es) x at z.around z.current z.events)

-- Inferring ends from the state o is refused.
pub record UntilRefused (facts : List ℕ) (x at n : ℕ) (o : OpenElements) (numbers bytes : List ℕ) (f : Refusal) (numbers' bytes' : List ℕ) : Type 0 where
  pub put : Refused n numbers bytes f numbers' bytes'
  pub few : length put.events ≤ o.count
  pub ends : (s : List ℕ) (es : List Element) (raised : ℕ → Bool) → Facts s es raised facts → (M begun : List ℕ) (z : State) → Stands es M begun o z
      → infer_ends s es (decided s es) x at z.around z.current z.events ≡ refused (number_of f) at

-- The outcome r is what inferring ends comes to from the state o.
abbrev pub Until : (facts : List ℕ) (x at n : ℕ) (o : OpenElements) (numbers bytes : List ℕ) → Result Outcome Refusal → (numbers' bytes' : List ℕ) → Type 0
Until facts x at n o numbers bytes (Ok r) numbers' bytes' = UntilGot facts x at n o numbers bytes r numbers' bytes'
Until facts x at n o numbers bytes (Err f) numbers' bytes' = UntilRefused facts x at n o numbers bytes f numbers' bytes'
