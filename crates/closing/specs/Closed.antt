-- What an end tag and the document's end come to: what the contracts of `end_tag` and `finish` cite.
use Rattle.std.specs.Prelude.{ℕ, ◌≤◌, ◌≡◌, Bool, List, ◌++◌, length, Result, Ok, Err}
use Rattle.rules.specs.Reading.{refused, got}
use Rattle.rules.specs.TypeFile.{Element}
use Rattle.rules.specs.Settling.{State, end_element, end_document}
use Rattle.layout.specs.Sizes.{TOKEN_EVENTS}
use Rattle.text.specs.declared.Refusal.{Refusal}
use Rattle.text.specs.Refusal.{number_of}
use Rattle.document_laws.specs.Decide.{decided}
use Rattle.type_tables.specs.Tables.{Facts}
use Rattle.open_elements.specs.declared.OpenElements.{OpenElements}
use Rattle.open_elements.specs.declared.Outcome.{Outcome}
use Rattle.open_elements.specs.Stands.{Stands}
use Rattle.open_elements.specs.Becomes.{Got, StandsWith}
use Rattle.left_out_ends.specs.Until.{Brings, Refused}

-- What `end_tag` promises: the state and the events are the rules' after the end tag of x, or it is refused as there.
pub record TaggedGot (facts : List ℕ) (x at after n : ℕ) (o : OpenElements) (numbers bytes : List ℕ) (r : Outcome) (numbers' bytes' : List ℕ) : Type 0 where
  pub brings : Brings n numbers bytes r numbers' bytes'
  pub few : length brings.events ≤ TOKEN_EVENTS
  pub closes : (s : List ℕ) (es : List Element) (raised : ℕ → Bool) → Facts s es raised facts → (M begun : List ℕ) (z : State) → Stands es M begun o z
      → Got (StandsWith es M begun r.open (z.events ++ brings.events)) (end_element s es (decided s es) x at after z)

pub record TaggedRefused (facts : List ℕ) (x at after n : ℕ) (o : OpenElements) (numbers bytes : List ℕ) (f : Refusal) (numbers' bytes' : List ℕ) : Type 0 where
  pub put : Refused n numbers bytes f numbers' bytes'
  pub few : length put.events ≤ TOKEN_EVENTS
  pub closes : (s : List ℕ) (es : List Element) (raised : ℕ → Bool) → Facts s es raised facts → (M begun : List ℕ) (z : State) → Stands es M begun o z
      → end_element s es (decided s es) x at after z ≡ refused (number_of f) at

abbrev pub Tagged : (facts : List ℕ) (x at after n : ℕ) (o : OpenElements) (numbers bytes : List ℕ) → Result Outcome Refusal → (numbers' bytes' : List ℕ) → Type 0
Tagged facts x at after n o numbers bytes (Ok r) numbers' bytes' = TaggedGot facts x at after n o numbers bytes r numbers' bytes'
Tagged facts x at after n o numbers bytes (Err f) numbers' bytes' = TaggedRefused facts x at after n o numbers bytes f numbers' bytes'

-- What `finish` promises: the events are the rules' at the document's end, or it is refused as there.
pub record FinishedGot (facts : List ℕ) (at n : ℕ) (o : OpenElements) (numbers bytes : List ℕ) (r : Outcome) (numbers' bytes' : List ℕ) : Type 0 where
  pub brings : Brings n numbers bytes r numbers' bytes'
  pub few : length brings.events ≤ TOKEN_EVENTS
  pub ends : (s : List ℕ) (es : List Element) (raised : ℕ → Bool) → Facts s es raised facts → (M begun : List ℕ) (z : State) → Stands es M begun o z
      → end_document s es (decided s es) at z ≡ got (z.events ++ brings.events)

pub record FinishedRefused (facts : List ℕ) (at n : ℕ) (o : OpenElements) (numbers bytes : List ℕ) (f : Refusal) (numbers' bytes' : List ℕ) : Type 0 where
  pub put : Refused n numbers bytes f numbers' bytes'
  pub few : length put.events ≤ TOKEN_EVENTS
  pub ends : (s : List ℕ) (es : List Element) (raised : ℕ → Bool) → Facts s es raised facts → (M begun : List ℕ) (z : State) → Stands es M begun o z
      → end_document s es (decided s es) at z ≡ refused (number_of f) at

abbrev pub Finished : (facts : List ℕ) (at n : ℕ) (o : OpenElements) (numbers bytes : List ℕ) → Result Outcome Refusal → (numbers' bytes' : List ℕ) → Type 0
Finished facts at n o numbers bytes (Ok r) numbers' bytes' = FinishedGot facts at n o numbers bytes r numbers' bytes'
Finished facts at n o numbers bytes (Err f) numbers' bytes' = FinishedRefused facts at n o numbers bytes f numbers' bytes'
