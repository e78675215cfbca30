-- A run of data settled at once, and the place that was taken last taken again.
use Rattle.std.specs.Prelude.{ℕ, suc, ◌+◌, ◌-◌, ◌≡◌, Bool, false, ◌&&◌, List, [], ◌∷◌, ◌++◌, length, eqb}
use Rattle.rules.specs.Settings.{Settings}
use Rattle.rules.specs.Reading.{Reading, got, and_then}
use Rattle.rules.specs.Walk.{last_or0}
use Rattle.rules.specs.TypeFile.{Element}
use Rattle.rules.specs.Decisions.{pcdata, Decisions}
use Rattle.rules.specs.Events.{Event, data_run}
use Rattle.rules.specs.Given.{with_attributes}
use Rattle.rules.specs.Settling.{Open, State, limited, settle}
use Rattle.rules.specs.Records.{Line, records_settled}
use Rattle.rules.specs.Reader.{pieces_within}
use Rattle.and_laws.specs.Base.{mem}
use Rattle.and_laws.specs.Taken.{IsLast}

-- The run of data from `at`, of this size: its first byte is settled, and the run is one event.
unfoldable pub take_run : List ℕ → List Element → Decisions → (at size : ℕ) → State → Reading State
take_run s es D at size z =
    and_then (settle s es D pcdata at z) λ y.
    and_then (limited at y) λ x.
    got (record { current = x.current; around = x.around; events = x.events ++ data_run at size ∷ [] })

-- The rest of the document d from `at` on, where l says how record ends stand there.
abbrev pub pieces : Settings → List ℕ → List Element → Decisions → (d : List ℕ) (at : ℕ) → Line → State → Reading (List Event)
pieces c s es D d at l z = pieces_within c s es D d (suc (length d - at)) at l z

-- What is read of the document d where its pieces give r: bytes 13 that are ignored as the last are no part of an event, and attribute events come before each start.
abbrev pub attributing : Settings → List ℕ → List Element → (d : List ℕ) → Reading (List Event) → Reading (List Event)
attributing c s es d r = and_then r λ ev. got (with_attributes c.name_length s es d (records_settled c d ev))

-- The last event is a run of data that ends at `at`.
abbrev pub joins : ℕ → List Event → Bool
joins at [] = false
joins at (e ∷ []) = eqb e.kind 5 && eqb (e.offset + e.size) at
joins at (e ∷ f ∷ ev) = joins at (f ∷ ev)

-- The current element takes one place more.
abbrev pub took : Open → ℕ → Open
took o p = record { element = o.element; taken = o.taken ++ p ∷ [] }

-- The open element v is o, but that its last place may have been taken again: each byte of a run of data takes the same place. The last of the places
-- taken and the set of them are as they were.
pub record Again (o v : Open) : Type 0 where
  pub element : v.element ≡ o.element
  pub ends : (u : ℕ) → IsLast o.taken u → IsLast v.taken u
  pub last : last_or0 v.taken ≡ last_or0 o.taken
  pub same : mem v.taken ≡ mem o.taken
