-- What has become of a token that is not refused: what was read, and the open elements that stand for it.
use Rattle.std.specs.Prelude.{ℕ, ◌≡◌, List, Result, Ok, Err, IsErrAnd}
use Rattle.std.proofs.Common.{ap}
use Rattle.rules.specs.Reading.{Reading, got}
use Rattle.rules.specs.TypeFile.{Element}
use Rattle.rules.specs.Events.{Event}
use Rattle.rules.specs.Settling.{State}
use Rattle.open_elements.specs.declared.OpenElements.{OpenElements}
use Rattle.open_elements.specs.Stands.{Stands}

-- Something was read, and P holds of it.
abbrev pub Got : {A : Type 0} → (A → Type 0) → Reading A → Type 0
Got {A} P q = (x : A) × (q ≡ got x) × P x

-- The open elements stand for a state that has these events.
abbrev pub StandsWith : List Element → (M begun : List ℕ) → OpenElements → List Event → State → Type 0
StandsWith es M begun o ev y = Stands es M begun o y × (y.events ≡ ev)

-- A refusal is passed on as it is.
pub passed_on : {A E : Type 0} {f : E} (r : Result A E) → IsErrAnd r (λ e. e ≡ f) → r ≡ Err f
passed_on (Ok _) h = elim h [ ]
passed_on (Err e) h = ap Err h
