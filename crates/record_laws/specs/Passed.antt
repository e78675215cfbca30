-- Reading comes to the same with what came in the elements as without it.
use Rattle.std.specs.Prelude.{ℕ, List}
use Rattle.rules.specs.Settings.{Settings}
use Rattle.rules.specs.TypeFile.{Element}
use Rattle.rules.specs.Decisions.{Decisions}
use Rattle.rules.specs.Settling.{State}
use Rattle.rules.specs.Records.{Line}
use Rattle.rules.specs.Acts.{Passes}
use Rattle.rules.specs.RecordEnds.{Contents, Fills}

pub fills_passes : {c : Settings} {s : List ℕ} {es : List Element} {D : Decisions} {d : List ℕ} {at : ℕ} {l : Line} {z : State} {k : Contents} → Fills c s es D d at l z k → Passes c s es D d at l z
fills_passes Fills.begins = Passes.begins
fills_passes (Fills.goes r h i u e) = Passes.goes r (fills_passes h) i u e

pub passes_fills : {c : Settings} {s : List ℕ} {es : List Element} {D : Decisions} {d : List ℕ} {at : ℕ} {l : Line} {z : State} → Passes c s es D d at l z → (k : Contents) × Fills c s es D d at l z k
passes_fills Passes.begins = (_, Fills.begins)
passes_fills (Passes.goes r h i u e) = let w = passes_fills h in (_, Fills.goes r w.1 i u e)
