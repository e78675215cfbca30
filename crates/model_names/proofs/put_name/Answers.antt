-- `put_name` meets its contract: the table has room for the two numbers, and they are written behind those of the places before.
use mathlib.Core.Path.{refl}
use native.Mathlib.Omega.{arith}
use Rattle.model_names.specs.Shared.{places_of_put}
use Rattle.model_names.proofs.put_name.Goals as goal

pub returns : goal.returns
returns c = (places_of_put _ _ _ _ (omega arith), refl)
