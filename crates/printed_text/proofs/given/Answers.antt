-- `given` meets its contract: it is the number that the program gives.
use mathlib.Core.Path.{refl}
use Rattle.printed_text.proofs.given.Goals as goal

pub returns : goal.returns
returns c = refl
