-- `start_required` meets its contract: the place is taken as in `take`, then the element opened.
use native.Mathlib.Omega.{arith}
use Rattle.open_elements.specs.Methods.{ranged_taking}
use Rattle.open_elements.proofs.OpenElements.start_required.Goals as goal

pub take-requires : goal.take-requires
take-requires c = (c.requires.0, c.requires.0.required)

pub start-requires : goal.start-requires
start-requires c = (ranged_taking c.take.ensures c.requires.0 c.requires.0.required, omega (arith, c.take.ensures.count, c.requires.1), c.requires.2)

pub returns : goal.returns
returns c = record { taken = c.take.result; taking = c.take.ensures; opens = c.start.ensures }
