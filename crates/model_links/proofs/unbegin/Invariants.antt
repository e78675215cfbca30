-- `unbegin` meets its contract. The invariant: what is left to do, done to the table as it is, gives the table that is to be.
use Rattle.model_links.specs.Links as Links
use mathlib.Core.Path.{◌≡◌}
use Rattle.model_links.specs.Links.{unbegin_cell}
use Rattle.model_links.proofs.unbegin.Given as goal

abbrev pub invariant-loop-p : goal.invariant-loop-p
invariant-loop-p l = Links.unbegin l.table l.p l.hi ≡ Links.unbegin l.initial.table l.mid l.hi
