-- `settle` meets its contract. The invariant: what is left to do, done to the table as it is, gives the table that is to be.
use Rattle.model_links.specs.Links as Links
use mathlib.Core.Path.{◌≡◌}
use Rattle.model_links.proofs.settle.Given as goal

abbrev pub invariant-loop-u : goal.invariant-loop-u
invariant-loop-u l = Links.settle l.table l.u l.mid l.required ≡ Links.settle l.initial.table l.lo l.mid l.required
