-- `link` meets its contract. The invariant: what is left to do, done to the table as it is, gives the table that is to be.
use Rattle.model_links.specs.Links as Links
use mathlib.Core.Path.{◌≡◌}
use Rattle.model_links.proofs.link.Given as goal

abbrev pub invariant-loop-u : goal.invariant-loop-u
invariant-loop-u l = Links.link l.table l.u l.b l.c l.d ≡ Links.link l.initial.table l.a l.b l.c l.d
