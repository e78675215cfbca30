-- `link_row` meets its contract. The invariant: what is left to do, done to the table as it is, gives the table that is to be.
use mathlib.Core.Path.{◌≡◌}
use Rattle.model_links.specs.Links.{link_row}
use Rattle.model_links.proofs.link_row.Given as goal

abbrev pub invariant-loop-p : goal.invariant-loop-p
invariant-loop-p l = link_row l.table l.u l.p l.d ≡ link_row l.initial.table l.u l.c l.d
