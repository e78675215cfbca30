-- `fill` meets its contract. The invariant: the tables are filled up to the element `k`.
use mathlib.Core.Path.{◌≡◌}
use lib.ListN.{length}
use Rattle.table_fill.specs.Filled.{Filled}
use Rattle.table_fill.specs.Own.{elements_of}
use Rattle.table_fill.proofs.fill.Given as goal

abbrev pub invariant-loop-k : goal.invariant-loop-k
invariant-loop-k l = (length l.members ≡ length l.initial.members) × Filled l.fn.s (elements_of l.fn.long l.fn.s) l.rows l.places l.facts l.members l.k
