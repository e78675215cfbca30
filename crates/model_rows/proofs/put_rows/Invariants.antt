-- `put_rows` meets its contract. The invariant: the rows below `u` are put, into whatever the first was put.
use Prim.Native.Nat.{◌+◌, ◌≤◌}
use mathlib.Core.Path.{◌≡◌}
use mathlib.Core.List.{List}
use Prim.Native.Nat.{ℕ}
use lib.ListN.{length}
use Rattle.layout.specs.Sizes.{ROWS}
use Rattle.model_rows.specs.Rows.{RowsPut}
use Rattle.model_rows.proofs.put_rows.Given as goal

abbrev pub invariant-loop-u : goal.invariant-loop-u
invariant-loop-u l = (1 ≤ l.u) × (l.u ≤ l.count + 1) × (length l.rows ≡ ROWS) × ((T : List ℕ) → RowsPut l.table l.e.0 l.raise T l.initial.rows 1 → RowsPut l.table l.e.0 l.raise T l.rows l.u)
