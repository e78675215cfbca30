-- `put_row` meets its contract. The invariant: the first `j` numbers of the row are put, whichever element has its row there.
use mathlib.Core.Path.{◌≡◌}
use Prim.Native.Nat.{ℕ, ◌≤◌}
use Rattle.rules.specs.Bytes.{element_limit}
use Rattle.layout.specs.Sizes.{LAST_BITS}
use Rattle.type_tables.specs.Tables.{row_at}
use Rattle.model_rows.specs.Rows.{BitsPut}
use Rattle.model_rows.proofs.put_row.Given as goal

abbrev pub invariant-loop-j : goal.invariant-loop-j
invariant-loop-j l = (l.j ≤ LAST_BITS) × ((e : ℕ) → e ≤ element_limit → l.r ≡ row_at e l.u.0 → BitsPut l.table e l.u.0 l.initial.rows l.rows l.j)
