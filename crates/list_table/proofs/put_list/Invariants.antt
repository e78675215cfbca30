-- `put_list` meets its contract. The invariant: so many numbers are copied, and all others are what they were.
use Prim.Native.Nat.{◌+◌, ◌≤◌}
use mathlib.Core.Path.{◌≡◌}
use lib.ListN.{length}
use Rattle.layout.specs.Sizes.{LIST, LISTS}
use Rattle.list_table.specs.Finds.{Copying}
use Rattle.list_table.proofs.put_list.Given as goal

abbrev pub invariant-loop-i : goal.invariant-loop-i
invariant-loop-i l = (l.end ≤ LIST) × (length l.initial.lists ≡ LISTS) × (l.from + LIST ≤ LISTS) × Copying l.list l.from l.initial.lists l.lists l.i
