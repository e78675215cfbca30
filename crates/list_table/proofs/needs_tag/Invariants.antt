-- `needs_tag` meets its contract. The invariant: none of the attributes before the k-th is required.
use Prim.Native.Nat.{◌*◌, ◌-◌}
use Rattle.layout.specs.Sizes.{LIST}
use Rattle.list_table.specs.Finds.{NoneRequired}
use Rattle.list_table.proofs.needs_tag.Given as goal

abbrev pub invariant-loop-k : goal.invariant-loop-k
invariant-loop-k l = NoneRequired l.lists (LIST * (l.e.0 - 1)) l.k
