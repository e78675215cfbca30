-- `find` meets its contract. The invariant: none of the attributes before the k-th is called so.
use Prim.Native.Nat.{◌*◌, ◌-◌}
use Rattle.layout.specs.Sizes.{LIST}
use Rattle.list_table.specs.Finds.{NoneNamed}
use Rattle.list_table.proofs.find.Given as goal

abbrev pub invariant-loop-k : goal.invariant-loop-k
invariant-loop-k l = NoneNamed l.s l.t l.at l.size l.lists (LIST * (l.e.0 - 1)) l.k
