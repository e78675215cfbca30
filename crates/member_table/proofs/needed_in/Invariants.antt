-- `needed_in` meets its contract. The invariant: those before j are counted.
use Prim.Native.Nat.{◌≤◌}
use mathlib.Core.Path.{◌≡◌}
use Rattle.member_table.specs.Filling.{needed_in}
use Rattle.member_table.proofs.needed_in.Given as goal

abbrev pub invariant-loop-j : goal.invariant-loop-j
invariant-loop-j l = (l.n ≤ l.j) × (l.n ≡ needed_in l.stack l.first l.j)
