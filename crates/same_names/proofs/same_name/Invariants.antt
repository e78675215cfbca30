-- `same_name` meets its contract. The invariant: no place from `q` on before `i` has the name of `p`.
use Prim.Native.Nat.{◌+◌, ◌≤◌}
use Rattle.same_names.specs.Keys.{Unlike}
use Rattle.same_names.proofs.same_name.Given as goal

abbrev pub invariant-loop-i : goal.invariant-loop-i
invariant-loop-i l = (l.q ≤ l.i) × (l.i ≤ l.n + 1) × Unlike l.s l.names l.n l.p l.q l.i
