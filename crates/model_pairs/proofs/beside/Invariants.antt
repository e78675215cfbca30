-- `beside` meets its contract. The invariant: the set holds what may come next in some row before `u` where `p` may.
use Prim.Native.Nat.{◌+◌, ◌≤◌}
use Rattle.model_pairs.specs.Rows.{row_in}
use Rattle.model_pairs.specs.Seeks.{Beside}
use Rattle.model_pairs.proofs.beside.Given as goal

abbrev pub invariant-loop-u : goal.invariant-loop-u
invariant-loop-u l = (l.u ≤ l.n + 1) × Beside (row_in l.table) l.p l.u l.set
