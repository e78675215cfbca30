-- `keys_of` meets its contract. The invariant: the keys of the places before `p` are known.
use Prim.Native.Nat.{◌+◌, ◌≤◌}
use Rattle.same_names.specs.Keys.{Keyed}
use Rattle.same_names.proofs.keys_of.Given as goal

abbrev pub invariant-loop-p : goal.invariant-loop-p
invariant-loop-p l = (1 ≤ l.p) × (l.p ≤ l.n + 1) × Keyed l.s l.names l.keys l.p
