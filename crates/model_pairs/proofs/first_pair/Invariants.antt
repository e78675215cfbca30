-- `first_pair` meets its contract. The invariant: no place before `p` is in a pair at fault, so what is still to be searched gives the answer.
use Prim.Native.Nat.{ℕ, ◌+◌, ◌≤◌}
use mathlib.Core.Bool.{Bool}
use Rattle.model_pairs.specs.Rows.{Tells}
use Rattle.model_pairs.specs.Seeks.{SeeksPair}
use Rattle.model_pairs.proofs.first_pair.Given as goal

abbrev pub invariant-loop-p : goal.invariant-loop-p
invariant-loop-p l = (1 ≤ l.p) × (l.p ≤ l.n + 1) × ((F : ℕ → ℕ → Bool) → Tells l.table l.n l.code l.and F → SeeksPair l.s l.names F l.n l.p)
