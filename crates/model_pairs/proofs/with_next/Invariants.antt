-- `with_next` meets its contract. The invariant: the places below `q` that may come next are added to the set.
use Prim.Native.Nat.{ℕ, ◌≤◌}
use lib.ListN.{get_or}
use Rattle.layout.specs.Sizes.{POSITIONS}
use Rattle.model_pairs.specs.Rows.{is_next}
use Rattle.model_pairs.specs.Seeks.{Added}
use Rattle.model_pairs.proofs.with_next.Given as goal

abbrev pub invariant-loop-q : goal.invariant-loop-q
invariant-loop-q l = (l.q ≤ POSITIONS) × Added (λ (k : ℕ). is_next (get_or l.next k 0)) l.initial.more l.more l.q
