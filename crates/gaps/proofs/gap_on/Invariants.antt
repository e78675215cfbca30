-- `gap_on` meets its contract. The invariant: the gap goes on from `i` as it went on from the start.
use Prim.Native.Nat.{◌-◌, ◌≤◌}
use mathlib.Core.Path.{◌≡◌}
use lib.ListN.{length}
use Rattle.text.specs.Words.{gap_on}
use Rattle.gaps.proofs.gap_on.Given as goal

abbrev pub invariant-loop-e : goal.invariant-loop-e
invariant-loop-e l = (l.i ≤ length l.s) × (gap_on (length l.s) l.s l.i ≡ gap_on (length l.s) l.s l.at)

abbrev pub decreases-loop-e : goal.decreases-loop-e
decreases-loop-e l = length l.s - l.i
