-- `is_in_group` meets its contract. The invariant: of every group that stands at `at`, what is left to read from the token at `i` on decides.
use Prim.Native.Nat.{ℕ, ◌-◌, ◌≤◌}
use mathlib.Core.List.{List}
use lib.ListN.{length}
use Rattle.rules.specs.Attributes.{Part}
use Rattle.attribute_values.specs.Parts.{GroupAt}
use Rattle.attribute_values.specs.Groups.{Rests}
use Rattle.attribute_values.proofs.is_in_group.Given as goal

abbrev pub invariant-loop-at : goal.invariant-loop-at
invariant-loop-at l = (l.i ≤ length l.s) × ((long : ℕ) (ps : List Part) → GroupAt long l.s l.at ps → Rests l.s l.v ps l.i)

abbrev pub decreases-loop-at : goal.decreases-loop-at
decreases-loop-at l = length l.s - l.i
