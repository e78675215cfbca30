-- `fill` meets its contract. The invariant: the sets are put of the groups from g on.
use Prim.Native.Nat.{◌-◌, ◌≤◌}
use lib.ListN.{length}
use Rattle.layout.specs.Sizes.{MEMBERS}
use Rattle.member_sets.specs.Linking.{Linking}
use Rattle.member_sets.proofs.fill.Given as goal

abbrev pub invariant-loop-g : goal.invariant-loop-g
invariant-loop-g l = (MEMBERS ≤ length l.initial.members) × Linking l.initial.members l.e.0 (l.g - 1) l.members
