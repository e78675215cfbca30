-- `definitions_at` meets its contract. The invariant: the attributes so far are in the list, their tokens in the table, and the rest is still to be read.
use Prim.Native.Nat.{◌+◌, ◌*◌, ◌-◌, ◌≤◌}
use lib.ListN.{length}
use Rattle.rules.specs.Bytes.{ATTCNT, GRPCNT, type_limit}
use Rattle.list_definitions.specs.OneByOne.{Reads}
use Rattle.list_definitions.proofs.definitions_at.Given as goal

abbrev pub invariant-loop-i : goal.invariant-loop-i
invariant-loop-i l = (3 ≤ l.from) × (l.from ≤ l.at) × (l.at ≤ length l.s) × (length l.s ≤ type_limit) × (l.n ≤ ATTCNT) × (l.m ≤ GRPCNT * l.n) × Reads l.long l.s l.from l.list l.seen l.n l.m l.at

abbrev pub decreases-loop-i : goal.decreases-loop-i
decreases-loop-i l = ATTCNT + 1 - l.n
