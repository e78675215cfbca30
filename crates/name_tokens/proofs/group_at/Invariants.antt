-- `group_at` meets its contract. The invariant: what is left to read from the token at `i` on gives what the whole group gives.
use Prim.Native.Nat.{◌+◌, ◌-◌, ◌≤◌, ◌<◌}
use lib.ListN.{length}
use Rattle.rules.specs.Bytes.{GRPCNT}
use Rattle.rules.specs.TypeFile.{token_group}
use Rattle.name_tokens.specs.Tokens.{parts_of}
use Rattle.name_tokens.specs.TokenByToken.{Goes}
use Rattle.name_tokens.proofs.group_at.Given as goal

abbrev pub invariant-loop-e : goal.invariant-loop-e
invariant-loop-e l = (l.at < l.i) × (l.i ≤ length l.s) × (l.n ≤ l.m) × (l.m ≤ l.n + GRPCNT) × Goes l.long l.s (parts_of l.initial.seen l.n) (token_group l.long l.s (parts_of l.initial.seen l.n) l.at) l.seen l.n l.m l.c l.i

abbrev pub decreases-loop-e : goal.decreases-loop-e
decreases-loop-e l = length l.s - l.i
