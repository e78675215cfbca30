-- The measures of the cycle: a group's tokens are read one level further in; beside that a token comes after its group, and what follows after both.
-- The loop of `group_at` goes over the content tokens after the first. Its invariant: what is kept of the members so far, whatever was kept of the
-- first one; its measure: how many members there may still be.
use Rattle.std.proofs.Common.{◌+◌, ◌*◌, ◌-◌}
use Rattle.rules.specs.TypeFile.{group}
use Rattle.rules.specs.Bytes.{GRPCNT}
use Rattle.group_reader.specs.Groups.{So}
use Rattle.group_reader.proofs.+group_at_next_at_token_at.Given as goal

abbrev pub decreases-group_at : goal.decreases-group_at
decreases-group_at l = 3 * l.levels

abbrev pub decreases-next_at : goal.decreases-next_at
decreases-next_at l = 3 * l.levels + 2

abbrev pub decreases-token_at : goal.decreases-token_at
decreases-token_at l = 3 * l.levels + 1

abbrev pub invariant-group_at-loop-next : goal.invariant-group_at-loop-next
invariant-group_at-loop-next l = So l.long (group l.long (l.levels - 1) l.s) l.s (l.had.places + 1) l.initial.names l.initial.table l.initial.m l.names l.table l.m l.k l.c

abbrev pub decreases-group_at-loop-next : goal.decreases-group_at-loop-next
decreases-group_at-loop-next l = (GRPCNT + 1) - l.k
