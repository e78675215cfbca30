-- `plain_end` meets its contract. The invariant of both loops: the run ends at the same place from there as
-- from the start.
use Rattle.std.proofs.Common.{◌≡◌, ◌-◌, ◌≤◌, length}
use Rattle.rules_laws.specs.Runs.{run_end}
use Rattle.data_runs.proofs.plain_end.Given as goal

abbrev pub invariant-loop-i : goal.invariant-loop-i
invariant-loop-i l = (l.at ≤ l.i) × (l.i ≤ length l.s) × (run_end l.s l.i ≡ run_end l.s l.at)

abbrev pub decreases-loop-i : goal.decreases-loop-i
decreases-loop-i l = length l.s - l.i

abbrev pub invariant-loop-j : goal.invariant-loop-j
invariant-loop-j l = run_end l.s l.j ≡ run_end l.s l.at
