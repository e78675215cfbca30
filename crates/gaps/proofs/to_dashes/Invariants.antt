-- `to_dashes` meets its contract. The invariant: the first `--` from `i` on is the first from the start.
use Rattle.std.proofs.Common.{◌≡◌, ◌+◌, drop}
use Rattle.rules.specs.TypeFile.{before_dashes}
use Rattle.gaps.proofs.to_dashes.Given as goal

abbrev pub invariant-loop-i : goal.invariant-loop-i
invariant-loop-i l = l.i + before_dashes (drop l.i l.s) ≡ l.at + before_dashes (drop l.at l.s)
