-- `file_read` meets its contract: between two declarations what was read so far is kept, and the rules go on from there.
use Prim.Native.Nat.{◌≤◌, ◌-◌}
use lib.ListN.{length}
use Rattle.rules.specs.Bytes.{type_limit}
use Rattle.type_file.specs.Turns.{ReadsOn}
use Rattle.type_file.proofs.file_read.Given as goal

abbrev pub invariant-loop-names : goal.invariant-loop-names
invariant-loop-names l = (length l.s ≤ type_limit) × ReadsOn l.long l.s l.elements l.heads l.p

abbrev pub decreases-loop-names : goal.decreases-loop-names
decreases-loop-names l = length l.s - l.p.at
