-- `fill` meets its contract. The invariant: table and stack are what the numbers read so far leave.
use Rattle.member_table.specs.Steps.{Running}
use Rattle.member_table.proofs.fill.Given as goal

abbrev pub invariant-loop-i : goal.invariant-loop-i
invariant-loop-i l = Running l.table l.base l.initial.members l.i l.members l.stack l.top l.lasts l.groups l.count
