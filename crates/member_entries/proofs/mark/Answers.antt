-- `mark` meets its contract: the table has a 1 there, another number, or none.
use native.Mathlib.Omega.{arith}
use Rattle.member_entries.specs.Writes.{marked_one}
use Rattle.member_entries.proofs.mark.Goals as goal

pub returns-then-table-i-eq1 : goal.returns-then-table-i-eq1
returns-then-table-i-eq1 c = marked_one _ c.args.u c.args.m.other c.args.m.number _ c.if-table-i-eq1.true (omega arith)
