-- `number` meets its contract: past the end it is 0.
use native.Mathlib.Omega.{arith}
use Rattle.list_table.specs.Finds.{get_d_past}
use Rattle.list_table.proofs.number.Goals as goal

pub returns-then-lists-i : goal.returns-then-lists-i
returns-then-lists-i c = (get_d_past c.args.lists.now c.args.i c.if-lists-i.true, omega arith)

pub returns : goal.returns
returns c = c.short.ensures
