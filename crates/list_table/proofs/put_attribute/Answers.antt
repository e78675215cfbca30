-- `put_attribute` meets its contract: the row is written behind those before, and the number of attributes.
use native.Mathlib.Omega.{arith}
use Rattle.list_table.specs.Finds.{row_added, list_put}
use Rattle.list_table.proofs.put_attribute.Goals as goal

pub returns-clause-puts_row : goal.returns-clause-puts_row
returns-clause-puts_row c = let a = c.args in row_added a.list.now a.k a.r c.told-list (omega arith)

pub returns-clause-by_index : goal.returns-clause-by_index
returns-clause-by_index c = let a = c.args in list_put a.list.now a.k a.r c.told-list (omega arith)
