use native.Mathlib.Omega.{arith}
use Rattle.attribute_records.specs.ListByList.{lists_first, lists_turn, lists_end}
use Rattle.attribute_records.proofs.put_lists.Goals as goal

pub loop-k-init : goal.loop-k-init
loop-k-init c = (lists_first _ _ _, omega arith)

pub loop-k-preserved : goal.loop-k-preserved
loop-k-preserved c = (lists_turn _ _ _ c.loop-k.invariant.0 c.put_list-m.auto.numbers c.put_list-m.auto.bytes c.put_list-m.ensures.0, omega arith)

pub shape_of-numbers : goal.shape_of-numbers
shape_of-numbers c = c.loop-k.invariant.0.numbers_kept

pub shape_of-bytes : goal.shape_of-bytes
shape_of-bytes c = c.loop-k.invariant.0.bytes_kept

pub returns : goal.returns
returns c = (lists_end _ _ _ c.loop-k.invariant.0 (omega arith) (omega arith), omega arith)
