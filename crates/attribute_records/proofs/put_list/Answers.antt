use Rattle.attribute_records.specs.ListByList.{list_first, list_turn, list_end}
use native.Mathlib.Omega.{arith}
use Rattle.attribute_records.proofs.put_list.Goals as goal

pub loop-a-init : goal.loop-a-init
loop-a-init c = list_first _ _ _ _ _

pub put_record-requires : goal.put_record-requires
put_record-requires c = (omega arith, omega arith, omega arith, c.attribute-r.ensures.1)

pub loop-a-preserved : goal.loop-a-preserved
loop-a-preserved c = list_turn _ _ _ _ _ c.loop-a.invariant c.attribute-r.result c.attribute-r.ensures.0 c.put_record.ensures

pub shape_of-numbers : goal.shape_of-numbers
shape_of-numbers c = c.loop-a.invariant.numbers_kept

pub shape_of-bytes : goal.shape_of-bytes
shape_of-bytes c = c.loop-a.invariant.bytes_kept

pub returns : goal.returns
returns c = (list_end _ _ _ _ _ c.loop-a.invariant c.count-count.ensures.0 (omega arith) (omega arith) (omega arith), omega arith)
