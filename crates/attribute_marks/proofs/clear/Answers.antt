use native.Mathlib.Omega.{arith}
use Rattle.attribute_marks.specs.Marking.{cleared_first, cleared_turn}
use Rattle.attribute_marks.proofs.clear.Goals as goal

pub loop-k-init : goal.loop-k-init
loop-k-init c = (omega arith, cleared_first _ c.told-marks)

pub loop-k-preserved : goal.loop-k-preserved
loop-k-preserved c = (omega arith, cleared_turn _ _ (omega arith) c.loop-k.invariant.1)

pub returns : goal.returns
returns c = λ k h. c.loop-k.invariant.1.none k (omega arith)
