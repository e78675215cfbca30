-- `kind` meets its contract: each way by the test.
use native.Mathlib.Omega.{arith}
use Rattle.attribute_records.specs.Numbers.{kind_below, kind_last}
use Rattle.attribute_records.proofs.kind.Goals as goal

pub returns-then-x-m : goal.returns-then-x-m
returns-then-x-m c = kind_below _ _ (omega arith)

pub returns-else-x-m : goal.returns-else-x-m
returns-else-x-m c = kind_last _ _ (omega arith)
