-- `detail` meets its contract: each way by the test.
use native.Mathlib.Omega.{arith}
use Rattle.attribute_records.specs.Numbers.{detail_below, detail_last}
use Rattle.attribute_records.proofs.detail.Goals as goal

pub returns-then-x-m : goal.returns-then-x-m
returns-then-x-m c = let a = c.args in detail_below a.m a.x a.y (omega arith)

pub returns-else-x-m : goal.returns-else-x-m
returns-else-x-m c = let a = c.args in detail_last a.m a.x a.y (omega arith)
