-- `value` meets its contract: each way by the part of its text.
use Rattle.attribute_values.proofs.value.Goals as goal

pub returns-then-is_written : goal.returns-then-is_written
returns-then-is_written c = rw c.if-is_written.true c.part.ensures

pub returns : goal.returns
returns c = rw c.if-is_written.false c.part-2.ensures
