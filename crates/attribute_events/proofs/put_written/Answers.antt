-- `put_written` meets its contract: where no element has a list there are none.
use native.Mathlib.Omega.{arith}
use Rattle.attribute_events.specs.OneByOne.{written_none}
use Rattle.attribute_events.proofs.put_written.Goals as goal

pub returns-then-lists-eq0 : goal.returns-then-lists-eq0
returns-then-lists-eq0 c = written_none _ _ _ _ _ _ (omega arith)
