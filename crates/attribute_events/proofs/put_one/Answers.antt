-- `put_one` meets its contract: a written value, none, or the default's.
use native.Mathlib.Omega.{arith}
use Rattle.attribute_events.specs.OneByOne.{one_none}
use Rattle.attribute_events.proofs.put_one.Goals as goal

pub returns-then-r-lt2 : goal.returns-then-r-lt2
returns-then-r-lt2 c = one_none _ _ _ _ _ _ _ _ c.requires.0 (omega arith) _ c.attribute-r.ensures.0 (omega arith)
