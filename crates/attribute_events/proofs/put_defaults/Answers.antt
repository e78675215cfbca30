-- `put_defaults` meets its contract: nothing is marked, so that all are defaulted.
use Rattle.attribute_events.specs.OneByOne.{defaults_none, defaults_unmarked}
use Rattle.attribute_events.proofs.put_defaults.Goals as goal

pub returns-then-count-eq0 : goal.returns-then-count-eq0
returns-then-count-eq0 c = defaults_none _ _ _ _ _ _ c.if-count-eq0.true c.count.ensures.0

pub returns : goal.returns
returns c = defaults_unmarked _ _ _ _ _ c.put_all.ensures
