-- `entered` meets its contract: the member at hand, and those that hold its group, are those that hold the place.
use Rattle.and_groups.specs.Entering.{enters_none, enters_large, enters_far, enters_all}
use Rattle.and_groups.proofs.entered.Goals as goal

pub returns-then-h-eq0 : goal.returns-then-h-eq0
returns-then-h-eq0 c = enters_none _ _ _ _ c.if-h-eq0.true

pub returns-then-h-gt-GRPGTCNT : goal.returns-then-h-gt-GRPGTCNT
returns-then-h-gt-GRPGTCNT c = enters_large _ _ _ _ c.if-h-gt-GRPGTCNT.true

pub returns-then-g-gt-AND_GROUPS : goal.returns-then-g-gt-AND_GROUPS
returns-then-g-gt-AND_GROUPS c = enters_far _ _ _ _ _ c.group_of-g.ensures.0 c.if-g-gt-AND_GROUPS.true

pub returns : goal.returns
returns c = enters_all _ _ _ c.if-h-eq0.false _ _ _ _ _ c.group_of-g.ensures.0 c.with.ensures c.holding.ensures c.bitor.ensures
