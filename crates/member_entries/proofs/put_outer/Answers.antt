-- `put_outer` meets its contract: the last place of the group is within the member, behind it, or before it.
use Rattle.member_entries.specs.Writes.{outer_within, outer_right, outer_left}
use Rattle.member_entries.proofs.put_outer.Goals as goal

pub returns-then-last-m : goal.returns-then-last-m
returns-then-last-m c = outer_within _ _ _ _ _ _ _ _ _ _ _ c.put_free.ensures c.mark.ensures c.if-m-last.true c.if-last-m.true

pub returns-else-last-m : goal.returns-else-last-m
returns-else-last-m c = outer_right _ _ _ _ _ _ _ _ _ c.if-m-last.true c.if-last-m.false

pub returns-else-m-last : goal.returns-else-m-last
returns-else-m-last c = outer_left _ _ _ _ _ _ _ _ _ c.if-m-last.false
