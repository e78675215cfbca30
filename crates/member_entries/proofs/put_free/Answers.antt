-- `put_free` meets its contract: the number is free, it is not, or there is none.
use Rattle.member_entries.specs.Writes.{free_set, free_stays, free_past}
use Rattle.member_entries.proofs.put_free.Goals as goal

pub returns-then-members-i-eq0 : goal.returns-then-members-i-eq0
returns-then-members-i-eq0 c = let x = c.args in free_set x.members.now x.i x.x c.if-members-i-eq0.true

pub returns-else-members-i-eq0 : goal.returns-else-members-i-eq0
returns-else-members-i-eq0 c = let x = c.args in free_stays x.members.now x.i x.x c.if-members-i-eq0.false

pub returns-else-i-members : goal.returns-else-i-members
returns-else-i-members c = let x = c.args in free_past x.members.now x.i x.x c.if-i-members.false
