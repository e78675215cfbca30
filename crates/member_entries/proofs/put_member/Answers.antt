-- `put_member` meets its contract: places, groups, and the two numbers of the member, put in turn.
use native.Mathlib.Omega.{arith}
use Rattle.member_entries.specs.Writes.{member_put}
use Rattle.member_entries.proofs.put_member.Goals as goal

pub returns : goal.returns
returns c = member_put _ _ _ _ _ _ _ _ _ _ _ _ _ _ _ c.put_places.ensures c.put_outers.ensures (omega arith) c.put.ensures c.put-2.ensures
