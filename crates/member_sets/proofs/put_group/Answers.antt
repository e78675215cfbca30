-- `put_group` meets its contract.
use native.Mathlib.Omega.{arith}
use Rattle.member_sets.specs.Linking.{group_put}
use Rattle.member_sets.proofs.put_group.Goals as goal

pub returns : goal.returns
returns c = group_put _ _ _ _ (omega arith) (omega arith) (omega arith) c.around-a.ensures _ _ c.put_bits.ensures c.put_bits-2.ensures _ c.put_reach.ensures
