use Prim.Native.Nat.{◌+◌}
use mathlib.Core.Path.{◌∙◌}
use native.Mathlib.Omega.{arith}
use Rattle.member_table.specs.Counting.{number_small}
use Rattle.member_table.specs.Putting.{ones_turn, ones_end, group_put}
use Rattle.member_table.proofs.put_group.Goals as goal

pub put_one-requires : goal.put_one-requires
put_one-requires c =
    let i = c.loop-j in
    let x = c.args in
    let number = number_small x.stack.now x.first (x.count + 1) c.needed_in-needed.result i.j x.k c.needed_in-needed.ensures.0 (omega arith) (omega arith) in
    record { first_bound = omega arith; j_bound = omega arith; own_bound = (omega arith, omega arith); j_bound_2 = number }

pub loop-j-preserved : goal.loop-j-preserved
loop-j-preserved c = let i = c.loop-j in
    (c.put_one.auto.members ∙ i.invariant.0, ones_turn _ _ _ _ _ _ _ _ _ _ _ _ _ c.put_one.ensures c.loop-j-test.true i.invariant.1)

pub shape_of-members : goal.shape_of-members
shape_of-members c = c.loop-j.invariant.0 ∙ c.put_record.auto.members

pub returns : goal.returns
returns c =
    let x = c.args in
    let e = c.needed_in-needed.ensures.0 in
    record {
      members_after = group_put x.members.now x.d.base x.d.table.now x.d.lasts.now x.d.groups (x.count + 1) x.stack.now x.first _ x.k e _ _ c.put_record.ensures
          (ones_end _ _ _ _ _ _ _ _ _ _ _ _ c.loop-j-test.false c.loop-j.invariant.1);
      value = e;
    }
