use mathlib.Core.Path.{◌∙◌}
use native.Mathlib.Omega.{arith}
use Rattle.member_sets.specs.Linking.{linking_start, linking_on, linked_all, linked_short}
use Rattle.member_sets.proofs.fill.Goals as goal

pub shape_of-members-then-members-lt-MEMBERS : goal.shape_of-members-then-members-lt-MEMBERS
shape_of-members-then-members-lt-MEMBERS c = c.fill.auto.members

pub returns-then-members-lt-MEMBERS : goal.returns-then-members-lt-MEMBERS
returns-then-members-lt-MEMBERS c = linked_short _ _ _ c.fill.ensures (omega (arith, c.if-members-lt-MEMBERS.true))

pub loop-g-init : goal.loop-g-init
loop-g-init c = (omega (arith, c.put_bits.ensures.len), linking_start _ _)

pub put_group-requires : goal.put_group-requires
put_group-requires c = record { in_bounds = omega (arith, c.loop-g.invariant.0, c.loop-g.invariant.1.len); e_le_element_limit = (omega arith, omega (arith, c.loop-g.auto.g)) }

pub loop-g-preserved : goal.loop-g-preserved
loop-g-preserved c = let i = c.loop-g.invariant in
    (i.0, linking_on _ _ _ _ _ _ i.1 (omega (arith, c.loop-g-test.true)) (omega (arith, c.loop-g.auto.g)) c.put_group.ensures)

pub shape_of-members : goal.shape_of-members
shape_of-members c = c.loop-g.invariant.1.len ∙ c.put_bits.ensures.len ∙ c.fill.auto.members

pub returns : goal.returns
returns c = linked_all _ _ _ _ _ _ _ c.fill.ensures c.needed_of-b.ensures c.put_bits.ensures (omega (arith, c.loop-g-test.false)) c.loop-g.invariant.1
