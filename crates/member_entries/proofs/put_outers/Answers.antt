use mathlib.Core.Path.{refl, ◌∙◌}
use Rattle.member_entries.specs.Writes.{outers_turn, outers_end}
use Rattle.member_entries.proofs.put_outers.Goals as goal

pub loop-g-init : goal.loop-g-init
loop-g-init c = (refl, refl)

pub loop-g-preserved : goal.loop-g-preserved
loop-g-preserved c = let i = c.loop-g in
    (c.put_outer.auto.members ∙ i.invariant.0, outers_turn _ _ _ _ _ _ _ _ _ _ _ _ _ c.put_outer.ensures c.wide.ensures.0 c.loop-g-test.true i.invariant.1)

pub shape_of-members : goal.shape_of-members
shape_of-members c = c.loop-g.invariant.0

pub returns : goal.returns
returns c = outers_end _ _ _ _ _ _ _ _ _ _ _ c.loop-g-test.false c.loop-g.invariant.1
