use mathlib.Core.Path.{refl, ◌∙◌}
use Rattle.member_entries.specs.Writes.{places_turn, places_end}
use Rattle.member_entries.proofs.put_places.Goals as goal

pub loop-u-init : goal.loop-u-init
loop-u-init c = (refl, refl)

pub loop-u-preserved : goal.loop-u-preserved
loop-u-preserved c = let i = c.loop-u in
    (c.put_free.auto.members ∙ i.invariant.0, places_turn _ _ _ _ _ _ _ _ _ _ c.put_free.ensures c.mark.ensures c.loop-u-test.true i.invariant.1)

pub shape_of-members : goal.shape_of-members
shape_of-members c = c.loop-u.invariant.0

pub returns : goal.returns
returns c = places_end _ _ _ _ _ _ _ _ c.loop-u-test.false c.loop-u.invariant.1
