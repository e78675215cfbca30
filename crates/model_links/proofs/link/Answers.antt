use mathlib.Core.Path.{refl}
use Rattle.model_links.specs.Each.{each_turn, each_end}
use Rattle.model_links.proofs.link.Goals as goal

pub loop-u-init : goal.loop-u-init
loop-u-init c = refl

pub loop-u-preserved : goal.loop-u-preserved
loop-u-preserved c = each_turn _ _ _ _ _ _ c.link_from.ensures c.loop-u-test.true c.loop-u.invariant

pub returns : goal.returns
returns c = each_end _ _ _ _ _ c.loop-u-test.false c.loop-u.invariant
