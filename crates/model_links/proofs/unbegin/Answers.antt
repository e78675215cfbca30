use mathlib.Core.Path.{refl}
use Rattle.model_links.specs.Each.{each_turn, each_end}
use Rattle.model_links.specs.Links.{unbegin_cell}
use Rattle.model_links.proofs.unbegin.Goals as goal

pub loop-p-init : goal.loop-p-init
loop-p-init c = refl

pub loop-p-preserved : goal.loop-p-preserved
unfolding unbegin_cell
loop-p-preserved c = each_turn unbegin_cell _ _ _ _ _ refl c.loop-p-test.true c.loop-p.invariant

pub returns : goal.returns
returns c = each_end _ _ _ _ _ c.loop-p-test.false c.loop-p.invariant
