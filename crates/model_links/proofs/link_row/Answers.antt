use mathlib.Core.Path.{refl}
use Rattle.model_links.specs.Each.{each_turn, each_end}
use Rattle.model_links.proofs.link_row.Goals as goal

pub loop-p-init : goal.loop-p-init
loop-p-init c = refl

pub loop-p-preserved : goal.loop-p-preserved
loop-p-preserved c = each_turn _ _ _ _ _ _ c.link_cell.ensures c.loop-p-test.true c.loop-p.invariant

pub returns : goal.returns
returns c = each_end _ _ _ _ _ c.loop-p-test.false c.loop-p.invariant
