-- `end` meets its contract: the parent is read as it was kept.
use Rattle.open_elements.specs.Methods.{ended_by}
use Rattle.open_elements.proofs.OpenElements.end.Goals as goal

pub returns : goal.returns
returns c = ended_by c.args.self c.number-self.ensures c.wide.ensures.0 c.wide-2.ensures.0
