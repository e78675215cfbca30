-- `start` meets its contract: the current element is kept, and the marks are those of the start of the one that is opened.
use Rattle.open_elements.specs.Methods.{opening_by}
use Rattle.open_elements.proofs.OpenElements.start.Goals as goal

pub returns : goal.returns
returns c = opening_by c.args.rows.now c.args.element c.args.self c.of-kept.ensures c.complete.ensures c.required-self.ensures
