-- `closes` meets its contract.
use Rattle.list_definitions.specs.OneByOne.{closes_other, closes_first}
use Rattle.list_definitions.proofs.closes.Goals as goal

pub returns-then-b-ne62 : goal.returns-then-b-ne62
returns-then-b-ne62 c = closes_other c.args.b c.args.n c.if-b-ne62.true

pub returns : goal.returns
returns c = closes_first c.args.b c.args.n c.if-b-ne62.false
