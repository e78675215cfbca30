-- `numbers_of` meets its contract: the judge's answer is given as the reader's.
use mathlib.Core.Path.{ap, ◌∙◌}
use Rattle.rules.specs.Calls.{answer_numbers}
use Rattle.sgml.specs.AnswersFit.{given_fits, given_same}
use Rattle.sgml.proofs.numbers_of.Goals as goal

pub numbers_read-requires : goal.numbers_read-requires
numbers_read-requires c = given_fits c.args.v c.map_err.result c.map_err.ensures.cases c.requires

pub returns : goal.returns
returns c = c.numbers_read.ensures ∙ ap answer_numbers (given_same c.args.v c.map_err.result c.map_err.ensures.cases)
