-- `answered_in_numbers` meets its contract: the document is read under the elements that were judged.
use mathlib.Core.List.{[]}
use Rattle.inputs.specs.Checks.{settings_of}
use Rattle.type_judge.specs.Deciding.{raised}
use Rattle.one_document.specs.Answering.{judged_answers, followed_answers}
use Rattle.document_reader.proofs.answered_in_numbers.Goals as goal

pub returns-in_err-n : goal.returns-in_err-n
returns-in_err-n c = judged_answers (settings_of c.args.c) c.args.s.now c.args.d.now c.args.numbers.now c.args.numbers.now [] [] _ _ c.in_err-n.ensures (raised _ c.from_residual.ensures.1)

pub numbered-requires : goal.numbered-requires
numbered-requires c = (c.in_ok-n.ensures.1, c.in_ok-n.ensures.0.short)

pub returns : goal.returns
returns c = followed_answers (settings_of c.args.c) c.args.s.now c.args.d.now c.args.numbers.now c.numbered.new.numbers [] [] c.in_ok-n.ensures.0 c.numbered.result c.map_err.result c.numbered.ensures c.map_err.ensures.cases
