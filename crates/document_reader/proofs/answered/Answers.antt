-- `answered` meets its contract: the document is read under the elements that were judged.
use mathlib.Core.List.{[]}
use Rattle.inputs.specs.Checks.{settings_of}
use Rattle.type_judge.specs.Deciding.{raised}
use Rattle.one_document.specs.Answering.{judged_answers, followed_answers}
use Rattle.document_reader.proofs.answered.Goals as goal

pub returns-in_err-n : goal.returns-in_err-n
returns-in_err-n c = judged_answers (settings_of c.args.c) c.args.s.now c.args.d.now [] [] c.args.bytes.now c.args.bytes.now _ _ c.in_err-n.ensures (raised _ c.from_residual.ensures.1)

pub read_under-requires : goal.read_under-requires
read_under-requires c = (c.in_ok-n.ensures.1, c.in_ok-n.ensures.0.short)

pub returns : goal.returns
returns c = followed_answers (settings_of c.args.c) c.args.s.now c.args.d.now [] [] c.args.bytes.now c.read_under.new.bytes c.in_ok-n.ensures.0 c.read_under.result c.map_err.result c.read_under.ensures c.map_err.ensures.cases
