-- `judged` meets its contract: the type is judged, and the document put in its order with it.
use Rattle.inputs.specs.Checks.{settings_of}
use Rattle.one_document.specs.Answering.{judges_as}
use Rattle.document_reader.proofs.judged.Goals as goal

pub returns : goal.returns
returns c =
    let j = c.judged in
    judges_as _ _ _ j.new.elements j.new.heads j.result c.in_order.result j.ensures (c.in_order.ensures (settings_of c.args.c) c.args.s.now j.new.elements j.new.heads j.ensures)
