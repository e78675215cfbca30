-- `printed_text::printed` puts the text that the rules decide into the buffer: that of the events, or of the refusal.
use Rattle.std.proofs.Common.{refl, ap, arith}
use Rattle.one_document.specs.Answer.{answer_of}
use Rattle.rules.specs.Printed.{events}
use Rattle.file_reader.specs.Loading.{counts_of}
use Rattle.printed_text.specs.Answers.{read_given, accepted_read, prints_refusal, refused_names}
use Rattle.printed_text.proofs.printed.Goals as goal

pub put_events-requires : goal.put_events-requires
put_events-requires c =
    let read = accepted_read _ _ _ _ _ _ refl (read_given c.given.ensures c.read.ensures.read_as) _ (ap answer_of c.in-Ok.is) in
    (omega arith, (read.elements, read.reads.accepted), omega (arith, read.count, read.fits))

pub returns-in-Ok : goal.returns-in-Ok
returns-in-Ok c =
    let read = accepted_read _ _ _ _ _ _ refl (read_given c.given.ensures c.read.ensures.read_as) _ (ap answer_of c.in-Ok.is) in
    let said = c.put_events.ensures in
    (said.0, events read.elements read.evs read.reads read.fits (said.1 read.elements read.evs read.rest read.reads.accepted read.written read.count))

pub returns-in-Err : goal.returns-in-Err
returns-in-Err c =
    let said = c.put_refused.ensures in
    (counts_of _ _ said.0, prints_refusal _ _ _ _ _ refl (read_given c.given.ensures c.read.ensures.read_as) (ap answer_of c.in-Err.is) (refused_names _) said.1)
