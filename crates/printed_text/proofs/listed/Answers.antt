-- `printed_text::listed` gives the records of the attributes: a type that is accepted is not refused here, and has room.
use Rattle.std.proofs.Common.{ap}
use Rattle.type_judge.specs.Decides.{answer_of}
use Rattle.printed_text.specs.Listed.{listed_given, listed_in, listed_not, refusal_names}
use Rattle.printed_text.proofs.listed.Goals as goal

pub returns-in-Ok : goal.returns-in-Ok
returns-in-Ok c =
    let (es, accepted) = c.requires.0 in
    listed_in _ _ c.requires.1 es accepted (listed_given c.given.ensures c.list.ensures) _ (ap answer_of c.in-Ok.is)

pub returns-in-Err : goal.returns-in-Err
returns-in-Err c =
    let (es, accepted) = c.requires.0 in
    absurd (listed_not _ _ c.requires.1 es accepted (listed_given c.given.ensures c.list.ensures) (ap answer_of c.in-Err.is) (refusal_names _))
