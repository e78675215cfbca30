-- `prepared` meets its contract: the type is judged, and its tables are filled where it is accepted.
use Rattle.type_judge.specs.Deciding.{raised}
use Rattle.batch_parts.specs.Ready.{ready_stopped}
use Rattle.batch.proofs.prepared.Goals as goal

pub returns-in_err-n : goal.returns-in_err-n
returns-in_err-n c = ready_stopped _ _ _ _ _ _ _ _ _ c.judged.new.heads _ _ c.in_err-n.ensures (raised _ c.from_residual.ensures.1)

pub fill-requires : goal.fill-requires
fill-requires c = record { by_index = (_, c.in_ok-n.ensures); lists_value = c.requires.lists_value; rows_value = c.requires.rows_value }

pub returns : goal.returns
returns c = record { heads = c.judged.new.heads; staged = c.in_ok-n.ensures; tables = c.fill.ensures _ c.in_ok-n.ensures }
