-- `fitted` meets its contract: each way by what is known of the answer there.
use Rattle.one_document.specs.Answering.{fitted_none, fitted_all, fitted_other}
use Rattle.type_judge.specs.Deciding.{raised}
use Rattle.one_document.proofs.fitted.Goals as goal

pub returns-in_err-count : goal.returns-in_err-count
returns-in_err-count c = fitted_other c.args.a _ c.args.room _ c.in_err-count.was (raised _ c.from_residual.ensures.1)

pub returns-then-room-count : goal.returns-then-room-count
returns-then-room-count c = fitted_none c.args.a _ c.args.room _ c.in_ok-count.was c.if-room-count.true c.at.ensures

pub returns : goal.returns
returns c = fitted_all c.args.a c.args.room _ c.in_ok-count.was c.if-room-count.false
