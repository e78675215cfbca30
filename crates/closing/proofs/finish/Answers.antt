-- `finish` meets its contract: each way by what the loop leaves and the tables answer.
use borrow.Author.Tests.{not-true, not-false}
use Rattle.open_elements.specs.Becomes.{passed_on}
use Rattle.closing.specs.Ways.{end_refused, end_unfinished, end_finished}
use Rattle.closing.proofs.finish.Goals as goal

pub returns-in_err-l : goal.returns-in_err-l
returns-in_err-l c = rw (passed_on _ c.from_residual.ensures.1) (end_refused c.requires.0.few c.in_err-l.ensures)

pub returns-then-not-left : goal.returns-then-not-left
returns-then-not-left c = end_unfinished c.requires.0.few c.in_ok-l.ensures (not-true _ c.if-not-left.true)

pub returns : goal.returns
returns c = end_finished c.requires.0.few c.in_ok-l.ensures (not-false _ c.if-not-left.false)
