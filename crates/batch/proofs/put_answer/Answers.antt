-- `put_answer` meets its contract: the six numbers stand in the answer's own stretch.
use Rattle.batch_laws.specs.Turns.{six_put}
use Rattle.batch.proofs.put_answer.Goals as goal

pub returns : goal.returns
returns c = six_put _ c.numbers_read-six.result _ _ _ c.requires.2 c.numbers_read-six.ensures c.put_numbers.ensures
