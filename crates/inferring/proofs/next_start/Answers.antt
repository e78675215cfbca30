-- `next_start` meets its contract: it is what the tables answer.
use Rattle.open_elements.specs.Methods.{stands_required}
use Rattle.inferring.proofs.next_start.Goals as goal

pub returns : goal.returns
returns c = (
  λ s es rows M begun tables z stands. c.startable.ensures.by_index s es rows M tables z.current begun _ _ stands.current.entered (stands_required stands s),
  c.startable.ensures.result_le_element_limit,
)
