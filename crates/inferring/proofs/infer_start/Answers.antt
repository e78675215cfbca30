-- `infer_start` meets its contract: the required place is taken, the element opened there, and its start noted.
use Rattle.open_elements.specs.Methods.{stands_required}
use Rattle.inferring.proofs.infer_start.Goals as goal

pub returns : goal.returns
returns c = record {
  k = c.startable-k.result.0;
  few = c.startable-k.ensures.result_le_element_limit;
  starting = c.start_required.ensures;
  puts = rw c.place_shown-shown.ensures.0 at c.put_event.ensures.1;
  chosen = λ s es tables z stands.
      c.startable-k.ensures.by_index s es _ _ tables z.current _ _ _ stands.current.entered (stands_required stands s);
}
