-- `put_attribute` meets its contract: both buffers get the event's numbers behind those of n events.
use mathlib.Core.Path.{refl}
use Rattle.event_buffer.specs.EventByEvent.{puts_noted}
use Rattle.event_buffer.proofs.put_attribute.Goals as goal

pub returns : goal.returns
returns c = let a = c.args in
    (refl, puts_noted a.numbers.now a.bytes.now a.n a.kind a.attribute.0 a.at a.size 0 c.note_numbers.ensures c.note_bytes.ensures)
