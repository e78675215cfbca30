-- `put_event` meets its contract: both buffers get the event's numbers behind those of n events, or over those of the last.
use mathlib.Core.Path.{refl}
use Rattle.event_buffer.specs.EventByEvent.{puts_noted, over_noted}
use Rattle.event_buffer.proofs.put_event.Goals as goal

pub returns : goal.returns
returns c = let a = c.args in
    let noted = c.note_numbers.ensures in
    let stored = c.note_bytes.ensures in (
      refl,
      puts_noted a.numbers.now a.bytes.now a.n a.kind a.element.0 a.at a.size a.place.0 noted stored,
      over_noted a.numbers.now a.bytes.now a.n a.kind a.element.0 a.at a.size a.place.0 noted stored,
    )
