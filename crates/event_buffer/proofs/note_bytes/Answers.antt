-- `note_bytes` meets its contract: the five calls store the bytes of the event's numbers.
use Prim.Native.Nat.{◌*◌}
use mathlib.Core.Path.{sym}
use mathlib.Core.List.{◌∷◌, []}
use native.Mathlib.Omega.{arith}
use Rattle.rules.specs.Lent.{bytes_of}
use Rattle.rules.specs.Events.{event_width}
use Rattle.numbers.specs.Stores.{written_not}
use Rattle.event_buffer.specs.EventByEvent.{five_numbers_stored}
use Rattle.event_buffer.proofs.note_bytes.Goals as goal

pub returns-then-i-buffer : goal.returns-then-i-buffer
returns-then-i-buffer c = let a = c.args in
    five_numbers_stored a.buffer.now (4 * event_width * a.n) a.kind a.element a.at a.size a.place (omega arith)
    c.put_number.ensures c.put_number-then-i-buffer.ensures c.put_number-then-i-buffer-2.ensures c.put_number-then-i-buffer-3.ensures c.put_number-then-i-buffer-4.ensures

pub returns-else-i-buffer : goal.returns-else-i-buffer
unfolding bytes_of
returns-else-i-buffer c = let a = c.args in
    sym (written_not a.buffer.now (4 * event_width * a.n) (bytes_of (a.kind ∷ a.element ∷ a.at ∷ a.size ∷ a.place ∷ [])) (omega arith))
