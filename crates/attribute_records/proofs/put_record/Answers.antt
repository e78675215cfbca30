-- `put_record` puts the nine numbers to each buffer.
use Rattle.std.proofs.Common.{ℕ, ◌*◌, ◌≡◌, refl, sym, ap, List, length, arith}
use Rattle.rules.specs.Lent.{bytes_of}
use Rattle.numbers.specs.Stores.{bytes_of_length}
use Rattle.event_buffer.specs.EventByEvent.{written_so}
use Rattle.attribute_records.specs.ListByList.{puts_record}
use Rattle.attribute_records.proofs.put_record.Goals as goal

pub returns : goal.returns
returns c =
    let a = c.args in
    let row = c.row_numbers-row in
    let nine : 9 ≡ length row.result = sym (ap (λ (l : List ℕ). length l) row.ensures) in
    let noted = written_so a.numbers.now (9 * a.n) row.result nine refl c.note.ensures.fits c.note.ensures.full in
    let stored = written_so a.bytes.now (36 * a.n) (bytes_of row.result) (omega (arith, nine, bytes_of_length row.result)) c.as_bytes.ensures c.note-2.ensures.fits c.note-2.ensures.full in
    puts_record a.numbers.now a.bytes.now a.n _ row.ensures noted stored
