-- `put_number` meets its contract: what is copied are the number's four bytes.
use Rattle.numbers.specs.Stores.{number_stored}
use Rattle.numbers.proofs.put_number.Goals as goal

pub returns : goal.returns
returns c =
    rw (c.copy_from_slice.ensures.after, c.to_le_bytes.ensures)
    (number_stored c.args.buffer.now c.args.i c.args.x c.requires)
