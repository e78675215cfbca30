-- `read_to_bytes` meets its contract: what was answered is settled in the buffer.
use Rattle.inputs.specs.Checks.{settings_of}
use Rattle.document_reader.proofs.read_to_bytes.Goals as goal

pub returns : goal.returns
returns c =
    let (r, n) = c.settled.ensures (settings_of c.args.c) c.args.s.now c.args.d.now c.args.buffer.now c.answered-v.auto.bytes c.answered-v.ensures in
    record { read_as = r; count_fits = n }
