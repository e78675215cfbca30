-- `put_bytes` meets its contract: after k turns the bytes of the first k numbers stand at the start, and the rest is as it was.
use Rattle.std.proofs.Common.{◌≡◌, take}
use Rattle.rules.specs.Lent.{bytes_of}
use Rattle.numbers.specs.Stores.{spliced}
use Rattle.numbers.proofs.put_bytes.Given as goal

abbrev pub invariant-loop-k : goal.invariant-loop-k
invariant-loop-k l = l.buffer ≡ spliced l.initial.buffer 0 (bytes_of (take l.k l.table))
