use Rattle.std.proofs.Common.{sym, arith}
use Rattle.rules.specs.Lent.{bytes_of}
use Rattle.numbers.specs.Stores.{splice_none, bytes_turn}
use Rattle.numbers.proofs.put_bytes.Goals as goal

pub loop-k-init : goal.loop-k-init
unfolding bytes_of
loop-k-init c = sym (splice_none c.args.buffer.now 0)

pub loop-k-preserved : goal.loop-k-preserved
loop-k-preserved c = let a = c.args in
    bytes_turn a.table.now a.buffer.now c.loop-k.buffer 0 c.loop-k.k _ (omega arith) c.loop-k.invariant
    (omega arith) (omega arith) c.put_number.ensures
