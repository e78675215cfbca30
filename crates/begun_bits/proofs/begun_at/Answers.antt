-- `begun_at` meets its contract.
use native.Mathlib.Omega.{arith}
use Rattle.begun_bits.specs.Stores.{begun_has}
use Rattle.begun_bits.proofs.begun_at.Goals as goal

pub returns : goal.returns
returns c = let second = c.before.before.before in
    let first = second.before.before in
    let given = first.args in
    begun_has given.begun.now given.level _ _ _ first.widened-a.ensures.0 second.widened-b.ensures.0 c.widened-c.ensures.0 (omega arith) (omega arith) (omega arith)
