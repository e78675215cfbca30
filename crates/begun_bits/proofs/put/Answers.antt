-- `put` meets its contract: the three words of the level are written.
use native.Mathlib.Omega.{arith}
use Rattle.begun_bits.specs.Stores.{puts}
use Rattle.begun_bits.proofs.put.Goals as goal

pub returns : goal.returns
returns c = puts _ _ _ _ _ _ _ _ _ (omega arith) c.told-begun (omega arith) (omega arith) (omega arith) (omega arith) (omega arith) (omega arith)
