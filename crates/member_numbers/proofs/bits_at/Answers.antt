-- `bits_at` meets its contract.
use native.Mathlib.Omega.{arith}
use Rattle.member_numbers.specs.Words.{has_bits}
use Rattle.member_numbers.proofs.bits_at.Goals as goal

pub returns : goal.returns
returns c = has_bits _ _ _ _ _ _ _ (omega arith) (omega arith) c.word-a.ensures c.word-b.ensures c.word-c.ensures
