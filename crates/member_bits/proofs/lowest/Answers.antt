-- `lowest` meets its contract: std counts the zeros below it.
use native.Mathlib.Omega.{arith}
use Rattle.member_bits.specs.Bits.{lowest_of}
use Rattle.member_bits.proofs.lowest.Goals as goal

pub returns : goal.returns
returns c = lowest_of _ (omega arith) (omega arith)
