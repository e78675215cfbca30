-- `bitor` meets its contract.
use Rattle.member_bits.specs.Operations.{has_joined}
use Rattle.member_bits.proofs.BitsBitOr.bitor.Goals as goal

pub returns : goal.returns
returns c = λ f k. has_joined _ _ f k
