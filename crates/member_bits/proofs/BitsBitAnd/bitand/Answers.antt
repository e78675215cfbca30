-- `bitand` meets its contract.
use Rattle.member_bits.specs.Operations.{has_common}
use Rattle.member_bits.proofs.BitsBitAnd.bitand.Goals as goal

pub returns : goal.returns
returns c = λ f k. has_common _ _ f k
