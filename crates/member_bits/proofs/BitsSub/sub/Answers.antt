-- `sub` meets its contract.
use Rattle.member_bits.specs.Operations.{has_without}
use Rattle.member_bits.proofs.BitsSub.sub.Goals as goal

pub returns : goal.returns
returns c = λ f k. has_without _ _ f k
