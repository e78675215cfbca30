-- `is_none` meets its contract.
use Rattle.member_bits.specs.Operations.{is_none}
use Rattle.member_bits.proofs.Bits.is_none.Goals as goal

pub returns : goal.returns
returns c = is_none _
