-- `above` meets its contract.
use native.Mathlib.Omega.{arith}
use Rattle.member_bits.specs.Operations.{above_low, above_high}
use Rattle.member_bits.proofs.Bits.above.Goals as goal

pub returns-then-x-lt64 : goal.returns-then-x-lt64
returns-then-x-lt64 c = λ f w. above_low _ f w _ (omega arith)

pub returns-else-x-lt64 : goal.returns-else-x-lt64
returns-else-x-lt64 c = λ f w. above_high _ f w _ (omega arith) (omega arith) _ (omega arith)
