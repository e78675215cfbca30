-- `with` meets its contract.
use native.Mathlib.Omega.{arith}
use Rattle.member_bits.specs.Operations.{with_low, with_high}
use Rattle.member_bits.proofs.Bits.with.Goals as goal

pub returns-then-h-le64 : goal.returns-then-h-le64
returns-then-h-le64 c = λ f w. with_low _ _ f w (omega arith) _ (omega arith) (omega arith)

pub returns-else-h-le64 : goal.returns-else-h-le64
returns-else-h-le64 c = λ f w. with_high _ _ f w (omega arith) _ (omega arith) (omega arith) (omega arith)
