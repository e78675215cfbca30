-- `first` meets its contract.
use native.Mathlib.Omega.{arith}
use Rattle.member_bits.specs.Operations.{first_low, first_high, first_none}
use Rattle.member_bits.proofs.Bits.first.Goals as goal

pub returns-then-self-ne0-clause-value : goal.returns-then-self-ne0-clause-value
returns-then-self-ne0-clause-value c = λ f w. first_low _ f w _ _ (omega arith) c.lowest.ensures.1 c.lowest.ensures.0

pub returns-then-self-ne0-2-clause-value : goal.returns-then-self-ne0-2-clause-value
returns-then-self-ne0-2-clause-value c = λ f w. first_high _ f w _ (omega arith) _ (omega arith) c.lowest-then-self-ne0-2.ensures.1

pub returns-else-self-ne0-2-clause-value : goal.returns-else-self-ne0-2-clause-value
returns-else-self-ne0-2-clause-value c = λ f w. first_none _ f w 0 (omega arith) (omega arith) (omega arith)
