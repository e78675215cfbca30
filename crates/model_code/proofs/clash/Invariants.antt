-- `clash` meets its contract. The invariant: the stack is what the numbers read so far leave.
use Rattle.model_code.specs.Stack.{Passed}
use Rattle.model_code.proofs.clash.Given as goal

abbrev pub invariant-loop-i : goal.invariant-loop-i
invariant-loop-i l = Passed l.table l.p l.q l.i l.stack l.top
