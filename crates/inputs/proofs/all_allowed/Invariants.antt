-- `all_allowed` meets its contract: `bad` is 0 exactly where the bytes that were looked at are allowed.
use Rattle.inputs.specs.Looking.{Looked}
use Rattle.inputs.proofs.all_allowed.Given as goal

abbrev pub invariant-loop-b : goal.invariant-loop-b
invariant-loop-b l = Looked l.d l.bad l.b-index
