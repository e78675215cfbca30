-- `is_apart` meets its contract: after j turns the i-th stretch shares no number with the first j.
use Rattle.std.proofs.Common.{true}
use Rattle.stretches.specs.Fit.{ApartFrom}
use Rattle.stretches.proofs.is_apart.Given as goal

abbrev pub invariant-loop-j : goal.invariant-loop-j
invariant-loop-j l = ApartFrom l.froms l.sizes l.i l.j true
