-- `all_apart` meets its contract: after i turns no two of the first i stretches share a number.
use Rattle.std.proofs.Common.{true}
use Rattle.stretches.specs.Fit.{AllApart}
use Rattle.stretches.proofs.all_apart.Given as goal

abbrev pub invariant-loop-i : goal.invariant-loop-i
invariant-loop-i l = AllApart l.froms l.sizes l.i true
