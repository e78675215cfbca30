-- `all_within` meets its contract: after i turns the first i stretches end within.
use Rattle.std.proofs.Common.{true}
use Rattle.stretches.specs.Fit.{AllWithin}
use Rattle.stretches.proofs.all_within.Given as goal

abbrev pub invariant-loop-i : goal.invariant-loop-i
invariant-loop-i l = AllWithin l.froms l.sizes l.room l.i true
