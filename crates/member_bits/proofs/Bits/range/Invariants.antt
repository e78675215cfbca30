-- `range` meets its contract. The invariant: b has the first j of them.
use Rattle.member_bits.specs.Operations.{Ranged}
use Rattle.member_bits.proofs.Bits.range.Given as goal

abbrev pub invariant-loop-j : goal.invariant-loop-j
invariant-loop-j l = Ranged l.b l.from l.j
