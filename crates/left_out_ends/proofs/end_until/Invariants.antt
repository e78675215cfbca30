use Rattle.left_out_ends.specs.Loop.{Goes}
use Rattle.left_out_ends.proofs.end_until.Given as goal

abbrev pub invariant-loop-o : goal.invariant-loop-o
invariant-loop-o l = Goes l.facts l.x.0 l.at l.n l.initial.o l.initial.numbers l.initial.bytes l.o l.k l.numbers l.bytes

abbrev pub decreases-loop-o : goal.decreases-loop-o
decreases-loop-o l = l.o.count
