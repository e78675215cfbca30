-- `ends` meets its contract. The invariant: what is settled from the state come to is what is settled from the first; the measure is how many are open.
use Rattle.inferring.specs.Inferring.{Turns}
use Rattle.inferring.proofs.ends.Given as goal

abbrev pub invariant-loop-w : goal.invariant-loop-w
invariant-loop-w l = Turns l.t.rows.now l.t.places.now l.t.facts.now l.t.members.now l.begun l.x.0 l.at l.n l.initial.o l.initial.numbers l.initial.bytes l.o l.m l.numbers l.bytes

abbrev pub decreases-loop-w : goal.decreases-loop-w
decreases-loop-w l = l.o.count
