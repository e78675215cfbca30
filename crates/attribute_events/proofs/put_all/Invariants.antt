-- `put_all` meets its contract. The invariant: the events so far are those of the first k attributes.
use Rattle.attribute_events.specs.PutBefore.{PutsFirst}
use Rattle.attribute_events.proofs.put_all.Given as goal

abbrev pub invariant-loop-k : goal.invariant-loop-k
invariant-loop-k l = PutsFirst l.lists l.marks l.e.0 l.k l.n l.initial.numbers l.initial.bytes l.m l.numbers l.bytes
