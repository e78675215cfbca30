-- `events_of` meets its contract. The invariant of the loop: reading has come to `at` with these elements open, and the events so far are in the
-- buffers; the measure is how much of the document is left. That of the inferred starts: what is left to infer comes to the same as all of them.
use Prim.Native.Nat.{◌-◌}
use lib.ListN.{length}
use Rattle.rules.specs.Settings.{settings}
use Rattle.inferring.specs.Starts.{Along}
use Rattle.document_events.specs.Loop.{Going}
use Rattle.document_events.proofs.events_of.Given as goal

abbrev pub invariant-loop-k : goal.invariant-loop-k
invariant-loop-k l = Along l.t.tables.rows.now l.t.tables.places.now l.t.tables.facts.now l.t.tables.members.now l.t.lists.now l.at l.initial.m l.starts l.k l.initial.o l.initial.begun l.initial.numbers l.initial.bytes l.m l.o l.begun l.numbers l.bytes

abbrev pub invariant-loop-at : goal.invariant-loop-at
invariant-loop-at l = Going (settings l.t.long l.t.edition) l.t.file.now l.t.elements.now l.t.index.now l.t.tables.rows.now l.t.tables.places.now l.t.tables.facts.now l.t.tables.members.now l.t.lists.now l.d l.begun l.initial.numbers l.numbers l.initial.bytes l.bytes l.n l.at l.line.since l.line.mark l.from l.o

abbrev pub decreases-loop-at : goal.decreases-loop-at
decreases-loop-at l = length l.d - l.at
