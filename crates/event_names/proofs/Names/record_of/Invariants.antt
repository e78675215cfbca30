-- `record_of` finds the record. The invariant: what is left of the records gives the answer.
use Rattle.std.proofs.Common.{◌≡◌}
use Rattle.event_names.specs.Names.{record_of}
use Rattle.event_names.specs.Naming.{record_left}
use Rattle.event_names.proofs.Names.record_of.Given as goal

abbrev pub invariant-loop-k : goal.invariant-loop-k
invariant-loop-k l =
    let t = l.self.attributes.now in
    let total = l.self.total in
    record_left t total l.e l.a l.k ≡ record_of t total l.e l.a
