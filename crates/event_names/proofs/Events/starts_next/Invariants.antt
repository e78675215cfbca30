-- `starts_next` finds the next start. The invariant: the events from j on give the answer.
use Rattle.std.proofs.Common.{◌≡◌}
use Rattle.event_names.specs.Names.{starts_at}
use Rattle.event_names.proofs.Events.starts_next.Given as goal

abbrev pub invariant-loop-j : goal.invariant-loop-j
invariant-loop-j l =
    starts_at l.self.numbers.now l.j l.self.count ≡ starts_at l.self.numbers.now l.k l.self.count
