-- `declared` meets its contract. The invariant: whatever is recorded, what is left to look through gives what the whole lookup gives, beside
-- the n names that were compared; those are no more than the records passed.
use Rattle.std.proofs.Common.{◌≡◌, ◌≤◌, List, length}
use Rattle.rules.specs.TypeFile as rules
use Rattle.element_names.specs.Names.{Recorded}
use Rattle.element_names.specs.Records.{Seeks}
use Rattle.element_names.proofs.Elements.declared.Given as goal

abbrev pub invariant-loop-k : goal.invariant-loop-k
invariant-loop-k l = (l.n ≤ l.k) × ((es : List rules.Element) → length es ≡ l.self.count → Recorded l.self.records.now es → Seeks l.s es l.at l.size l.k l.n)
