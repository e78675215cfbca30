-- `find` meets its contract. The invariant: whatever is indexed, k is in the bucket of the name, and the answer and the count are what n and the elements from k on give.
-- Each element follows the one before, so that the search ends, and no more are counted than are passed.
use Rattle.std.proofs.Common.{◌≡◌, ◌-◌, ◌≤◌, true, List}
use Rattle.rules.specs.Bytes.{byte_at, letter, element_limit}
use Rattle.rules.specs.TypeFile.{Element}
use Rattle.element_index.specs.Indexed.{Indexed}
use Rattle.element_index.specs.Seeking.{Seeks}
use Rattle.element_index.proofs.find.Given as goal

abbrev pub invariant-loop-k : goal.invariant-loop-k
invariant-loop-k l =
    (l.n ≤ l.before.0)
    × (l.before.0 ≤ element_limit)
    × (letter (byte_at l.t l.at) ≡ true)
    × ((es : List Element) → Indexed l.s es l.elements l.index → Seeks l.s es l.t l.at l.size l.before.0 l.k.0 l.n)

abbrev pub decreases-loop-k : goal.decreases-loop-k
decreases-loop-k l = element_limit - l.before.0
