-- `fill_index` meets its contract. The invariant: whatever is recorded, the elements above k are indexed.
use Rattle.std.proofs.Common.{◌≡◌, ◌≤◌, List, length}
use Rattle.rules.specs.Settings.{Settings}
use Rattle.rules.specs.TypeFile.{Element}
use Rattle.rules.specs.Judge.{Accepts}
use Rattle.rules.specs.Bytes.{element_limit}
use Rattle.element_reader.specs.Keeps.{Recorded}
use Rattle.element_index.specs.Seeking.{Filled}
use Rattle.element_index.proofs.fill_index.Given as goal

abbrev pub invariant-loop-k : goal.invariant-loop-k
invariant-loop-k l =
    (l.k ≤ l.count)
    × (l.count ≤ element_limit)
    × ((e : Settings) (es : List Element) → Accepts e l.s es → length es ≡ l.count → Recorded l.elements es → Filled l.s es l.index l.k)
