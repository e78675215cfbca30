-- `put_places` meets its contract. The invariant: whatever type is indexed, the places below `i` are filed.
use mathlib.Core.List.{List}
use Rattle.rules.specs.TypeFile.{Element}
use Rattle.model_names.specs.Places.{places_of}
use Rattle.table_fill.specs.Places.{PlacesPut}
use Rattle.element_index.specs.Indexed.{Indexed}
use Rattle.table_fill.proofs.put_places.Given as goal

abbrev pub invariant-loop-i : goal.invariant-loop-i
invariant-loop-i l = (es : List Element) → Indexed l.t.s.now es l.t.elements.now l.t.index.now → PlacesPut l.t.s.now es (places_of l.names l.count) l.e.0 l.initial.places l.initial.facts l.places l.facts l.i
