-- `name_end` meets its contract. The invariant: the bytes of a name end at the same place from `i` as from the start.
use Prim.Native.Nat.{◌+◌}
use mathlib.Core.Path.{◌≡◌}
use lib.ListN.{drop}
use Rattle.rules.specs.Bytes.{name_byte, span}
use Rattle.tag_attributes.proofs.name_end.Given as goal

abbrev pub invariant-loop-i : goal.invariant-loop-i
invariant-loop-i l = l.i + span name_byte (drop l.i l.s) ≡ l.at + span name_byte (drop l.at l.s)
