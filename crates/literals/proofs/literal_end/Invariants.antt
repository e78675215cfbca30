-- `literal_end` meets its contract. The invariant: what ends the literal from `e` on ends it from its first
-- byte on.
use Rattle.std.proofs.Common.{◌≡◌, ◌+◌, drop}
use Rattle.rules.specs.Bytes.{byte_at}
use Rattle.rules.specs.Attributes.{in_literal}
use Rattle.literals.proofs.literal_end.Given as goal

abbrev pub invariant-loop-e : goal.invariant-loop-e
invariant-loop-e l =
    let q = byte_at l.s l.i in
    l.e + in_literal q (drop l.e l.s) ≡ l.i + 1 + in_literal q (drop (l.i + 1) l.s)
