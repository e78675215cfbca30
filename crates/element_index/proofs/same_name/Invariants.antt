-- `same_name` meets its contract. The invariant: where the first bytes are the same, what is left to compare is the same as the whole was.
use Rattle.std.proofs.Common.{◌≡◌, ◌+◌, ◌-◌}
use Rattle.rules.specs.Bytes.{byte_at, fold, same_text}
use Rattle.element_index.proofs.same_name.Given as goal

abbrev pub invariant-loop-i : goal.invariant-loop-i
invariant-loop-i l = fold (byte_at l.s l.a) ≡ fold (byte_at l.t l.b) → same_text l.s (l.a + l.i) l.t (l.b + l.i) (l.n - l.i) ≡ same_text l.s l.a l.t l.b l.n
