-- `same_text` meets its contract. The invariant: what is left to compare is the same as the whole was.
use Prim.Native.Nat.{◌+◌, ◌-◌}
use mathlib.Core.Path.{◌≡◌}
use Rattle.rules.specs.Bytes.{same_text}
use Rattle.words.proofs.same_text.Given as goal

abbrev pub invariant-loop-k : goal.invariant-loop-k
invariant-loop-k l = same_text l.s (l.a + l.k) l.t (l.b + l.k) (l.n - l.k) ≡ same_text l.s l.a l.t l.b l.n
