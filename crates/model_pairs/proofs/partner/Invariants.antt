-- `partner` meets its contract. The invariant: no place after `p` before `q` is at fault with it, so what is still to be searched gives the answer, and `q` has the name of `p`.
use Prim.Native.Nat.{ℕ, ◌+◌, ◌-◌, ◌≤◌, ◌<◌}
use mathlib.Core.Path.{◌≡◌}
use mathlib.Core.Bool.{Bool, true}
use Rattle.rules.specs.Judge.{same_place}
use Rattle.rules.specs.Bytes.{GRPGTCNT}
use Rattle.model_names.specs.Places.{places_of}
use Rattle.model_pairs.specs.Rows.{Tells}
use Rattle.model_pairs.specs.Seeks.{Seeks}
use Rattle.model_pairs.proofs.partner.Given as goal

abbrev pub invariant-loop-q : goal.invariant-loop-q
invariant-loop-q l = ((F : ℕ → ℕ → Bool) → Tells l.m.table.now l.m.n l.m.code l.m.and F → Seeks l.m.s.now l.m.names.now F l.m.n l.p l.q) × (l.p < l.q) × (l.q ≤ l.m.n) × (same_place l.m.s.now (places_of l.m.names.now l.m.n) l.p l.q ≡ true) × (1 ≤ l.p) × (l.m.n ≤ GRPGTCNT)

abbrev pub decreases-loop-q : goal.decreases-loop-q
decreases-loop-q l = l.m.n + 1 - l.q
