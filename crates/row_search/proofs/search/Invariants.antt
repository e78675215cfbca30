use Prim.Native.Nat.{ℕ, ◌≤◌}
use mathlib.Core.Bool.{Bool}
use Rattle.rules.specs.Bytes.{GRPGTCNT}
use Rattle.row_search.specs.Search.{Seeks}
use Rattle.row_search.proofs.search.Given as goal

abbrev pub invariant-loop-q : goal.invariant-loop-q
invariant-loop-q g l = (l.q.0 ≤ GRPGTCNT) × Seeks (λ (q : ℕ) (b : Bool). goal.F-post g l.may_come (record { 0 = q }) b) l.places l.e.0 l.initial.q.0 l.q.0

abbrev pub decreases-loop-q : goal.decreases-loop-q
decreases-loop-q g l = l.q.0
