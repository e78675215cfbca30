-- `raise_facts` meets its contract. The invariant: the first x are raised, whichever element has its facts there.
use Prim.Native.Nat.{ℕ, ◌*◌, ◌≤◌}
use mathlib.Core.Path.{◌≡◌}
use mathlib.Core.Bool.{true}
use Rattle.rules.specs.Bytes.{element_limit}
use Rattle.layout.specs.Sizes.{FACT}
use Rattle.table_fill.specs.Filled.{LargestPut}
use Rattle.table_fill.proofs.raise_facts.Given as goal

abbrev pub invariant-loop-x : goal.invariant-loop-x
invariant-loop-x l = (e : ℕ) → e ≤ element_limit → l.f ≡ e * FACT → LargestPut true e l.initial.facts l.facts l.x
