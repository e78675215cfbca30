use Prim.Native.Nat.{◌≤◌}
use Rattle.rules.specs.Bytes.{element_limit}
use Rattle.ways.specs.Chains.{Carries}
use Rattle.ways.proofs.chain.Given as goal

abbrev pub invariant-loop-n : goal.invariant-loop-n
invariant-loop-n l = (l.c.0 ≤ element_limit) × Carries l.t.rows.now l.t.places.now l.t.facts.now l.x.0 l.initial.c.0 l.c.0 l.n
