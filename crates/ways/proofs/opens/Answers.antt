-- `opens` meets its contract: data opens nothing.
use mathlib.Core.Path.{refl}
use native.Mathlib.Omega.{arith}
use Rattle.ways.proofs.opens.Goals as goal

pub returns-then-x-eq0 : goal.returns-then-x-eq0
returns-then-x-eq0 c = (λ e. refl, λ s es raised f d. absurd (omega (arith, d.0, c.if-x-eq0.true)))

pub returns : goal.returns
returns c = (λ e. absurd (c.if-x-eq0.false e), c.has_model.ensures)
