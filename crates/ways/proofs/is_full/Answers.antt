-- `is_full` meets its contract: data needs no room.
use mathlib.Core.Path.{refl}
use Rattle.ways.proofs.is_full.Goals as goal

pub returns-then-x-eq0 : goal.returns-then-x-eq0
returns-then-x-eq0 c = (λ e. refl, λ n. absurd (n c.if-x-eq0.true))

pub returns : goal.returns
returns c = (λ e. absurd (c.if-x-eq0.false e), λ n. refl)
