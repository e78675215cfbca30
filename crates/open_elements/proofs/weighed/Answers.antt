-- `weighed` meets its contract: a group lacks a member, or the row has the marks.
use mathlib.Core.Path.{refl}
use native.Mathlib.Omega.{arith}
use Rattle.open_elements.proofs.weighed.Goals as goal

pub returns-in-Some : goal.returns-in-Some
returns-in-Some c = let few = c.requires in rw c.in-Some.is (record { held = λ n. (refl, refl); free = λ i. absurd (omega (arith, i, rw c.in-Some.is at few)) })

pub returns-in-None : goal.returns-in-None
returns-in-None c = rw c.in-None.is (record { held = λ n. absurd (n refl); free = λ i. (refl, c.lowered.ensures.0, c.lowered.ensures.1) })
