-- `count` meets its contract: a list has at most ATTCNT attributes.
use mathlib.Core.Path.{refl, ◌∙◌}
use native.Mathlib.Omega.{arith}
use Rattle.list_table.proofs.count.Goals as goal

pub returns-then-e-eq0 : goal.returns-then-e-eq0
returns-then-e-eq0 c = (λ o s xs h a. absurd (omega (arith, h, c.if-e-eq0.true)), omega arith, λ z. refl)

pub returns-then-n-gt-ATTCNT : goal.returns-then-n-gt-ATTCNT
returns-then-n-gt-ATTCNT c = (λ o s xs h a. absurd (omega (arith, c.number-n.ensures.0, a.counted, a.few, c.if-n-gt-ATTCNT.true)), omega arith, λ z. refl)

pub returns : goal.returns
returns c = (λ o s xs h a. c.number-n.ensures.0 ∙ a.counted, c.if-n-gt-ATTCNT.false, λ z. omega arith)
