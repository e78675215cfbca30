-- `is_over` meets its contract: by its one test.
use borrow.Author.Tests.{eq-eqb, ne_eqb}
use Rattle.ways.proofs.is_over.Goals as goal

pub returns-then-e-ne0 : goal.returns-then-e-ne0
returns-then-e-ne0 c = rw (ne_eqb _ _ c.if-e-ne0.true)

pub returns : goal.returns
returns c = rw (eq-eqb _ _ c.if-e-ne0.false)
