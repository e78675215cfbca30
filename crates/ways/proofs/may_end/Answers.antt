-- `may_end` meets its contract: each test is one of step 3.
use mathlib.Core.Path.{◌∙◌}
use native.Mathlib.Omega.{arith}
use borrow.Author.Tests.{not-true, not-false}
use Rattle.open_elements.specs.Methods.{stands_declared}
use Rattle.ways.specs.Ends.{document_stays, incomplete_stays, ends_in_parent}
use Rattle.ways.proofs.may_end.Goals as goal

pub returns-then-o-le1-clause-may_end : goal.returns-then-o-le1-clause-may_end
returns-then-o-le1-clause-may_end c = λ s es raised facts M begun z stands. document_stays s stands (omega (arith, c.if-o-le1.true))

pub returns-then-not-o-clause-may_end : goal.returns-then-not-o-clause-may_end
returns-then-not-o-clause-may_end c = λ s es raised facts M begun z stands. incomplete_stays s stands (omega (arith, c.if-o-le1.false)) (not-true _ c.if-not-o.true)

pub returns-clause-may_end : goal.returns-clause-may_end
returns-clause-may_end c =
    let inner = c.if-o-le1.false in
    λ s es raised facts M begun z stands. c.end_omitted.ensures s es raised facts (stands_declared stands (omega (arith, inner))) ∙ ends_in_parent s stands (omega (arith, inner)) (not-false _ c.if-not-o.false)
