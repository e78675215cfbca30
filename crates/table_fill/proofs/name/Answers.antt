-- `name` meets its contract: what the place holds is `#PCDATA`, or a name that is looked up.
use mathlib.Core.Path.{sym, ◌∙◌}
use native.Mathlib.Omega.{arith}
use borrow.Author.Tests.{eq-eqb}
use Rattle.table_fill.specs.Names.{name_some, name_fits}
use Rattle.table_fill.proofs.name.Goals as goal

pub returns-then-size-eq0 : goal.returns-then-size-eq0
returns-then-size-eq0 c = record { result_value = (λ es indexed. simp (eq-eqb _ _ (sym c.widened-size.ensures.0 ∙ c.if-size-eq0.true))); result_bound = (omega arith, omega arith) }

pub find-requires : goal.find-requires
find-requires c = (omega arith, omega arith, omega arith)

pub returns : goal.returns
returns c = record { result_value = (λ es indexed. name_some _ es _ _ _ _ c.widened-size.ensures.0 c.place_at-at.ensures.0 c.if-size-eq0.false (c.find.ensures.element_value es indexed).0); result_bound = name_fits _ c.find.ensures.element_le_element_limit.0 }
