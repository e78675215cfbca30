-- `place_shown` meets its contract: the document itself has the number 0.
use mathlib.Core.Path.{sym}
use native.Mathlib.Omega.{arith}
use Rattle.open_elements.specs.Methods.{shown_document, shown_other}
use Rattle.open_elements.proofs.place_shown.Goals as goal

pub returns-then-parent-eq0 : goal.returns-then-parent-eq0
returns-then-parent-eq0 c = (sym (shown_document _ _ c.if-parent-eq0.true), omega arith)

pub returns : goal.returns
returns c = (sym (shown_other _ _ c.if-parent-eq0.false), c.requires)
