-- `required_in` meets its contract: the next that has not begun above the member is of another group.
use mathlib.Core.Path.{refl}
use native.Mathlib.Omega.{arith}
use Rattle.and_groups.specs.Lacking.{due_large, due_other, due_lone, due_more}
use Rattle.and_groups.proofs.required_in.Goals as goal

pub returns-then-x-gt-GRPGTCNT : goal.returns-then-x-gt-GRPGTCNT
returns-then-x-gt-GRPGTCNT c = due_large _ _ _ _ _ (omega arith) c.if-x-gt-GRPGTCNT.true

pub returns-then-not-is_alone : goal.returns-then-not-is_alone
returns-then-not-is_alone c = due_other _ _ _ _ _ (omega (arith, c.requires)) _ refl _ c.group_of-g.ensures.0 _ _ _ c.among.ensures c.sub-idle.ensures c.above.ensures _ c.first-y.ensures.value _ c.is_alone.ensures c.if-not-is_alone.true

pub returns-then-p-gt-GRPGTCNT : goal.returns-then-p-gt-GRPGTCNT
returns-then-p-gt-GRPGTCNT c = due_more _ _ _ _ _ (omega (arith, c.requires)) _ refl _ c.group_of-g.ensures.0 _ _ _ c.among.ensures c.sub-idle.ensures c.above.ensures _ c.first-y.ensures.value _ c.is_alone.ensures _ c.required_of-p.ensures.0 c.if-not-is_alone.false c.if-p-gt-GRPGTCNT.true

pub returns : goal.returns
returns c = due_lone _ _ _ _ _ (omega (arith, c.requires)) _ refl _ c.group_of-g.ensures.0 _ _ _ c.among.ensures c.sub-idle.ensures c.above.ensures _ c.first-y.ensures.value _ c.is_alone.ensures _ c.required_of-p.ensures.0 c.if-not-is_alone.false c.if-p-gt-GRPGTCNT.false
