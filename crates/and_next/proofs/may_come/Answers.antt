-- `may_come` meets its contract: p is in no group, in that of u, or in another.
use native.Mathlib.Omega.{arith}
use Rattle.and_next.specs.Following.{comes_far, comes_full, comes_beside, comes_left, comes_one, comes_other}
use Rattle.and_next.proofs.may_come.Goals as goal

pub returns-then-g-gt-AND_GROUPS : goal.returns-then-g-gt-AND_GROUPS
returns-then-g-gt-AND_GROUPS c = comes_far _ _ _ _ _ (omega arith) _ c.group_of-g.ensures.0 c.if-g-gt-AND_GROUPS.true _

pub returns-then-i-eq0 : goal.returns-then-i-eq0
returns-then-i-eq0 c = comes_full _ _ _ _ _ (omega arith) _ c.group_of-g.ensures.0 c.if-i-eq0.true _ c.is_full.ensures

pub returns-then-h-i : goal.returns-then-h-i
returns-then-h-i c = comes_one _ _ _ _ _ (omega arith) _ c.group_of-g.ensures.0 (omega (arith, c.if-i-eq0.false)) _ c.group_of-f.ensures.0 c.if-f-g.true c.if-h-i.true

pub returns-then-f-g : goal.returns-then-f-g
returns-then-f-g c = comes_other _ _ _ _ _ (omega arith) _ c.group_of-g.ensures.0 (omega (arith, c.if-i-eq0.false)) _ c.group_of-f.ensures.0 c.if-f-g.true c.if-h-i.false _ c.has.ensures

pub returns-then-f-gt-AND_GROUPS : goal.returns-then-f-gt-AND_GROUPS
returns-then-f-gt-AND_GROUPS c = comes_beside _ _ _ _ _ (omega arith) _ c.group_of-g.ensures.0 (omega (arith, c.if-i-eq0.false)) _ c.group_of-f.ensures.0 c.if-f-gt-AND_GROUPS.true _

pub returns : goal.returns
returns c = comes_left _ _ _ _ _ (omega arith) _ c.group_of-g.ensures.0 (omega (arith, c.if-i-eq0.false)) _ c.group_of-f.ensures.0 _ c.is_left.ensures
