-- `blocking` meets its contract: the first member that must come and has not begun is found, if the groups up to it can end.
use native.Mathlib.Omega.{arith}
use mathlib.Core.Path.{refl}
use Rattle.and_groups.specs.Blocking.{blocks_none, blocks_far, blocks_free, blocks_beyond, blocks_held}
use Rattle.and_groups.proofs.blocking.Goals as goal

pub returns-then-inner-le-ENDING-clause-value : goal.returns-then-inner-le-ENDING-clause-value
returns-then-inner-le-ENDING-clause-value c = blocks_none _ _ _ _ c.if-inner-le-ENDING.true

pub returns-then-g-gt-AND_GROUPS-clause-value : goal.returns-then-g-gt-AND_GROUPS-clause-value
returns-then-g-gt-AND_GROUPS-clause-value c = blocks_far _ _ _ _ c.if-inner-le-ENDING.false _ refl _ c.group_of-g.ensures.0 c.if-g-gt-AND_GROUPS.true

pub returns-in_err-x-clause-value : goal.returns-in_err-x-clause-value
returns-in_err-x-clause-value c = rw c.from_residual.ensures (blocks_free _ _ _ _ c.if-inner-le-ENDING.false _ refl _ c.group_of-g.ensures.0 _ _ _ _ c.among.ensures c.needed.ensures c.bitand-needed.ensures c.sub.ensures 0 c.in_err-x.ensures.small c.in_err-x.ensures.value refl)

pub returns-then-reach_of-group_of-clause-value : goal.returns-then-reach_of-group_of-clause-value
returns-then-reach_of-group_of-clause-value c = blocks_beyond _ _ _ _ c.if-inner-le-ENDING.false _ refl _ c.group_of-g.ensures.0 _ _ _ _ c.among.ensures c.needed.ensures c.bitand-needed.ensures c.sub.ensures _ c.in_ok-x.ensures.small c.in_ok-x.ensures.value (omega (arith, c.in_ok-x.ensures.some)) _ _ c.reach_of.ensures.0 c.group_of.ensures.0 c.if-reach_of-group_of.true

pub returns-clause-value : goal.returns-clause-value
returns-clause-value c = blocks_held _ _ _ _ c.if-inner-le-ENDING.false _ refl _ c.group_of-g.ensures.0 _ _ _ _ c.among.ensures c.needed.ensures c.bitand-needed.ensures c.sub.ensures _ c.in_ok-x.ensures.small c.in_ok-x.ensures.value (omega (arith, c.in_ok-x.ensures.some)) _ _ c.reach_of.ensures.0 c.group_of.ensures.0 c.if-g-gt-AND_GROUPS.false c.if-reach_of-group_of.false
