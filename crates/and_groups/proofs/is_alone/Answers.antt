-- `is_alone` meets its contract.
use native.Mathlib.Omega.{arith}
use Rattle.and_groups.specs.Lacking.{alone_none, alone_by}
use Rattle.and_groups.proofs.is_alone.Goals as goal

pub returns-in-None : goal.returns-in-None
returns-in-None c = rw c.in-None.is (alone_none _ _ _ _ (omega arith))

pub returns-in-Some : goal.returns-in-Some
returns-in-Some c = let some = c.requires.some in rw c.in-Some.is (alone_by _ _ _ _ (omega (arith, rw c.in-Some.is at some)) _ _ c.group_of.ensures.0 c.group_of-in-Some.ensures.0)
