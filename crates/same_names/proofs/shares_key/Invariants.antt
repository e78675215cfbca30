-- `shares_key` meets its contract. The invariant: what was found so far, or is still to be looked at, gives the answer.
use lib.ListN.{get_or}
use Rattle.same_names.specs.Keys.{Shares}
use Rattle.same_names.proofs.shares_key.Given as goal

abbrev pub invariant-loop-x : goal.invariant-loop-x
invariant-loop-x l = Shares l.keys (get_or l.keys l.p 0) l.n l.p l.some l.x
