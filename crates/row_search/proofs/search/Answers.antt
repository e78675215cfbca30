-- `search` meets its contract. The invariant: the places still to be looked at give the answer. The measure is the place.
use native.Mathlib.Omega.{arith}
use Rattle.row_search.specs.Search.{seeks_start, seeks_found, seeks_rising, seeks_next, seeks_none}
use Rattle.row_search.proofs.search.Goals as goal

pub loop-q-init : goal.loop-q-init
loop-q-init g c = (omega arith, seeks_start _ _ _ _)

pub returns-then-may_come : goal.returns-then-may_come
returns-then-may_come g c = seeks_found _ _ _ _ _ c.loop-q.invariant.1 c.loop-q-test.true c.loop-q.invariant.0 c.if-may_come.ensures

pub returns-then-q-below : goal.returns-then-q-below
returns-then-q-below g c = seeks_rising _ _ _ _ _ c.loop-q.invariant.1 c.loop-q-test.true _ c.smaller-below.ensures c.if-q-below.true

pub loop-q-preserved : goal.loop-q-preserved
loop-q-preserved g c = (omega arith, seeks_next _ _ _ _ _ c.loop-q.invariant.1 c.loop-q-test.true c.if-may_come.ensures _ c.smaller-below.ensures c.if-q-below.false)

pub returns : goal.returns
returns g c = rw c.loop-q-test.false (seeks_none _ _ _ _ _ c.loop-q.invariant.1 c.loop-q-test.false)
