-- `take` meets its contract: the members that have begun are those of the places before, or none; then those around the place are too.
use native.Mathlib.Omega.{arith}
use Rattle.and_groups.specs.Taking.{ready_start, ready_on, takes_free, takes_held, takes_short}
use Rattle.and_groups.proofs.take.Goals as goal

pub returns-then-members-lt-MEMBERS-clause-value : goal.returns-then-members-lt-MEMBERS-clause-value
returns-then-members-lt-MEMBERS-clause-value c = takes_short _ _ _ _ _ _ (omega (arith, c.if-members-lt-MEMBERS.true))

pub returns-in_err-x-clause-value : goal.returns-in_err-x-clause-value
returns-in_err-x-clause-value c = rw c.from_residual.ensures (takes_free _ _ _ _ _ _ _ _ _ _ (ready_start _ _ _ _ _ _ (omega arith) c.none.ensures) c.holder-h.ensures.0 c.entered-first.ensures c.put.ensures _ c.in_err-x.ensures.value (omega arith))

pub required_in-requires : goal.required_in-requires
required_in-requires c =
    let blocked = c.in_ok-x.ensures in
    record {
      inner_few = (blocked.value.ends blocked.some, omega (arith, c.holder-h.ensures), blocked.value.small);
      inner_bound = blocked.value.group blocked.some;
    }

pub returns-then-u-eq0-clause-value : goal.returns-then-u-eq0-clause-value
returns-then-u-eq0-clause-value c = takes_held _ _ _ _ _ _ _ _ _ _ (ready_start _ _ _ _ _ _ (omega arith) c.none.ensures) c.holder-h.ensures.0 c.entered-first.ensures c.put.ensures _ c.in_ok-x.ensures.value (omega (arith, c.in_ok-x.ensures.some)) _ c.required_in.ensures

pub returns-in_err-y-clause-value : goal.returns-in_err-y-clause-value
returns-in_err-y-clause-value c = rw c.from_residual-in_err-y.ensures (takes_free _ _ _ _ _ _ _ _ _ _ (ready_on _ _ _ _ _ _ (omega arith) c.begun_at.ensures) c.holder-h.ensures.0 c.entered-now.ensures c.put-2.ensures _ c.in_err-y.ensures.value (omega arith))

pub required_in-requires-2 : goal.required_in-requires-2
required_in-requires-2 c =
    let blocked = c.in_ok-y.ensures in
    record {
      inner_few = (blocked.value.ends blocked.some, omega (arith, c.holder-h.ensures), blocked.value.small);
      inner_bound = blocked.value.group blocked.some;
    }

pub returns-clause-value : goal.returns-clause-value
returns-clause-value c = takes_held _ _ _ _ _ _ _ _ _ _ (ready_on _ _ _ _ _ _ (omega arith) c.begun_at.ensures) c.holder-h.ensures.0 c.entered-now.ensures c.put-2.ensures _ c.in_ok-y.ensures.value (omega (arith, c.in_ok-y.ensures.some)) _ c.required_in-2.ensures
