-- `chain` meets its contract. The invariant: what is still to be looked for gives what was to be looked for at first, which gives the chain.
use native.Mathlib.Omega.{arith}
use Rattle.ways.specs.Chains.{Looks, looks_start, looks_found, looks_next, looks_none, looks_over}
use Rattle.ways.proofs.chain.Goals as goal
use Rattle.ways.proofs.chain.Goals.{At-loop-n}

-- What is still to be looked for gives the chain.
looks : (c : At-loop-n) → Looks c.args.t.rows.now c.args.t.places.now c.args.t.facts.now c.args.e.0 c.args.q.0 c.args.x.0 c.loop-n.c.0 c.loop-n.n
looks c = c.loop-n.invariant.1.on _ _ (looks_start _ _ _ _ _ _ _ c.startable-c.ensures.by_index)

pub loop-n-init : goal.loop-n-init
loop-n-init c = (c.startable-c.ensures.result_le_element_limit, record { on = λ e q h. h })

pub returns-then-c-eq0-clause-by_index : goal.returns-then-c-eq0-clause-by_index
returns-then-c-eq0-clause-by_index c = looks_none _ _ _ _ _ _ _ _ (looks (goal.at.returns-then-c-eq0-clause-by_index c).At-loop-n) (omega arith) (omega (arith, c.loop-n-test.true)) c.if-c-eq0.true

pub returns-then-p-ne0-clause-by_index : goal.returns-then-p-ne0-clause-by_index
returns-then-p-ne0-clause-by_index c =
    looks_found _ _ _ _ _ _ _ _ (looks (goal.at.returns-then-p-ne0-clause-by_index c).At-loop-n) (omega arith) (omega (arith, c.loop-n-test.true)) c.if-c-eq0.false _ c.fitting_first-p.ensures.by_index (λ z. omega (arith, c.if-p-ne0.true))

pub loop-n-preserved : goal.loop-n-preserved
loop-n-preserved c = (
  c.inferable-c.ensures.result_le_element_limit,
  record {
    on = λ e q h.
        looks_next _ _ _ e q _ _ _ (c.loop-n.invariant.1.on e q h) (omega arith) (omega (arith, c.loop-n-test.true)) c.if-c-eq0.false _ c.fitting_first-p.ensures.by_index
        (omega (arith, c.if-p-ne0.false)) _ c.inferable-c.ensures.by_index;
  },
)

pub returns-clause-by_index : goal.returns-clause-by_index
returns-clause-by_index c = looks_over _ _ _ _ _ _ _ _ (looks (goal.at.returns-clause-by_index c).At-loop-n) (omega arith) (omega (arith, c.loop-n-test.false))
