-- `placed` meets its contract: the token takes the place that was found, and its events are put, or it is refused.
use native.Mathlib.Omega.{arith}
use Rattle.placing.specs.Places.{placed_nowhere, placed_full, placed_taken}
use Rattle.placing.proofs.placed.Goals as goal

pub returns-then-p-eq0 : goal.returns-then-p-eq0
returns-then-p-eq0 c = placed_nowhere _ _ (record { answers = c.place_of-p.ensures.by_index }) (omega (arith, c.if-p-eq0.true, c.place_of-p.ensures.result_bound))

pub returns-then-is_full : goal.returns-then-is_full
returns-then-is_full c = placed_full _ _ (record { answers = c.place_of-p.ensures.by_index }) (λ z. omega arith) c.is_full.ensures c.if-is_full.true

pub put_written-m-requires : goal.put_written-m-requires
put_written-m-requires c = (c.requires.2, c.place_shown-taken.ensures.1, c.requires.3, c.requires.4, c.requires.5)

pub returns : goal.returns
returns c = placed_taken _ _ (record { answers = c.place_of-p.ensures.by_index }) c.if-p-eq0.false c.is_full.ensures c.requires.0 c.if-is_full.false c.place_of-p.ensures.result_bound
    c.take-last.ensures c.place_shown-taken.ensures.0 c.put_written-m.ensures
