use native.Mathlib.Omega.{arith}
use borrow.Author.Rules.{rules}
use borrow.Author.Tests.{eq-eqb, ne_eqb}
use Rattle.model_pairs.specs.Seeks.{added_none, added_one, added_skip}
use Rattle.model_pairs.proofs.with_next.Goals as goal
use Rattle.model_pairs.proofs.with_next.Goals.{then-next-q-eq1, else-next-q-eq1}

pub loop-q-init : goal.loop-q-init
loop-q-init c = (omega arith, added_none _ _ (search rules))

pub loop-q-preserved : goal.loop-q-preserved
loop-q-preserved c =
    elim c.if-next-q-eq1.branch [
      | then-next-q-eq1 w ↦ (omega arith, rw w.more-is (added_one _ _ _ _ c.loop-q.invariant.1 (omega arith) (eq-eqb _ _ w.if-next-q-eq1.true)))
      | else-next-q-eq1 w ↦ (omega arith, rw w.more-is (added_skip _ _ _ _ c.loop-q.invariant.1 (ne_eqb _ _ w.if-next-q-eq1.false)))
    ]

pub returns : goal.returns
returns c q h = c.loop-q.invariant.1.done q (omega arith)
