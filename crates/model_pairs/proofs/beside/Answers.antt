use mathlib.Core.Path.{ap}
use native.Mathlib.Omega.{arith}
use borrow.Author.Tests.{eq-eqb, ne_eqb}
use Rattle.model_pairs.specs.Rows.{is_next}
use Rattle.model_pairs.specs.Seeks.{beside_none, beside_row, beside_skip, beside_end}
use Rattle.model_pairs.proofs.beside.Goals as goal
use Rattle.model_pairs.proofs.beside.Goals.{then-table-u-eq1, else-table-u-eq1}

pub loop-u-init : goal.loop-u-init
loop-u-init c = (omega arith, beside_none _ _)

pub loop-u-preserved : goal.loop-u-preserved
loop-u-preserved c =
    let so_far = c.loop-u.invariant.1 in
    elim c.if-table-u-eq1.branch [
      | then-table-u-eq1 w ↦
          (omega arith, rw w.set-is (beside_row _ _ _ _ so_far w.next_after.result _ (eq-eqb _ _ w.if-table-u-eq1.true) (λ q h. ap is_next (w.next_after.ensures q h)) w.with_next-more.ensures))
      | else-table-u-eq1 w ↦ (omega arith, rw w.set-is (beside_skip _ _ _ _ so_far (ne_eqb _ _ w.if-table-u-eq1.false)))
    ]

pub returns : goal.returns
returns c q h = beside_end _ _ _ _ c.loop-u.invariant.1 c.args.n q (omega arith) h
