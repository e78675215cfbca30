use mathlib.Core.Path.{◌≡◌, refl}
use native.Mathlib.Omega.{arith}
use Rattle.layout.specs.Sizes.{LAST_BITS}
use Rattle.model_rows.specs.Rows.{bits_none, bits_more, row_put}
use Rattle.model_rows.proofs.put_row.Goals as goal

pub loop-j-init : goal.loop-j-init
loop-j-init c = (omega arith, λ e l q. bits_none _ _ _ _ (omega arith) (omega arith) (omega arith))

pub loop-j-preserved : goal.loop-j-preserved
loop-j-preserved c = (omega arith, λ e l q. bits_more _ _ _ _ (omega arith) (omega arith) _ _ _ _ (c.loop-j.invariant.1 e l q) (omega arith) (omega arith) c.packed.ensures)

pub returns : goal.returns
returns c = let full : c.loop-j.j ≡ LAST_BITS = omega arith in
    row_put _ _ _ _ (omega arith) (omega arith) _ _ _ _ _ _ (rw full at (c.loop-j.invariant.1 c.args.e.0 c.requires.0 c.row-r.ensures)) (omega arith) (omega arith) c.cell.ensures.0 refl
