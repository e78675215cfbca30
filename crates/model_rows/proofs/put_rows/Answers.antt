use Prim.Native.Nat.{◌+◌}
use mathlib.Core.Path.{◌≡◌}
use native.Mathlib.Omega.{arith}
use Rattle.model_rows.specs.Rows.{rows_first, rows_more}
use Rattle.model_rows.proofs.put_rows.Goals as goal

pub put_row-requires : goal.put_row-requires
put_row-requires c = let due = c.requires.0 in (due.element, omega arith, due.len, due.required 0 (omega arith), omega arith)

pub loop-u-init : goal.loop-u-init
loop-u-init c = (omega arith, omega arith, c.put_row.ensures.len, λ T h. h)

pub put_row-requires-in-loop-u : goal.put_row-requires-in-loop-u
put_row-requires-in-loop-u c = let i = c.loop-u in
    (c.requires.0.element, omega (arith, c.requires.0.few), i.invariant.2, c.requires.0.required i.u (omega arith), c.requires.1)

pub loop-u-preserved : goal.loop-u-preserved
loop-u-preserved c = let i = c.loop-u in
    (omega arith, omega arith, c.put_row-in-loop-u.ensures.len, λ T h. rows_more _ _ _ _ _ _ _ i.invariant.0 (i.invariant.3 T h) c.put_row-in-loop-u.ensures)

pub returns : goal.returns
returns c = let i = c.loop-u in
    let x = c.args in
    let full : i.u ≡ x.count + 1 = omega arith in
    rw full at (i.invariant.3 x.rows.now (rows_first _ _ _ _ _ c.put_row.ensures))
