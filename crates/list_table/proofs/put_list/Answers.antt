use Prim.Native.Nat.{◌*◌}
use mathlib.Core.Path.{refl}
use native.Mathlib.Omega.{arith}
use Rattle.layout.specs.Sizes.{LIST}
use Rattle.list_table.specs.Finds.{copying_first, copying_turn, copied}
use Rattle.list_table.proofs.put_list.Goals as goal

pub overflow_mul-end : goal.overflow_mul-end
overflow_mul-end c = omega (arith, c.count.ensures.1)

pub overflow_add-end : goal.overflow_add-end
overflow_add-end c = omega (arith, c.count.ensures.1)

pub loop-i-init : goal.loop-i-init
loop-i-init c = (omega (arith, c.count.ensures.1), omega arith, omega arith, copying_first _ _ _)

pub bounds-list-i : goal.bounds-list-i
bounds-list-i c = omega (arith, c.loop-i.invariant.0)

pub bounds-lists-from : goal.bounds-lists-from
bounds-lists-from c = omega (arith, c.loop-i.invariant.0, c.loop-i.invariant.1, c.loop-i.invariant.2, c.loop-i.invariant.3.long)

pub loop-i-preserved : goal.loop-i-preserved
loop-i-preserved c = (omega arith, omega arith, omega arith, copying_turn _ _ _ c.loop-i.lists c.loop-i.i _ c.loop-i.invariant.3 refl (omega (arith, c.loop-i.invariant.0, c.loop-i.invariant.1, c.loop-i.invariant.2)))

pub shape_of-lists : goal.shape_of-lists
shape_of-lists c = c.loop-i.invariant.3.long

pub returns : goal.returns
returns c = let a = c.args in
    copied a.list.now (LIST * a.k) a.lists.now c.loop-i.lists c.loop-i.i c.count.result c.loop-i.invariant.3 (omega (arith, c.loop-i.invariant.0, c.loop-i.auto.i-end)) (omega (arith, c.loop-i.auto.i-end, c.loop-i-test.false))
    (λ o s xs l. c.count.ensures.0 o s xs (omega arith) l)
