use mathlib.Core.Path.{refl, ◌∙◌}
use native.Mathlib.Omega.{arith}
use Rattle.table_fill.specs.Own.{accepted_own, indexed_own, lists_own, counted_own, tables_own, filled_own}
use Rattle.table_fill.proofs.fill.Goals as goal

pub loop-k-init : goal.loop-k-init
loop-k-init c = let pre = c.requires in
    (refl, filled_own _ _ _ _ _ _ _ _ _ _ _ _ pre.by_index_2 pre.rows_value pre.no_members c.put_document.ensures.0 c.put_document.ensures.1)

pub put_element-requires : goal.put_element-requires
put_element-requires c = let pre = c.requires in
    record {
      edition = pre.by_index_2.0;
      accepted = accepted_own _ _ _ _ _ pre.by_index_2;
      indexed = indexed_own _ _ _ _ _ pre.by_index_2;
      listed = lists_own _ _ _ _ _ pre.by_index_2;
      from = omega arith;
      to = omega (arith, counted_own _ _ _ _ _ pre.by_index.1);
      filled = c.loop-k.invariant.1;
    }

pub overflow_add-k-end : goal.overflow_add-k-end
overflow_add-k-end c = let pre = c.requires in
    let few = (indexed_own _ _ _ _ _ pre.by_index_2).few in
    let counted = counted_own _ _ _ _ _ pre.by_index.1 in
    omega arith

pub loop-k-preserved : goal.loop-k-preserved
loop-k-preserved c = (c.put_element.auto.members ∙ c.loop-k.invariant.0, c.put_element.ensures)

pub shape_of-members : goal.shape_of-members
shape_of-members c = c.loop-k.invariant.0

pub returns : goal.returns
returns c edition es a n r = let pre = c.requires in
    let counted = counted_own _ _ _ _ _ pre.by_index.1 in
    tables_own _ _ _ _ _ _ _ c.loop-k.invariant.1 (omega arith) edition es a
