-- `joined_by` meets its contract, by the three connectors.
use Rattle.std.proofs.Common.{◌∙◌}
use Rattle.connectors.specs.Grown.{by_seq, by_and, by_alt, both_joined}
use Rattle.connectors.proofs.joined_by.Goals as goal
use Rattle.connectors.proofs.joined_by.Goals.{then-b-eq44, else-b-eq44+then-b-eq38, else-b-eq44+else-b-eq38}

pub returns : goal.returns
returns c =
    let x = c.args in
    let e =
    both_joined x.b x.i x.lo x.m x.u x.table.now c.if-b-eq44.table c.if-b-eq44.and _ _ _ _
    (elim c.if-b-eq44.branch [
      | then-b-eq44 w ↦ by_seq x.b x.i x.lo x.m x.u x.table.now _ _ _ w.if-b-eq44.true w.and-is w.join_seq-part.ensures.1 (w.table-is ∙ w.join_seq-part.ensures.0)
      | else-b-eq44+then-b-eq38 w ↦ by_and x.b x.i x.lo x.m x.u x.table.now _ _ _ w.if-b-eq38.true w.and-is w.join_and-part.ensures.1 (w.table-is ∙ w.join_and-part.ensures.0)
      | else-b-eq44+else-b-eq38 w ↦ by_alt x.b x.i x.lo x.m x.u x.table.now _ _ _ w.if-b-eq44.false w.if-b-eq38.false w.and-is w.join_alt.ensures w.table-is
    ])
    c.put.ensures.0 c.put.ensures.1 c.earlier.ensures c.earlier-2.ensures in
    record { value = e.0; table_after = e.1 }
