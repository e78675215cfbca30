-- `row_at` meets its contract, number by number.
use Rattle.list_table.specs.Finds.{row_is}
use Rattle.list_table.proofs.row_at.Goals as goal

pub returns : goal.returns
returns c = let a = c.args in
    let p = c.number.ensures in
    let q = c.number-2.ensures in
    let v = c.number-3.ensures in
    let d = c.number-4.ensures in
    let n = c.number-5.ensures in
    (row_is a.lists.now a.i p.0 q.0 v.0 d.0 n.0, (p.1, q.1, v.1, d.1, n.1))
