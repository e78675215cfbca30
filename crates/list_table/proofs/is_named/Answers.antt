-- `is_named` meets its contract, each way by the tests that led there.
use Rattle.list_table.specs.Finds.{named_size, named_outside, named_text}
use Rattle.list_table.proofs.is_named.Goals as goal

pub returns-then-r-size : goal.returns-then-r-size
returns-then-r-size c = let a = c.args in
    named_size a.s.now a.r a.t.now a.at a.size c.if-r-size.true

pub returns-then-s-r : goal.returns-then-s-r
returns-then-s-r c = let a = c.args in
    named_outside a.s.now a.r a.t.now a.at a.size c.if-r-size.false c.if-s-r.true

pub returns : goal.returns
returns c = let a = c.args in
    named_text a.s.now a.r a.t.now a.at a.size c.if-r-size.false c.if-s-r.false c.same_within.ensures
