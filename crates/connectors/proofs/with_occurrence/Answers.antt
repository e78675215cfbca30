-- `with_occurrence` meets its contract: what is kept goes through each of the indicators, or there is none.
use Rattle.connectors.specs.Grown.{occurs_opt, occurs_plus, occurs_star, occurs_not}
use Rattle.connectors.proofs.with_occurrence.Goals as goal

pub returns-then-b-eq63 : goal.returns-then-b-eq63
returns-then-b-eq63 c T names n d t K =
    let x = c.args in
    occurs_opt x.s.now x.lo T n d names _ x.m t K _ c.byte-b.ensures c.if-b-eq63.true c.with_opt.ensures.value c.with_opt.ensures.table_after

pub returns-then-b-eq43 : goal.returns-then-b-eq43
returns-then-b-eq43 c T names n d t K =
    let x = c.args in
    occurs_plus x.s.now x.lo T n d names _ x.m t K _ c.byte-b.ensures c.if-b-eq63.false c.if-b-eq43.true c.with_plus.ensures.value c.with_plus.ensures.table_after

pub returns-then-b-eq42 : goal.returns-then-b-eq42
returns-then-b-eq42 c T names n d t K =
    let x = c.args in
    occurs_star x.s.now x.lo T n d names _ x.m t K _ c.byte-b.ensures c.if-b-eq63.false c.if-b-eq43.false c.if-b-eq42.true c.with_plus-some.ensures.value c.with_plus-some.ensures.table_after
    c.with_opt-then-b-eq42.ensures.value c.with_opt-then-b-eq42.ensures.table_after

pub returns : goal.returns
returns c T names n d t K =
    let x = c.args in
    occurs_not x.s.now x.lo T n d names _ x.m t K _ c.byte-b.ensures c.if-b-eq63.false c.if-b-eq43.false c.if-b-eq42.false
