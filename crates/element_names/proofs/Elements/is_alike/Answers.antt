-- `is_alike` meets its contract: its tests, one after the other.
use native.Mathlib.Omega.{arith}
use Rattle.element_names.specs.Records.{alike_size, alike_first}
use Rattle.element_names.proofs.Elements.is_alike.Goals as goal

pub returns-then-number-size : goal.returns-then-number-size
returns-then-number-size c = let a = c.args in
    alike_size a.s.now a.self.records.now a.k a.at a.size c.number.ensures.0 c.if-number-size.true

pub returns : goal.returns
returns c = let first = c.before.before.before.before in
    let sized = first.before.before in
    let a = sized.args in
    alike_first a.s.now a.self.records.now a.k a.at a.size sized.number.ensures.0 (omega arith) first.number-2.ensures.0 first.byte-first.ensures c.folded.ensures c.byte.ensures c.folded-2.ensures
