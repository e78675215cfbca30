-- `part` meets its contract: the part lies in the text exactly where neither test holds.
use mathlib.Core.Path.{sym}
use native.Mathlib.Omega.{arith}
use Rattle.attribute_values.specs.Tests.{part_out, part_to}
use Rattle.attribute_values.proofs.part.Goals as goal

pub returns-then-t-at : goal.returns-then-t-at
returns-then-t-at c = let a = c.args in
    sym (part_out a.t.now a.at a.size (omega arith))

pub returns-then-t-at-2 : goal.returns-then-t-at-2
returns-then-t-at-2 c = let a = c.args in
    sym (part_out a.t.now a.at a.size (omega arith))

pub returns : goal.returns
returns c = let a = c.args in
    part_to a.t.now a.at a.size (omega arith)
