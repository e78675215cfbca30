-- `decide` meets its contract: the judge refuses, or what it accepts is listed.
use native.Mathlib.Omega.{arith}
use Rattle.inputs.specs.Checks.{settings_of}
use Rattle.type_judge.specs.Deciding.{raised}
use Rattle.attribute_records.specs.Decided.{decided_refused, decided_listed, decided_full}
use Rattle.attribute_records.proofs.decide.Goals as goal

pub returns-in_err-n : goal.returns-in_err-n
returns-in_err-n c =
    let a = c.args in
    let d = c.decide in
    decided_refused (settings_of a.c) a.s.now d.new.elements d.new.heads a.room _ _ _ _ c.in_err-n.ensures (raised _ c.from_residual.ensures.1)

-- The type is accepted.
pub listed-requires : goal.listed-requires
listed-requires c =
    let (es, a, count, fits, few, recorded, u) = c.in_ok-n.ensures in
    (omega arith, omega (arith, a.legible.short))

pub returns-in_err-listed : goal.returns-in_err-listed
returns-in_err-listed c =
    let a = c.args in
    let d = c.decide in
    decided_full (settings_of a.c) a.s.now d.new.elements d.new.heads a.room _ _ _ _ _ c.in_ok-n.ensures _ _ c.in_err-listed.ensures (raised _ c.from_residual-in_err-listed.ensures.1)

pub returns : goal.returns
returns c =
    let a = c.args in
    let d = c.decide in
    decided_listed (settings_of a.c) a.s.now d.new.elements d.new.heads a.room _ _ _ _ _ c.in_ok-n.ensures _ c.in_ok-listed.ensures
