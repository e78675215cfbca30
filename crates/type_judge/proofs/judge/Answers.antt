-- `judge` meets its contract: an accepted verdict's records are written, any other zeroes the buffer.
use native.Mathlib.Omega.{arith}
use Rattle.rules.specs.Lent.{numbers}
use Rattle.inputs.specs.Checks.{settings_of}
use Rattle.type_judge.specs.Deciding.{accepted_fits, judged_accepts, judged_refuses}
use Rattle.type_judge.proofs.judge.Goals as goal

-- The records fit the table and the buffer.
pub overflow_mul-n : goal.overflow_mul-n
overflow_mul-n c =
    let a = c.args in
    let d = c.decide-v in
    omega (arith, accepted_fits numbers (settings_of a.c) a.s.now a.buffer.now d.new.elements d.new.heads d.result d.ensures c.in-Ok.n c.in-Ok.is)

pub put_numbers-requires : goal.put_numbers-requires
put_numbers-requires c =
    let a = c.args in
    let d = c.decide-v in
    omega (arith, accepted_fits numbers (settings_of a.c) a.s.now a.buffer.now d.new.elements d.new.heads d.result d.ensures c.in-Ok.n c.in-Ok.is)

pub returns-in-Ok : goal.returns-in-Ok
returns-in-Ok c =
    let a = c.args in
    let d = c.decide-v in
    judged_accepts numbers (settings_of a.c) a.s.now a.buffer.now d.new.elements d.new.heads d.result d.ensures _ _ c.in-Ok.is c.put_numbers.ensures

pub returns-in_default : goal.returns-in_default
returns-in_default c =
    let a = c.args in
    let d = c.decide-v in
    judged_refuses numbers (settings_of a.c) a.s.now a.buffer.now d.new.elements d.new.heads d.result d.ensures _ c.in_default.not-Ok (c.fill.ensures.after (λ y e. e))
