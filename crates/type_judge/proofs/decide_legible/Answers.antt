-- `decide_legible` meets its contract: each way by the tests that led there.
use mathlib.Core.Path.{sym, ◌∙◌}
use native.Mathlib.Omega.{arith}
use Rattle.element_content.specs.Kept.{place_none}
use Rattle.inputs.specs.Checks.{settings_of}
use Rattle.type_file.specs.Turns.{file_kept}
use Rattle.type_judge.specs.Deciding.{raised, decides_malformed, decides_repeated, decides_ambiguous, decides_full, decides_accepted}
use Rattle.type_judge.proofs.decide_legible.Goals as goal

pub returns-in_err-p : goal.returns-in_err-p
returns-in_err-p c legible = let a = c.args in
    let f = c.file_read in
    rw (raised _ c.from_residual.ensures.1) (decides_malformed (settings_of a.c) a.s.now a.room legible f.new.elements f.new.heads _ c.in_err-p.ensures)

pub returns-in-Some : goal.returns-in-Some
returns-in-Some c legible = let a = c.args in
    let f = c.file_read in
    let (es, y, k, u) = file_kept (settings_of a.c).name_length a.s.now f.new.elements f.new.heads _ c.in_ok-p.ensures in
    rw c.at.ensures (decides_repeated (settings_of a.c) a.s.now a.room legible es y _ (sym k.repeated_at ∙ c.in-Some.is))

pub returns-in-Some-clash : goal.returns-in-Some-clash
returns-in-Some-clash c legible = let a = c.args in
    let f = c.file_read in
    let (es, y, k, u) = file_kept (settings_of a.c).name_length a.s.now f.new.elements f.new.heads _ c.in_ok-p.ensures in
    let none = place_none _ (sym k.repeated_at ∙ c.in_default.is) in
    decides_ambiguous (settings_of a.c) a.s.now a.room legible es y none _ (k.pending none) _ c.in-Some-clash.is

pub overflow_mul-p : goal.overflow_mul-p
overflow_mul-p c = let (es, y, k, u) = file_kept (settings_of c.args.c).name_length c.args.s.now c.file_read.new.elements c.file_read.new.heads _ c.in_ok-p.ensures in
    omega (arith, k.counted, k.room)

pub returns-then-room-p : goal.returns-then-room-p
returns-then-room-p c legible = let a = c.args in
    let f = c.file_read in
    let (es, y, k, u) = file_kept (settings_of a.c).name_length a.s.now f.new.elements f.new.heads _ c.in_ok-p.ensures in
    let none = place_none _ (sym k.repeated_at ∙ c.in_default.is) in
    rw c.at-then-room-p.ensures (decides_full (settings_of a.c) a.s.now a.room legible es y none _ (k.pending none) c.in_default-clash.is _ k.counted c.if-room-p.true)

pub returns : goal.returns
returns c legible = let a = c.args in
    let f = c.file_read in
    let (es, y, k, u) = file_kept (settings_of a.c).name_length a.s.now f.new.elements f.new.heads _ c.in_ok-p.ensures in
    let none = place_none _ (sym k.repeated_at ∙ c.in_default.is) in
    decides_accepted (settings_of a.c) a.s.now a.room legible es y none _ (k.pending none) c.in_default-clash.is f.new.elements f.new.heads c.in_ok-p.p k u c.if-room-p.false
