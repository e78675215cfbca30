-- `keyword_at` meets its contract: each way by the tests that led there.
use Prim.Native.Nat.{◌+◌}
use mathlib.Core.Path.{sym, ◌∙◌}
use native.Mathlib.Omega.{arith}
use Rattle.rules.specs.TypeFile.{element, attribute_list}
use Rattle.text.specs.Words.{name_end_from, name_end_le, passed_on}
use Rattle.type_file.specs.Declarations.{step_refused, step_element, list_refused, list_onward, keyword_long, keyword_element, keyword_list, keyword_other, list_word}
use Rattle.type_file.proofs.keyword_at.Goals as goal

pub name_end-e-requires : goal.name_end-e-requires
name_end-e-requires c = c.requires.i_in_bounds.0

pub overflow_sub-e : goal.overflow_sub-e
overflow_sub-e c = omega (arith, c.name_end-e.ensures, name_end_from c.args.s.now (c.args.i + 2))

pub returns-then-long-e : goal.returns-then-long-e
returns-then-long-e c es ls k h = let a = c.args in
    step_refused a.long a.s.now a.elements.now a.heads.now a.i 3 (a.i + 2) _ _
    (keyword_long a.long a.s.now a.i _ es ls c.name_end-e.ensures c.if-long-e.true) c.at.ensures

pub is_word-requires : goal.is_word-requires
is_word-requires c = let a = c.args in
    let e = c.name_end-e.ensures in
    let h = c.requires.i_in_bounds in
    omega (arith, name_end_from a.s.now (a.i + 2), name_end_le a.s.now (a.i + 2) h.0)

pub element_at-requires : goal.element_at-requires
element_at-requires c =
    let a = c.args in
    let e = c.name_end-e.ensures in
    let h = c.requires.i_in_bounds in
    record { at_in_bounds = (rw e (name_end_le a.s.now (a.i + 2) h.0), h.1); in_progress = c.requires.in_progress }

pub returns-then-is_word : goal.returns-then-is_word
returns-then-is_word c es ls k h =
    let a = c.args in
    let e = c.name_end-e in
    let r = c.element_at in
    let w = sym c.is_word.ensures ∙ c.if-is_word.true in
    let from = name_end_from a.s.now (a.i + 2) in
    rw (keyword_element a.long a.s.now a.i _ es ls e.ensures c.if-long-e.false w)
    (step_element a.long a.s.now r.new.elements a.heads.now a.i e.result ls (omega (arith, e.ensures)) h r.result (element a.long a.s.now e.result es) (r.ensures es k))

pub is_word-requires-2 : goal.is_word-requires-2
is_word-requires-2 c =
    let a = c.args in
    let e = c.name_end-e.ensures in
    let h = c.requires.i_in_bounds in
    omega (arith, name_end_from a.s.now (a.i + 2), name_end_le a.s.now (a.i + 2) h.0)

pub returns-then-not-is_word : goal.returns-then-not-is_word
returns-then-not-is_word c es ls k h =
    let a = c.args in
    let w = sym c.is_word.ensures ∙ c.if-is_word.false in
    let v = sym c.is_word-2.ensures ∙ c.if-not-is_word.true in
    step_refused a.long a.s.now a.elements.now a.heads.now a.i 5 a.i _ _
    (keyword_other a.long a.s.now a.i _ es ls c.name_end-e.ensures c.if-long-e.false w v) c.at-then-not-is_word.ensures

pub list_at-requires : goal.list_at-requires
list_at-requires c =
    let a = c.args in
    let e = c.name_end-e in
    let h = c.requires.i_in_bounds in
    let (es, k) = c.requires.in_progress in
    let v = sym c.is_word-2.ensures ∙ c.if-not-is_word.false in
    omega (arith, e.ensures, h, k.counted, k.room, list_word a.s.now (a.i + 2) e.result v, name_end_le a.s.now (a.i + 2) h.0)

pub returns-in_err-j : goal.returns-in_err-j
returns-in_err-j c es ls k h =
    let a = c.args in
    let e = c.name_end-e in
    let r = c.list_at in
    let w = sym c.is_word.ensures ∙ c.if-is_word.false in
    let v = sym c.is_word-2.ensures ∙ c.if-not-is_word.false in
    rw (keyword_list a.long a.s.now a.i _ es ls e.ensures c.if-long-e.false w v)
    (list_refused a.long a.s.now a.elements.now r.new.heads a.i es (attribute_list a.long a.s.now e.result es ls) _ _ (c.in_err-j.ensures.0 es ls (sym k.counted) k.recorded h) (passed_on _ c.from_residual.ensures.1))

pub returns : goal.returns
returns c es ls k h =
    let a = c.args in
    let e = c.name_end-e in
    let r = c.list_at in
    let w = sym c.is_word.ensures ∙ c.if-is_word.false in
    let v = sym c.is_word-2.ensures ∙ c.if-not-is_word.false in
    let x = c.in_ok-j.ensures.1 in
    let from = name_end_from a.s.now (a.i + 2) in
    rw (keyword_list a.long a.s.now a.i _ es ls e.ensures c.if-long-e.false w v)
    (list_onward a.long a.s.now a.elements.now r.new.heads a.i _ a.p es (attribute_list a.long a.s.now e.result es ls) _ (c.in_ok-j.ensures.0 es ls (sym k.counted) k.recorded h) k c.onward.ensures (omega (arith, e.ensures, from, x)) x.1)
