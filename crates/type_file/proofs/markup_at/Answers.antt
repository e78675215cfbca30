-- `markup_at` meets its contract: each way by the tests that led there.
use Prim.Native.Nat.{◌+◌}
use mathlib.Core.Path.{refl, sym, ◌∙◌}
use native.Mathlib.Omega.{arith}
use Rattle.rules.specs.Bytes.{MDC}
use Rattle.text.specs.Words.{byte_is_in, passed_on}
use Rattle.type_file.specs.Declarations.{step_refused, step_onward, markup_none, markup_dash, markup_comment, markup_section, markup_keyword, markup_other, comment_opens, comment_refused, comment_onward}
use Rattle.type_file.proofs.markup_at.Goals as goal

pub returns-then-b-eq62 : goal.returns-then-b-eq62
returns-then-b-eq62 c es ls k h = let a = c.args in
    let b = c.byte-b.ensures in
    let q = c.if-b-eq62.true in
    let in_text = byte_is_in a.s.now (a.i + 2) MDC (sym b ∙ q) (omega arith) in
    step_onward a.long a.s.now a.elements.now a.heads.now a.i (a.i + 3) a.p es ls _ _ k h (markup_none a.long a.s.now a.i _ es ls b q) c.onward.ensures (omega arith) (omega arith)

pub returns-then-byte-ne45 : goal.returns-then-byte-ne45
returns-then-byte-ne45 c es ls k h = let a = c.args in
    let b = c.byte-b.ensures in
    let d = c.byte.ensures in
    step_refused a.long a.s.now a.elements.now a.heads.now a.i 4 (a.i + 3) _ _
    (markup_dash a.long a.s.now a.i _ es ls b _ d c.if-b-eq45.true c.if-byte-ne45.true) c.at.ensures

pub comment_end-requires : goal.comment_end-requires
comment_end-requires c = comment_opens c.args.s.now c.args.i (sym c.byte-b.ensures ∙ c.if-b-eq45.true) (sym c.byte.ensures ∙ c.if-byte-ne45.false)

pub returns-in_err-j : goal.returns-in_err-j
returns-in_err-j c es ls k h = let a = c.args in
    let b = c.byte-b.ensures in
    let d = c.byte.ensures in
    comment_refused a.long a.s.now a.elements.now a.heads.now a.i es ls _ _
    (markup_comment a.long a.s.now a.i _ es ls b _ d c.if-b-eq45.true _ c.if-byte-ne45.false refl) _ _
    c.in_err-j.ensures (passed_on _ c.from_residual.ensures.1)

pub returns-then-b-eq45 : goal.returns-then-b-eq45
returns-then-b-eq45 c es ls k h = let a = c.args in
    let b = c.byte-b.ensures in
    let d = c.byte.ensures in
    comment_onward a.long a.s.now a.elements.now a.heads.now a.i es ls _ _
    (markup_comment a.long a.s.now a.i _ es ls b _ d c.if-b-eq45.true _ c.if-byte-ne45.false refl) _ a.p _
    (comment_opens c.args.s.now c.args.i (sym c.byte-b.ensures ∙ c.if-b-eq45.true) (sym c.byte.ensures ∙ c.if-byte-ne45.false)) c.in_ok-j.ensures refl k h c.onward-then-b-eq45.ensures

pub returns-then-b-eq91 : goal.returns-then-b-eq91
returns-then-b-eq91 c es ls k h = let a = c.args in
    let b = c.byte-b.ensures in
    step_refused a.long a.s.now a.elements.now a.heads.now a.i 5 a.i _ _ (markup_section a.long a.s.now a.i _ es ls b c.if-b-eq91.true) c.at-then-b-eq91.ensures

pub keyword_at-requires : goal.keyword_at-requires
keyword_at-requires c = c.requires

pub returns-then-is_letter : goal.returns-then-is_letter
returns-then-is_letter c es ls k h = let a = c.args in
    let b = c.byte-b.ensures in
    let l = sym c.is_letter.ensures ∙ c.if-is_letter.true in
    rw (markup_keyword a.long a.s.now a.i _ es ls b c.if-b-eq62.false c.if-b-eq45.false c.if-b-eq91.false l)
    (c.keyword_at.ensures es ls k h)

pub returns : goal.returns
returns c es ls k h = let a = c.args in
    let b = c.byte-b.ensures in
    let l = sym c.is_letter.ensures ∙ c.if-is_letter.false in
    step_refused a.long a.s.now a.elements.now a.heads.now a.i 4 (a.i + 2) _ _
    (markup_other a.long a.s.now a.i _ es ls b c.if-b-eq62.false c.if-b-eq45.false c.if-b-eq91.false l) c.at-2.ensures
