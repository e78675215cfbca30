-- `body_at` meets its contract: by the first byte of the content.
use Rattle.std.proofs.Common.{◌≡◌, sym, ap, ◌∙◌, length, arith}
use Rattle.rules.specs.Bytes.{byte_at, letter, GRPO}
use Rattle.text.specs.Refusal.{refusal_of}
use Rattle.text.specs.Words.{tested, byte_is_in}
use Rattle.gaps.specs.Unfit.{unfit_is}
use Rattle.element_content.specs.Contents.{content_model_lem, content_word_lem, content_unfit, body_refused}
use Rattle.element_content.proofs.body_at.Goals as goal

pub body_model-requires : goal.body_model-requires
body_model-requires c =
    let a = c.args in
    let opens : byte_at a.s.now a.i ≡ GRPO = sym c.byte-b.ensures ∙ c.if-b-eq40.true in
    omega (arith, byte_is_in a.s.now a.i GRPO opens (omega arith))

pub returns-then-b-eq40 : goal.returns-then-b-eq40
returns-then-b-eq40 c =
    let a = c.args in
    rw (content_model_lem a.long a.s.now a.from a.i (sym c.byte-b.ensures ∙ c.if-b-eq40.true)) c.body_model.ensures

pub returns-then-is_letter : goal.returns-then-is_letter
returns-then-is_letter c =
    let a = c.args in
    rw (content_word_lem a.long a.s.now a.from a.i (λ e. c.if-b-eq40.false (c.byte-b.ensures ∙ e)) (tested letter c.byte-b.ensures c.is_letter.ensures c.if-is_letter.true)) c.body_word.ensures

pub returns : goal.returns
returns c =
    let a = c.args in
    let letter_is = tested letter c.byte-b.ensures c.is_letter.ensures c.if-is_letter.false in
    let unfit = content_unfit a.long a.s.now a.from a.i (λ e. c.if-b-eq40.false (c.byte-b.ensures ∙ e)) letter_is in
    body_refused (length a.s.now) a.names.now a.table.now c.unfit_at.result _
    (unfit ∙ sym (unfit_is a.s.now a.i) ∙ ap refusal_of (sym c.unfit_at.ensures))
