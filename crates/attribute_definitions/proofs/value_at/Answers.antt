-- `value_at` meets its contract: a group, or a word without tokens.
use mathlib.Core.Path.{sym, ap, ◌∙◌}
use native.Mathlib.Omega.{arith}
use lib.ListN.{length}
use Rattle.rules.specs.Bytes.{letter}
use Rattle.text.specs.Refusal.{refusal_of}
use Rattle.text.specs.Words.{tested, passed_on}
use Rattle.gaps.specs.Unfit.{unfit_is}
use Rattle.name_tokens.specs.Tokens.{parts_of}
use Rattle.attribute_definitions.specs.Ways.{parenthesis_in, value_refused, value_group, value_word_lem, value_none, word_meets, word_within}
use Rattle.attribute_definitions.proofs.value_at.Goals as goal

pub group_at-requires : goal.group_at-requires
group_at-requires c = let a = c.args in
    omega (arith, parenthesis_in a.s.now a.i (sym c.byte-b.ensures ∙ c.if-b-eq40.true))

pub returns-in_err-g : goal.returns-in_err-g
returns-in_err-g c = let a = c.args in
    let o = a.long in
    let ts = parts_of a.seen.now a.m in
    rw (passed_on _ c.from_residual.ensures.1) record { meets_value = value_refused o a.s.now ts a.i (sym c.byte-b.ensures ∙ c.if-b-eq40.true) c.in_err-g.ensures.meets_group; value_fits = tt }

pub returns-then-b-eq40 : goal.returns-then-b-eq40
returns-then-b-eq40 c = let a = c.args in
    let o = a.long in
    let ts = parts_of a.seen.now a.m in record { meets_value = value_group o a.s.now ts a.i (sym c.byte-b.ensures ∙ c.if-b-eq40.true) _ a.m _ _ (omega arith) c.in_ok-g.ensures.meets_group; value_fits = omega (arith, c.in_ok-g.ensures.group_in) }

pub returns-then-is_letter : goal.returns-then-is_letter
returns-then-is_letter c = let a = c.args in
    let o = a.long in
    let ts = parts_of a.seen.now a.m in record { meets_value = word_meets o a.s.now a.seen.now a.m a.i c.word_at.result (value_word_lem o a.s.now ts a.i (λ e. c.if-b-eq40.false (c.byte-b.ensures ∙ e)) (tested letter c.byte-b.ensures c.is_letter.ensures c.if-is_letter.true)) c.word_at.ensures.0 c.word_at.ensures.1; value_fits = word_within {end = length a.s.now} a.i a.m c.word_at.result (omega arith) c.word_at.ensures.1 }

pub returns : goal.returns
returns c = let a = c.args in
    let o = a.long in
    let ts = parts_of a.seen.now a.m in
    record { meets_value = value_none o a.s.now ts a.i (λ e. c.if-b-eq40.false (c.byte-b.ensures ∙ e)) (tested letter c.byte-b.ensures c.is_letter.ensures c.if-is_letter.false) ∙ sym (unfit_is a.s.now a.i) ∙ ap refusal_of (sym c.unfit_at.ensures); value_fits = tt }
