-- `default_at` meets its contract: each way by the tests that led there.
use mathlib.Core.Path.{sym, ap, ◌∙◌}
use native.Mathlib.Omega.{arith}
use Rattle.rules.specs.Attributes.{quote}
use Rattle.text.specs.Refusal.{refusal_of}
use Rattle.text.specs.Words.{tested}
use Rattle.gaps.specs.Unfit.{unfit_is}
use Rattle.attribute_defaults.specs.Ways.{hash_joined, hash_word, quote_none, quote_joined, quote_literal, hash_in, quote_in}
use Rattle.attribute_defaults.proofs.default_at.Goals as goal

pub returns-then-is_joined : goal.returns-then-is_joined
returns-then-is_joined c = let a = c.args in
    let o = a.long in
    rw c.at.ensures (λ y d. (hash_joined o a.s.now y a.from a.i (sym c.byte-b.ensures ∙ c.if-b-eq35.true) (sym (c.is_joined.ensures o a.s.now y d) ∙ c.if-is_joined.true)), tt)

pub word_at-requires : goal.word_at-requires
word_at-requires c = let a = c.args in
    omega (arith, hash_in a.s.now a.i (sym c.byte-b.ensures ∙ c.if-b-eq35.true))

pub returns-then-b-eq35 : goal.returns-then-b-eq35
returns-then-b-eq35 c = let a = c.args in
    let o = a.long in
    (λ y d. c.word_at.ensures.0 ∙ hash_word o a.s.now y a.from a.i (sym c.byte-b.ensures ∙ c.if-b-eq35.true) (sym (c.is_joined.ensures o a.s.now y d) ∙ c.if-is_joined.false), c.word_at.ensures.1)

pub returns-then-not-is_quote : goal.returns-then-not-is_quote
returns-then-not-is_quote c = let a = c.args in (
  λ y d.
      ap refusal_of c.unfit_at.ensures ∙ unfit_is a.s.now a.i
      ∙ sym (quote_none a.long a.s.now y a.from a.i (λ e. c.if-b-eq35.false (c.byte-b.ensures ∙ e)) (tested quote c.byte-b.ensures c.is_quote.ensures c.if-not-is_quote.true)),
  tt,
)

pub returns-then-is_joined-2 : goal.returns-then-is_joined-2
returns-then-is_joined-2 c = let a = c.args in
    let o = a.long in
    rw c.at-then-is_joined-2.ensures (
      λ y d. quote_joined o a.s.now y a.from a.i (λ e. c.if-b-eq35.false (c.byte-b.ensures ∙ e)) (tested quote c.byte-b.ensures c.is_quote.ensures c.if-not-is_quote.false)
          (sym (c.is_joined-2.ensures o a.s.now y d) ∙ c.if-is_joined-2.true),
      tt,
    )

pub literal_at-requires : goal.literal_at-requires
literal_at-requires c = let a = c.args in
    omega (arith, quote_in a.s.now a.i (tested quote c.byte-b.ensures c.is_quote.ensures c.if-not-is_quote.false))

pub returns : goal.returns
returns c = let a = c.args in
    let o = a.long in (
      λ y d.
          c.literal_at.ensures.0 y d
          ∙ quote_literal o a.s.now y a.from a.i (λ e. c.if-b-eq35.false (c.byte-b.ensures ∙ e)) (tested quote c.byte-b.ensures c.is_quote.ensures c.if-not-is_quote.false)
          (sym (c.is_joined-2.ensures o a.s.now y d) ∙ c.if-is_joined-2.false),
      c.literal_at.ensures.1,
    )
