-- `specification_at` meets its contract: each way by the tests that led there.
use mathlib.Core.Path.{refl, sym, ap, ◌∙◌}
use native.Mathlib.Omega.{arith}
use Rattle.rules.specs.Attributes.{quote}
use Rattle.rules_laws.specs.Holds.{got_so}
use Rattle.rules_laws.specs.Definitions.{literal_holds}
use Rattle.text.specs.Refusal.{refusal_of}
use Rattle.text.specs.Words.{test_in, tested, name_end_from, name_end_le, handed_on}
use Rattle.tag_attributes.specs.Given.{written_as}
use Rattle.tag_attributes.specs.Ways.{EqualsAt, equals_in, name_long, equals_missing, quote_missing, literal_refused, literal_read}
use Rattle.tag_attributes.proofs.specification_at.Goals as goal

pub overflow_sub-e : goal.overflow_sub-e
overflow_sub-e c = let a = c.args in
    omega (arith, name_end_from a.s.now a.i)

pub returns-then-long-e : goal.returns-then-long-e
returns-then-long-e c = let a = c.args in
    ap refusal_of c.at.ensures ∙ name_long a.long a.s.now a.i _ c.name_end-e.ensures (omega arith)

pub separators_end-j-requires : goal.separators_end-j-requires
separators_end-j-requires c = let a = c.args in
    omega (arith, name_end_le a.s.now a.i c.requires.1)

pub returns-then-byte-ne61 : goal.returns-then-byte-ne61
returns-then-byte-ne61 c = let a = c.args in
    ap refusal_of c.at-then-byte-ne61.ensures
    ∙ equals_missing a.long a.s.now a.i _ c.name_end-e.ensures c.if-long-e.false _ c.separators_end-j.ensures (λ x. c.if-byte-ne61.true (c.byte.ensures ∙ x))

pub overflow_add-j : goal.overflow_add-j
overflow_add-j c =
    let x : EqualsAt c.args.s.now c.name_end-e.result c.separators_end-j.result =
    record { behind = c.separators_end-j.ensures; here = sym c.byte.ensures ∙ c.if-byte-ne61.false } in
    omega (arith, equals_in x)

pub separators_end-k-requires : goal.separators_end-k-requires
separators_end-k-requires c =
    let x : EqualsAt c.args.s.now c.name_end-e.result c.separators_end-j.result =
    record { behind = c.separators_end-j.ensures; here = sym c.byte.ensures ∙ c.if-byte-ne61.false } in
    omega (arith, equals_in x)

pub returns-then-not-is_quote : goal.returns-then-not-is_quote
returns-then-not-is_quote c = let a = c.args in
    ap refusal_of c.at-then-not-is_quote.ensures
    ∙ quote_missing a.long a.s.now a.i _ c.name_end-e.ensures c.if-long-e.false _
    (record { behind = c.separators_end-j.ensures; here = sym c.byte.ensures ∙ c.if-byte-ne61.false }) _
    c.separators_end-k.ensures (tested quote c.byte-2.ensures c.is_quote.ensures c.if-not-is_quote.true)

pub literal_end-requires : goal.literal_end-requires
literal_end-requires c = test_in quote refl c.args.s.now _ (tested quote c.byte-2.ensures c.is_quote.ensures c.if-not-is_quote.false)

pub returns-in_err-q : goal.returns-in_err-q
returns-in_err-q c = let a = c.args in
    handed_on written_as _ c.from_residual.ensures.1
    ∙ literal_refused a.long a.s.now a.i _ c.name_end-e.ensures c.if-long-e.false _
    (record { behind = c.separators_end-j.ensures; here = sym c.byte.ensures ∙ c.if-byte-ne61.false }) _
    (record { behind = c.separators_end-k.ensures; here = tested quote c.byte-2.ensures c.is_quote.ensures c.if-not-is_quote.false })
    _ _ (sym c.in_err-q.ensures)

pub overflow_sub-result : goal.overflow_sub-result
overflow_sub-result c = let a = c.args in
    omega (arith, name_end_from a.s.now a.i, c.name_end-e.ensures)

pub overflow_sub-result-2 : goal.overflow_sub-result-2
overflow_sub-result-2 c = let s = c.args.s.now in
    omega (arith, got_so (literal_holds s c.separators_end-k.result) (sym c.in_ok-q.ensures))

pub returns : goal.returns
returns c = let a = c.args in
    literal_read a.long a.s.now a.i _ c.name_end-e.ensures c.if-long-e.false _
    (record { behind = c.separators_end-j.ensures; here = sym c.byte.ensures ∙ c.if-byte-ne61.false }) _
    (record { behind = c.separators_end-k.ensures; here = tested quote c.byte-2.ensures c.is_quote.ensures c.if-not-is_quote.false })
    _ (sym c.in_ok-q.ensures)
