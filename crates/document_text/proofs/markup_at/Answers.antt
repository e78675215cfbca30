-- `markup_at` meets its contract: each way by the tests that led there.
use Prim.Native.Nat.{◌+◌}
use mathlib.Core.Path.{sym, ap, ◌∙◌}
use native.Mathlib.Omega.{arith}
use lib.ListN.{length}
use lib.Dec.{eqb}
use Rattle.basic_laws.specs.Truth.{and_right}
use Rattle.rules.specs.Bytes.{byte_at, SOLIDUS}
use Rattle.text.specs.Refusal.{refusal_of}
use Rattle.text.specs.Words.{letter_in, passed_on}
use Rattle.document_text.specs.PieceOf.{as_start_tag}
use Rattle.document_text.specs.Ways.{markup_start, markup_end, markup_declaration, markup_out, markup_data, declaration_no_start, meets_other}
use Rattle.document_text.proofs.markup_at.Goals as goal

pub returns-then-is_letter : goal.returns-then-is_letter
returns-then-is_letter c = let a = c.args in
    let o = a.long in
    rw (sym (markup_start o a.s.now a.i _ c.byte-b.ensures (sym c.is_letter.ensures ∙ c.if-is_letter.true)))
    (c.in_ok-start_tag_at.ensures.0, ap as_start_tag c.in_ok-start_tag_at.ensures.1, c.in_ok-start_tag_at.ensures.2)

pub returns-in_err-start_tag_at : goal.returns-in_err-start_tag_at
returns-in_err-start_tag_at c = let a = c.args in
    rw (passed_on _ c.from_residual.ensures.1)
    (sym (markup_start a.long a.s.now a.i _ c.byte-b.ensures (sym c.is_letter.ensures ∙ c.if-is_letter.true)) ∙ ap as_start_tag c.in_err-start_tag_at.ensures)

pub tag_at-requires : goal.tag_at-requires
tag_at-requires c = let a = c.args in
    (c.requires.0, omega (arith, letter_in a.s.now (a.i + 2) (and_right (eqb (byte_at a.s.now (a.i + 1)) SOLIDUS) _ (sym c.is_end_tag.ensures ∙ c.if-is_end_tag.true))))

pub returns-then-is_end_tag : goal.returns-then-is_end_tag
returns-then-is_end_tag c = let a = c.args in
    sym (markup_end a.long a.s.now a.i _ c.byte-b.ensures (sym c.is_letter.ensures ∙ c.if-is_letter.false)
    (sym c.is_end_tag.ensures ∙ c.if-is_end_tag.true) _ c.in_ok-tag_at.ensures)

pub returns-in_err-tag_at : goal.returns-in_err-tag_at
returns-in_err-tag_at c = let a = c.args in
    rw (passed_on _ c.from_residual-in_err-tag_at.ensures.1)
    (sym (markup_end a.long a.s.now a.i _ c.byte-b.ensures (sym c.is_letter.ensures ∙ c.if-is_letter.false)
    (sym c.is_end_tag.ensures ∙ c.if-is_end_tag.true) _ c.in_err-tag_at.ensures))

pub returns-then-b-eq33 : goal.returns-then-b-eq33
returns-then-b-eq33 c = let a = c.args in
    meets_other (length a.s.now) a.given.now c.declaration_at.result c.declaration_at.ensures (declaration_no_start a.s.now a.i)
    (markup_declaration a.long a.s.now a.i _ c.byte-b.ensures (sym c.is_letter.ensures ∙ c.if-is_letter.false) (sym c.is_end_tag.ensures ∙ c.if-is_end_tag.false) c.if-b-eq33.true)

pub returns-then-b-eq63 : goal.returns-then-b-eq63
returns-then-b-eq63 c = let a = c.args in
    sym
    (ap refusal_of c.at.ensures
    ∙ markup_out a.long a.s.now a.i _ c.byte-b.ensures (sym c.is_letter.ensures ∙ c.if-is_letter.false) (sym c.is_end_tag.ensures ∙ c.if-is_end_tag.false) c.if-b-eq33.false c.if-b-eq63.true)

pub returns : goal.returns
returns c = let a = c.args in
    sym
    (markup_data a.long a.s.now a.i _ c.byte-b.ensures (sym c.is_letter.ensures ∙ c.if-is_letter.false) (sym c.is_end_tag.ensures ∙ c.if-is_end_tag.false) c.if-b-eq33.false c.if-b-eq63.false)
