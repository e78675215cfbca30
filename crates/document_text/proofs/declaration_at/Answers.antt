-- `declaration_at` meets its contract: each way by the tests that led there.
use mathlib.Core.Path.{sym, ap, ◌∙◌}
use Rattle.std.proofs.Common.{rules}
use Rattle.text.specs.Refusal.{refusal_of, reached}
use Rattle.text.specs.Words.{passed_on}
use Rattle.document_text.specs.PieceOf.{piece_of, as_skipped}
use Rattle.document_text.specs.Ways.{remalformed, declaration_none, declaration_comment, declaration_out, declaration_data}
use Rattle.document_text.proofs.declaration_at.Goals as goal

pub returns-then-b-eq62 : goal.returns-then-b-eq62
returns-then-b-eq62 c = let a = c.args in
    declaration_none a.s.now a.i _ c.byte-b.ensures c.if-b-eq62.true

pub comment_end-requires : goal.comment_end-requires
comment_end-requires c = sym c.dashes_at.ensures ∙ c.if-dashes_at.true

pub returns-then-dashes_at : goal.returns-then-dashes_at
returns-then-dashes_at c = let a = c.args in
    sym (ap (λ r. as_skipped (reached r)) c.in_ok-after.was)
    ∙ ap as_skipped (remalformed _ _ c.map_err.ensures.cases (λ f g h. search rules))
    ∙ declaration_comment a.s.now a.i _ c.byte-b.ensures c.if-b-eq62.false _ c.comment_end.ensures (sym c.dashes_at.ensures ∙ c.if-dashes_at.true)

pub returns-in_err-after : goal.returns-in_err-after
returns-in_err-after c = let a = c.args in
    ap piece_of (passed_on _ c.from_residual.ensures.1)
    ∙ sym (ap (λ r. as_skipped (reached r)) c.in_err-after.was)
    ∙ ap as_skipped (remalformed _ _ c.map_err.ensures.cases (λ f g h. search rules))
    ∙ declaration_comment a.s.now a.i _ c.byte-b.ensures c.if-b-eq62.false _ c.comment_end.ensures (sym c.dashes_at.ensures ∙ c.if-dashes_at.true)

pub returns-then-is_left_out : goal.returns-then-is_left_out
returns-then-is_left_out c = let a = c.args in
    ap refusal_of c.at.ensures ∙ declaration_out a.s.now a.i _ c.byte-b.ensures c.if-b-eq62.false (sym c.dashes_at.ensures ∙ c.if-dashes_at.false) (sym c.is_left_out.ensures ∙ c.if-is_left_out.true)

pub returns : goal.returns
returns c = let a = c.args in
    declaration_data a.s.now a.i _ c.byte-b.ensures c.if-b-eq62.false (sym c.dashes_at.ensures ∙ c.if-dashes_at.false) (sym c.is_left_out.ensures ∙ c.if-is_left_out.false)
