-- `piece_at` meets its contract: each way by the tests that led there.
use mathlib.Core.Path.{sym, ap, ◌∙◌}
use Rattle.text.specs.Refusal.{refusal_of}
use lib.ListN.{length}
use Rattle.document_text.specs.Ways.{piece_markup, piece_reference, piece_section, piece_byte, byte_no_start, meets_other}
use Rattle.document_text.proofs.piece_at.Goals as goal

pub returns-then-byte-eq60 : goal.returns-then-byte-eq60
returns-then-byte-eq60 c = let a = c.args in
    rw (sym (piece_markup a.long a.s.now a.i (sym c.byte.ensures ∙ c.if-byte-eq60.true))) c.markup_at.ensures

pub returns-then-is_reference : goal.returns-then-is_reference
returns-then-is_reference c = let a = c.args in
    sym (ap refusal_of c.at.ensures ∙ piece_reference a.long a.s.now a.i (λ e. c.if-byte-eq60.false (c.byte.ensures ∙ e)) (sym c.is_reference.ensures ∙ c.if-is_reference.true))

pub returns-then-is_section_end : goal.returns-then-is_section_end
returns-then-is_section_end c = let a = c.args in
    sym
    (ap refusal_of c.at-then-is_section_end.ensures ∙ piece_section a.long a.s.now a.i (λ e. c.if-byte-eq60.false (c.byte.ensures ∙ e)) (sym c.is_reference.ensures ∙ c.if-is_reference.false) (sym c.is_section_end.ensures ∙ c.if-is_section_end.true))

pub returns : goal.returns
returns c = let a = c.args in
    meets_other (length a.s.now) a.given.now c.byte_at.result c.byte_at.ensures (byte_no_start a.s.now a.i)
    (piece_byte a.long a.s.now a.i (λ x. c.if-byte-eq60.false (c.byte.ensures ∙ x)) (sym c.is_reference.ensures ∙ c.if-is_reference.false) (sym c.is_section_end.ensures ∙ c.if-is_section_end.false))
