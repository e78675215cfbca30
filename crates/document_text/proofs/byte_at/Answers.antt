-- `byte_at` meets its contract: each way by the tests that led there.
use mathlib.Core.Path.{sym, ◌∙◌}
use Rattle.document_text.specs.Ways.{byte_skipped, byte_blank, byte_data}
use Rattle.document_text.proofs.byte_at.Goals as goal

pub returns-then-b-eq10 : goal.returns-then-b-eq10
returns-then-b-eq10 c = let a = c.args in
    byte_skipped a.s.now a.i _ c.byte-b.ensures c.if-b-eq10.true

pub returns-then-is_blank : goal.returns-then-is_blank
returns-then-is_blank c = let a = c.args in
    byte_blank a.s.now a.i _ c.byte-b.ensures c.if-b-eq10.false (sym c.is_blank.ensures ∙ c.if-is_blank.true)

pub returns : goal.returns
returns c = let a = c.args in
    byte_data a.s.now a.i _ c.byte-b.ensures c.if-b-eq10.false (sym c.is_blank.ensures ∙ c.if-is_blank.false)
