-- `tag_at` meets its contract: each way by the tests that led there.
use mathlib.Core.Path.{sym, ap, ◌∙◌}
use native.Mathlib.Omega.{arith}
use Rattle.rules.specs.Bytes.{MDC}
use Rattle.text.specs.Refusal.{refusal_of}
use Rattle.text.specs.Words.{byte_is_in, name_end_from, name_end_le}
use Rattle.tags.specs.Tags.{tag_long, tag_read, tag_open}
use Rattle.tags.proofs.tag_at.Goals as goal

pub overflow_sub-e : goal.overflow_sub-e
overflow_sub-e c = let a = c.args in
    omega (arith, name_end_from a.s.now a.i)

pub returns-then-long-e : goal.returns-then-long-e
returns-then-long-e c = let a = c.args in
    ap refusal_of c.at.ensures ∙ tag_long a.long a.s.now a.i _ c.name_end-e.ensures (omega arith)

pub separators_end-j-requires : goal.separators_end-j-requires
separators_end-j-requires c = let a = c.args in
    omega (arith, name_end_le a.s.now a.i c.requires.1)

pub overflow_sub-result : goal.overflow_sub-result
overflow_sub-result c = let a = c.args in
    omega (arith, name_end_from a.s.now a.i)

pub overflow_add-result : goal.overflow_add-result
overflow_add-result c = let a = c.args in
    omega (arith, byte_is_in a.s.now c.separators_end-j.result MDC (sym c.byte.ensures ∙ c.if-byte-eq62.true) (omega arith))

pub returns-then-byte-eq62 : goal.returns-then-byte-eq62
returns-then-byte-eq62 c = let a = c.args in
    tag_read a.long a.s.now a.i _ c.name_end-e.ensures _ c.separators_end-j.ensures (omega arith) (sym c.byte.ensures ∙ c.if-byte-eq62.true)

pub returns : goal.returns
returns c = let a = c.args in
    ap refusal_of c.at-2.ensures ∙ tag_open a.long a.s.now a.i _ c.name_end-e.ensures _ c.separators_end-j.ensures (omega arith) (λ e. c.if-byte-eq62.false (c.byte.ensures ∙ e))
