-- `start_tag_at` meets its contract: each way by the tests that led there.
use mathlib.Core.Path.{sym, ap, ◌∙◌}
use mathlib.Core.List.{[]}
use native.Mathlib.Omega.{arith}
use lib.ListN.{length}
use Rattle.rules.specs.Bytes.{MDC}
use Rattle.text.specs.Refusal.{refusal_of}
use Rattle.text.specs.Words.{byte_is_in, name_end_from, name_end_le, separators_end_from, separators_end_le}
use Rattle.tags.specs.Attributes.{start_long, start_on, start_ends, read_none}
use Rattle.tags.proofs.start_tag_at.Goals as goal

pub overflow_sub-size : goal.overflow_sub-size
overflow_sub-size c = let a = c.args in
    omega (arith, name_end_from a.s.now a.i)

pub returns-then-long-size : goal.returns-then-long-size
returns-then-long-size c = let a = c.args in
    start_long a.long a.s.now a.i _ c.name_end-e.ensures (omega arith) ∙ sym (ap refusal_of c.at.ensures)

pub separators_end-j-requires : goal.separators_end-j-requires
separators_end-j-requires c = let a = c.args in
    omega (arith, name_end_le a.s.now a.i c.requires.1)

pub overflow_add-result : goal.overflow_add-result
overflow_add-result c = let a = c.args in
    omega (arith, byte_is_in a.s.now c.separators_end-j.result MDC (sym c.byte.ensures ∙ c.if-byte-eq62.true) (omega arith))

pub returns-then-byte-eq62 : goal.returns-then-byte-eq62
returns-then-byte-eq62 c = let a = c.args in
    ([], start_ends a.long a.s.now a.i _ c.name_end-e.ensures (omega arith) _ c.separators_end-j.ensures (sym c.byte.ensures ∙ c.if-byte-eq62.true), read_none (length a.s.now) a.given.now)

pub attributes_at-requires : goal.attributes_at-requires
attributes_at-requires c = let s = c.args.s.now in
    let e = name_end_le s c.args.i (omega arith) in
    let from = name_end_from s c.args.i in
    (c.requires.0, omega arith, omega (arith, separators_end_from s c.name_end-e.result), omega (arith, separators_end_le s c.name_end-e.result (omega arith)), omega arith)

pub returns : goal.returns
returns c = let a = c.args in
    rw (start_on a.long a.s.now a.i _ c.name_end-e.ensures (omega arith) _ c.separators_end-j.ensures) c.attributes_at.ensures
