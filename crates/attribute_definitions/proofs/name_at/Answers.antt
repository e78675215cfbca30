-- `name_at` meets its contract: each way by the tests that led there.
use mathlib.Core.Path.{ap, ◌∙◌}
use native.Mathlib.Omega.{arith}
use Rattle.text.specs.Refusal.{refusal_of}
use Rattle.text.specs.Words.{name_end_from, name_end_le}
use Rattle.list_table.specs.Finds.{number_not, number_some}
use Rattle.attribute_definitions.specs.Ways.{name_long, name_joined, name_twice, name_full, name_got}
use Rattle.attribute_definitions.proofs.name_at.Goals as goal

pub overflow_sub-e : goal.overflow_sub-e
overflow_sub-e c = omega (arith, name_end_from c.args.s.now c.args.i, c.name_end-e.ensures)

pub returns-then-long-e : goal.returns-then-long-e
returns-then-long-e c = let a = c.args in
    record { result_value = λ xs m l. ap refusal_of c.at.ensures ∙ name_long a.long a.s.now xs a.from a.i _ c.name_end-e.ensures c.if-long-e.true; name_fits = tt }

pub returns-then-i-from : goal.returns-then-i-from
returns-then-i-from c = let a = c.args in
    record { result_value = λ xs m l. ap refusal_of c.at-then-i-from.ensures ∙ name_joined a.long a.s.now xs a.from a.i _ c.name_end-e.ensures c.if-long-e.false c.if-i-from.true; name_fits = tt }

pub overflow_sub-e-2 : goal.overflow_sub-e-2
overflow_sub-e-2 c = omega (arith, name_end_from c.args.s.now c.args.i, c.name_end-e.ensures)

pub find-requires : goal.find-requires
find-requires c = let a = c.args in
    omega (arith, name_end_from a.s.now a.i, name_end_le a.s.now a.i (omega arith), c.name_end-e.ensures)

pub returns-then-is_some : goal.returns-then-is_some
returns-then-is_some c = let a = c.args in
    record { result_value = λ xs m l. ap refusal_of c.at-then-is_some.ensures ∙ name_twice a.long a.s.now xs a.from a.i _ c.name_end-e.ensures c.if-long-e.false c.if-i-from.false (c.find.ensures.0 a.long xs l) (number_some _ c.find.ensures.1 c.is_some.ensures c.if-is_some.true); name_fits = tt }

pub returns-then-n-ge-ATTCNT : goal.returns-then-n-ge-ATTCNT
returns-then-n-ge-ATTCNT c = let a = c.args in
    record { result_value = λ xs m l. ap refusal_of c.at-then-n-ge-ATTCNT.ensures ∙ name_full a.long a.s.now xs a.from a.i _ c.name_end-e.ensures c.if-long-e.false c.if-i-from.false (c.find.ensures.0 a.long xs l) (number_not _ c.is_some.ensures c.if-is_some.false) (omega (arith, m, c.if-n-ge-ATTCNT.true)); name_fits = tt }

pub returns : goal.returns
returns c = let a = c.args in record { result_value = λ xs m l. name_got a.long a.s.now xs a.from a.i _ c.name_end-e.ensures c.if-long-e.false c.if-i-from.false (c.find.ensures.0 a.long xs l) (number_not _ c.is_some.ensures c.if-is_some.false) (omega (arith, m, c.if-n-ge-ATTCNT.false)); name_fits = omega (arith, name_end_from a.s.now a.i, name_end_le a.s.now a.i (omega arith), c.name_end-e.ensures, c.if-n-ge-ATTCNT.false) }
