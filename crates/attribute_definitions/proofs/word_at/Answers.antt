-- `word_at` meets its contract: each way by the tests that led there.
use native.Mathlib.Omega.{arith}
use Rattle.text.specs.Words.{name_end_from, name_end_le}
use Rattle.attribute_definitions.specs.Ways.{word_long, word_cdata, word_number, word_name, word_cut, word_cut_2, word_cut_3, word_wrong}
use Rattle.attribute_definitions.proofs.word_at.Goals as goal

pub overflow_sub-e : goal.overflow_sub-e
overflow_sub-e c = omega (arith, name_end_from c.args.s.now c.args.i, c.name_end-e.ensures)

pub returns-then-long-e : goal.returns-then-long-e
returns-then-long-e c = let a = c.args in
    rw c.at.ensures (word_long a.long a.s.now a.i _ c.name_end-e.ensures c.if-long-e.true, tt)

pub is_word-requires : goal.is_word-requires
is_word-requires c = omega (arith, name_end_from c.args.s.now c.args.i, name_end_le c.args.s.now c.args.i (omega arith), c.name_end-e.ensures)

pub returns-then-is_word : goal.returns-then-is_word
returns-then-is_word c = let a = c.args in
    (word_cdata a.long a.s.now a.i _ c.name_end-e.ensures c.if-long-e.false c.is_word.ensures c.if-is_word.true, omega (arith, name_end_from a.s.now a.i, name_end_le a.s.now a.i (omega arith), c.name_end-e.ensures))

pub is_word-requires-2 : goal.is_word-requires-2
is_word-requires-2 c = omega (arith, name_end_from c.args.s.now c.args.i, name_end_le c.args.s.now c.args.i (omega arith), c.name_end-e.ensures)

pub returns-then-is_word-2 : goal.returns-then-is_word-2
returns-then-is_word-2 c = let a = c.args in
    (word_number a.long a.s.now a.i _ c.name_end-e.ensures c.if-long-e.false c.is_word.ensures c.if-is_word.false c.is_word-2.ensures c.if-is_word-2.true, omega (arith, name_end_from a.s.now a.i, name_end_le a.s.now a.i (omega arith), c.name_end-e.ensures))

pub is_word-requires-3 : goal.is_word-requires-3
is_word-requires-3 c = omega (arith, name_end_from c.args.s.now c.args.i, name_end_le c.args.s.now c.args.i (omega arith), c.name_end-e.ensures)

pub returns-then-is_word-3 : goal.returns-then-is_word-3
returns-then-is_word-3 c = let a = c.args in (
  word_name a.long a.s.now a.i _ c.name_end-e.ensures c.if-long-e.false c.is_word.ensures c.if-is_word.false c.is_word-2.ensures c.if-is_word-2.false c.is_word-3.ensures c.if-is_word-3.true,
  omega (arith, name_end_from a.s.now a.i, name_end_le a.s.now a.i (omega arith), c.name_end-e.ensures),
)

pub is_cut-requires : goal.is_cut-requires
is_cut-requires c = omega (arith, name_end_from c.args.s.now c.args.i, name_end_le c.args.s.now c.args.i (omega arith), c.name_end-e.ensures)

pub returns-then-is_cut : goal.returns-then-is_cut
returns-then-is_cut c = let a = c.args in
    rw c.at-then-is_cut.ensures
    (word_cut a.long a.s.now a.i _ c.name_end-e.ensures c.if-long-e.false c.is_word.ensures c.if-is_word.false c.is_word-2.ensures c.if-is_word-2.false c.is_word-3.ensures c.if-is_word-3.false c.is_cut.ensures c.if-is_cut.true, tt)

pub is_cut-requires-2 : goal.is_cut-requires-2
is_cut-requires-2 c = omega (arith, name_end_from c.args.s.now c.args.i, name_end_le c.args.s.now c.args.i (omega arith), c.name_end-e.ensures)

pub returns-then-is_cut-2 : goal.returns-then-is_cut-2
returns-then-is_cut-2 c = let a = c.args in
    rw c.at-then-is_cut-2.ensures (
      word_cut_2 a.long a.s.now a.i _ c.name_end-e.ensures c.if-long-e.false c.is_word.ensures c.if-is_word.false c.is_word-2.ensures c.if-is_word-2.false c.is_word-3.ensures c.if-is_word-3.false c.is_cut.ensures c.if-is_cut.false
          c.is_cut-2.ensures c.if-is_cut-2.true,
      tt,
    )

pub is_cut-requires-3 : goal.is_cut-requires-3
is_cut-requires-3 c = omega (arith, name_end_from c.args.s.now c.args.i, name_end_le c.args.s.now c.args.i (omega arith), c.name_end-e.ensures)

pub returns-then-is_cut-3 : goal.returns-then-is_cut-3
returns-then-is_cut-3 c = let a = c.args in
    rw c.at-then-is_cut-3.ensures (
      word_cut_3 a.long a.s.now a.i _ c.name_end-e.ensures c.if-long-e.false c.is_word.ensures c.if-is_word.false c.is_word-2.ensures c.if-is_word-2.false c.is_word-3.ensures c.if-is_word-3.false c.is_cut.ensures c.if-is_cut.false
          c.is_cut-2.ensures c.if-is_cut-2.false c.is_cut-3.ensures c.if-is_cut-3.true,
      tt,
    )

pub returns : goal.returns
returns c = let a = c.args in
    rw c.at-2.ensures (
      word_wrong a.long a.s.now a.i _ c.name_end-e.ensures c.if-long-e.false c.is_word.ensures c.if-is_word.false c.is_word-2.ensures c.if-is_word-2.false c.is_word-3.ensures c.if-is_word-3.false c.is_cut.ensures c.if-is_cut.false
          c.is_cut-2.ensures c.if-is_cut-2.false c.is_cut-3.ensures c.if-is_cut-3.false,
      tt,
    )
