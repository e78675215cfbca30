-- `word_at` meets its contract: each way by the tests that led there.
use Prim.Native.Nat.{ℕ, ◌+◌, ◌<◌, ◌≤◌}
use mathlib.Core.List.{List}
use mathlib.Core.Path.{◌≡◌, sym}
use native.Mathlib.Omega.{arith}
use lib.ListN.{length}
use Rattle.rules.specs.Bytes.{letter, name_end}
use Rattle.text.specs.Words.{tested, name_end_from, name_end_le}
use Rattle.attribute_defaults.specs.Ways.{word_none, word_required, word_implied, word_cut, word_cut_too, word_wrong}
use Rattle.attribute_defaults.proofs.word_at.Goals as goal

pub returns-then-not-is_letter : goal.returns-then-not-is_letter
returns-then-not-is_letter c = let a = c.args in
    rw c.at.ensures (sym (word_none a.s.now a.i (tested letter c.byte.ensures c.is_letter.ensures c.if-not-is_letter.true)), tt)

-- The word ends in the text.
inside : (s : List ℕ) (i e : ℕ) → i < length s → e ≡ name_end s (i + 1) → (i + 1 ≤ e) × (e ≤ length s)
inside s i e h q = (omega (arith, name_end_from s (i + 1), q), omega (arith, name_end_le s (i + 1) (omega (arith, h)), q))

pub is_word-requires : goal.is_word-requires
is_word-requires c = omega (arith, inside _ _ _ c.requires.0 c.name_end-e.ensures)

pub returns-then-is_word : goal.returns-then-is_word
returns-then-is_word c = let a = c.args in
    (word_required a.s.now a.i (tested letter c.byte.ensures c.is_letter.ensures c.if-not-is_letter.false) _ c.name_end-e.ensures c.is_word.ensures c.if-is_word.true, omega (arith, inside _ _ _ c.requires.0 c.name_end-e.ensures))

pub is_word-requires-2 : goal.is_word-requires-2
is_word-requires-2 c = omega (arith, inside _ _ _ c.requires.0 c.name_end-e.ensures)

pub returns-then-is_word-2 : goal.returns-then-is_word-2
returns-then-is_word-2 c = let a = c.args in
    (word_implied a.s.now a.i (tested letter c.byte.ensures c.is_letter.ensures c.if-not-is_letter.false) _ c.name_end-e.ensures c.is_word.ensures c.if-is_word.false c.is_word-2.ensures c.if-is_word-2.true, omega (arith, inside _ _ _ c.requires.0 c.name_end-e.ensures))

pub is_cut-requires : goal.is_cut-requires
is_cut-requires c = omega (arith, inside _ _ _ c.requires.0 c.name_end-e.ensures)

pub returns-then-is_cut : goal.returns-then-is_cut
returns-then-is_cut c = let a = c.args in
    rw c.at-then-is_cut.ensures
    (word_cut a.s.now a.i (tested letter c.byte.ensures c.is_letter.ensures c.if-not-is_letter.false) _ c.name_end-e.ensures c.is_word.ensures c.if-is_word.false c.is_word-2.ensures c.if-is_word-2.false c.is_cut.ensures c.if-is_cut.true, tt)

pub is_cut-requires-2 : goal.is_cut-requires-2
is_cut-requires-2 c = omega (arith, inside _ _ _ c.requires.0 c.name_end-e.ensures)

pub returns-then-is_cut-2 : goal.returns-then-is_cut-2
returns-then-is_cut-2 c = let a = c.args in
    rw c.at-then-is_cut-2.ensures (
      word_cut_too a.s.now a.i (tested letter c.byte.ensures c.is_letter.ensures c.if-not-is_letter.false) _ c.name_end-e.ensures c.is_word.ensures c.if-is_word.false c.is_word-2.ensures c.if-is_word-2.false c.is_cut.ensures c.if-is_cut.false
          c.is_cut-2.ensures c.if-is_cut-2.true,
      tt,
    )

pub returns : goal.returns
returns c = let a = c.args in
    rw c.at-2.ensures (
      word_wrong a.s.now a.i (tested letter c.byte.ensures c.is_letter.ensures c.if-not-is_letter.false) _ c.name_end-e.ensures c.is_word.ensures c.if-is_word.false c.is_word-2.ensures c.if-is_word-2.false c.is_cut.ensures c.if-is_cut.false
          c.is_cut-2.ensures c.if-is_cut-2.false,
      tt,
    )
