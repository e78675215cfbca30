-- `data_token` meets its contract: the word after `#`, then the room for a token; then the new place, which repeats or is left out.
use Rattle.std.proofs.Common.{◌≡◌, ◌+◌, true, false, sym, ap, ◌∙◌, arith}
use Rattle.rules.specs.Bytes.{byte_at, letter}
use Rattle.text.specs.Words.{name_end_from, name_end_le}
use Rattle.content_tokens.specs.Readings.{got_meets, refuses}
use Rattle.content_tokens.specs.Tokens.{data_word, data_full, data_got, data_none, new_data}
use Rattle.content_tokens.proofs.data_token.Goals as goal

pub is_word-requires : goal.is_word-requires
is_word-requires c =
    let x = c.args in
    omega (arith, name_end_from x.s.now (x.at + 1), name_end_le x.s.now (x.at + 1) (omega arith), c.name_end-e.ensures)

pub wrong_data-requires : goal.wrong_data-requires
wrong_data-requires c =
    let x = c.args in
    omega (arith, name_end_from x.s.now (x.at + 1), name_end_le x.s.now (x.at + 1) (omega arith), c.name_end-e.ensures)

pub returns-then-not-is_word : goal.returns-then-not-is_word
returns-then-not-is_word c =
    let x = c.args in
    let is_one : letter (byte_at x.s.now (x.at + 1)) ≡ true = ap letter (sym c.byte-b.ensures) ∙ sym c.is_letter.ensures ∙ c.if-is_letter.true in
    refuses _ c.wrong_data.ensures
    (data_word x.s.now x.at x.full _ x.had.tokens is_one _ c.name_end-e.ensures _ c.is_word.ensures c.if-not-is_word.true)

pub returns-then-full : goal.returns-then-full
returns-then-full c =
    let x = c.args in
    let is_one : letter (byte_at x.s.now (x.at + 1)) ≡ true = ap letter (sym c.byte-b.ensures) ∙ sym c.is_letter.ensures ∙ c.if-is_letter.true in
    refuses _ c.at.ensures
    (data_full x.s.now x.at x.full _ x.had.tokens is_one _ c.name_end-e.ensures _ c.is_word.ensures c.if-not-is_word.false c.if-full.true)

pub put_name-requires : goal.put_name-requires
put_name-requires c = let few = c.requires.places_le_tokens.1 c.if-full.false in omega arith

pub overflow_add-p : goal.overflow_add-p
overflow_add-p c = let few = c.requires.places_le_tokens.1 c.if-full.false in omega arith

pub put_place-part-requires : goal.put_place-part-requires
put_place-part-requires c = let few = c.requires.places_le_tokens.1 c.if-full.false in omega arith

pub overflow_add-p-then-is_letter : goal.overflow_add-p-then-is_letter
overflow_add-p-then-is_letter c = let few = c.requires.places_le_tokens.1 c.if-full.false in omega arith

pub repeat-requires : goal.repeat-requires
repeat-requires c = let few = c.requires.places_le_tokens.1 c.if-full.false in omega arith

pub overflow_cast-p : goal.overflow_cast-p
overflow_cast-p c = let few = c.requires.places_le_tokens.1 c.if-full.false in omega arith

pub returns-then-is_letter : goal.returns-then-is_letter
returns-then-is_letter c =
    let x = c.args in
    let e = c.name_end-e in
    let is_one : letter (byte_at x.s.now (x.at + 1)) ≡ true = ap letter (sym c.byte-b.ensures) ∙ sym c.is_letter.ensures ∙ c.if-is_letter.true in
    got_meets _ _ _ _ _ _ _
    (data_got x.s.now x.at x.full _ x.had.tokens is_one e.result e.ensures _ c.is_word.ensures c.if-not-is_word.false c.if-full.false)
    (new_data _ x.at e.result 0 x.had.places x.had.tokens x.had.code x.table.now x.names.now _
    (omega (arith, name_end_le x.s.now (x.at + 1) (omega arith), e.ensures)) c.requires.places_le_tokens.0 (c.requires.places_le_tokens.1 c.if-full.false) c.put_name.ensures.0 _ c.put_place-part.ensures.0 _ _ _ _ _ _ _ _
    c.optional.ensures c.repeat.ensures c.put-one.ensures.0 c.put-one.ensures.1 c.put-many.ensures.0 c.put-many.ensures.1 c.put.ensures.0 c.put.ensures.1)

pub returns : goal.returns
returns c =
    let x = c.args in
    let is_none : letter (byte_at x.s.now (x.at + 1)) ≡ false = ap letter (sym c.byte-b.ensures) ∙ sym c.is_letter.ensures ∙ c.if-is_letter.false in
    refuses _ c.at-2.ensures (data_none x.s.now x.at x.full _ x.had.tokens is_none)
