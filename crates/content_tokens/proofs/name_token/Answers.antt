-- `name_token` meets its contract: the name's size, then the room for a token; then the new place with its indicator.
use Rattle.std.proofs.Common.{arith}
use Rattle.text.specs.Words.{name_end_from, name_end_le}
use Rattle.content_tokens.specs.Readings.{got_meets, refuses}
use Rattle.content_tokens.specs.Tokens.{name_long, name_full, name_got, new_place_lem}
use Rattle.content_tokens.proofs.name_token.Goals as goal

pub overflow_sub-n : goal.overflow_sub-n
overflow_sub-n c =
    let x = c.args in
    omega (arith, name_end_from x.s.now x.at, c.name_end-e.ensures)

pub returns-then-long-n : goal.returns-then-long-n
returns-then-long-n c =
    let x = c.args in
    refuses _ c.at.ensures (name_long x.long x.s.now x.at _ x.full _ x.had.tokens c.name_end-e.ensures c.if-long-n.true)

pub returns-then-full : goal.returns-then-full
returns-then-full c =
    let x = c.args in
    refuses _ c.at-then-full.ensures (name_full x.long x.s.now x.at _ x.full _ x.had.tokens c.name_end-e.ensures c.if-long-n.false c.if-full.true)

pub put_name-requires : goal.put_name-requires
put_name-requires c =
    let x = c.args in
    let few = c.requires.places_le_tokens.1 c.if-full.false in
    omega (arith, name_end_le x.s.now x.at c.requires.at_in_bounds.0, c.name_end-e.ensures)

pub overflow_add-p : goal.overflow_add-p
overflow_add-p c = let few = c.requires.places_le_tokens.1 c.if-full.false in omega arith

pub overflow_add-count : goal.overflow_add-count
overflow_add-count c = let few = c.requires.places_le_tokens.1 c.if-full.false in omega arith

pub put_place-part-requires : goal.put_place-part-requires
put_place-part-requires c = let few = c.requires.places_le_tokens.1 c.if-full.false in omega arith

pub overflow_cast-p : goal.overflow_cast-p
overflow_cast-p c = let few = c.requires.places_le_tokens.1 c.if-full.false in omega arith

pub with_occurrence-requires : goal.with_occurrence-requires
with_occurrence-requires c =
    let x = c.args in
    let few = c.requires.places_le_tokens.1 c.if-full.false in
    let within = name_end_le x.s.now x.at c.requires.at_in_bounds.0 in
    record { at_in_bounds = omega (arith, c.name_end-e.ensures); places_bound = omega arith }

pub returns : goal.returns
returns c =
    let x = c.args in
    let e = c.name_end-e in
    got_meets _ _ _ _ _ _ _
    (name_got x.long x.s.now x.at e.result x.full _ x.had.tokens e.ensures c.if-long-n.false c.if-full.false)
    (c.with_occurrence.ensures _ _ _ _ _
    (new_place_lem _ x.at e.result _ x.had.places x.had.tokens x.had.code x.table.now x.names.now _
    (omega (arith, name_end_le x.s.now x.at c.requires.at_in_bounds.0, e.ensures)) c.requires.places_le_tokens.0 (c.requires.places_le_tokens.1 c.if-full.false) c.put_name.ensures.0 _ c.put_place-part.ensures.0 _ _ _ c.put_place-part.ensures.1 c.put.ensures.0 c.put.ensures.1))
