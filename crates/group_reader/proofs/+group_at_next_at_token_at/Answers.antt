-- The three readers of the cycle, each by the rules' laws of what it reads.
use Rattle.std.proofs.Common.{refl}
use Rattle.std.proofs.Common.{◌+◌, ◌*◌, ◌-◌, leb, sym, ◌∙◌, arith}
use borrow.Author.Tests.{eq-eqb, ne_eqb, leb-false}
use Rattle.basic_laws.specs.Truth.{or_left}
use Rattle.rules.specs.Reading.{Reading}
use Rattle.rules.specs.TypeFile.{Tokens, group, token, occurrence}
use Rattle.rules.specs.Bytes.{GRPCNT, GRPGTCNT, GRPO, RNI}
use Rattle.model_names.specs.Places.{places_of}
use Rattle.text.specs.Words.{byte_is_in, or_passed, separators_end_le}
use Rattle.connectors.specs.Grown.{keeps_less}
use Rattle.content_tokens.specs.Readings.{refuses, refuses_on, read_in_lem, read_then}
use Rattle.group_reader.specs.Groups.{or_other, connector_in, token_name_lem, token_data, token_full, token_group_lem, token_unfit, token_other, group_none, group_some, group_begun, so_in, so_closed, so_unfit, so_joined, so_first, next_closed, next_unfit, next_other, next_refused, next_joined}
use Rattle.group_reader.proofs.+group_at_next_at_token_at.Goals as goal
use Rattle.group_reader.proofs.+group_at_next_at_token_at.Goals.{token_at-then-b-eq91-via-then-b-eq91, token_at-then-b-eq91-via-else-b-eq91+then-b-eq37}

-- A group: no level is left, or its first token is refused.

pub group_at-returns-then-levels-eq0 : goal.group_at-returns-then-levels-eq0
group_at-returns-then-levels-eq0 t c =
    let x = c.args in
    refuses _ c.at.ensures (group_none x.long x.levels x.s.now x.at _ x.had.tokens c.if-levels-eq0.true)

pub group_at-token_at-r-requires : goal.group_at-token_at-r-requires
group_at-token_at-r-requires t c =
    let x = c.args in
    let some = c.if-levels-eq0.false in (
      omega (arith, c.decreases),
      (
        (omega (arith, separators_end_le x.s.now (x.at + 1) (omega arith), c.separators_end-i.ensures), c.requires.at_in_bounds.1),
        (c.requires.places_le_tokens.0, leb-false GRPGTCNT _),
      ),
    )

pub group_at-returns-in_default : goal.group_at-returns-in_default
group_at-returns-in_default t c =
    let x = c.args in
    let y : Reading Tokens = token x.long (group x.long (x.levels - 1) x.s.now) x.s.now c.separators_end-i.result (leb GRPGTCNT x.had.tokens) (places_of x.names.now x.had.places) x.had.tokens in
    rw c.in_default.is
    (refuses_on _ y _ _ c.in_default.ensures (group_some x.long x.levels x.s.now x.at c.separators_end-i.result _ x.had.tokens c.if-levels-eq0.false c.separators_end-i.ensures))

pub group_at-loop-next-init : goal.group_at-loop-next-init
group_at-loop-next-init t c = so_first _ _ _ _ _ _ _

-- The first token is kept as it was read, and the members so far go on.

pub group_at-next_at-n-requires : goal.group_at-next_at-n-requires
group_at-next_at-n-requires t c =
    let x = c.args in
    let some = c.if-levels-eq0.false in
    let b =
    group_begun x.long x.levels x.s.now x.at c.separators_end-i.result (places_of x.names.now x.had.places) x.had.tokens (x.had.places + 1) x.table.now x.had.code _ _ c.in-Ok.first c.in-Ok.ensures
    c.if-levels-eq0.false c.separators_end-i.ensures in
    let within = so_in _ _ _ _ _ _ _ _ _ _ _ _ c.loop-next.invariant _ _ _ b.0 b.1 in
    (omega (arith, c.decreases), ((within.0, c.requires.at_in_bounds.1), (within.1, within.2)))

pub group_at-returns-in-Closed : goal.group_at-returns-in-Closed
group_at-returns-in-Closed t c =
    let x = c.args in
    let b =
    group_begun x.long x.levels x.s.now x.at c.separators_end-i.result (places_of x.names.now x.had.places) x.had.tokens (x.had.places + 1) x.table.now x.had.code _ _ c.in-Ok.first c.in-Ok.ensures
    c.if-levels-eq0.false c.separators_end-i.ensures in
    so_closed _ _ _ _ _ _ _ _ _ _ _ _ c.loop-next.invariant _ _ _ _ _ b.0 b.1 _ b.2 _ (λ T n d u K. rw c.in-Closed.is at (c.in-Ok-n.ensures T n d u K))

pub group_at-returns-in_default-n : goal.group_at-returns-in_default-n
group_at-returns-in_default-n t c =
    let x = c.args in
    let b =
    group_begun x.long x.levels x.s.now x.at c.separators_end-i.result (places_of x.names.now x.had.places) x.had.tokens (x.had.places + 1) x.table.now x.had.code _ _ c.in-Ok.first c.in-Ok.ensures
    c.if-levels-eq0.false c.separators_end-i.ensures in
    (so_unfit _ _ _ _ _ _ _ _ _ _ _ _ c.loop-next.invariant _ _ _ b.0 b.1 _ b.2 _ (λ T n d u K. rw c.unwrap_err.ensures at (c.next_at-n.ensures T n d u K)))

pub group_at-loop-next-preserved : goal.group_at-loop-next-preserved
group_at-loop-next-preserved t c =
    let x = c.args in
    let b =
    group_begun x.long x.levels x.s.now x.at c.separators_end-i.result (places_of x.names.now x.had.places) x.had.tokens (x.had.places + 1) x.table.now x.had.code _ _ c.in-Ok.first c.in-Ok.ensures
    c.if-levels-eq0.false c.separators_end-i.ensures in
    (so_joined _ _ _ _ _ _ _ _ _ _ _ _ c.loop-next.invariant _ _ _ _ _ b.0 b.1 _ _ (λ T n d u K. rw c.in-Joined.is at (c.in-Ok-n.ensures T n d u K))).1

-- What follows a content token.

pub next_at-returns-then-b-eq41 : goal.next_at-returns-then-b-eq41
next_at-returns-then-b-eq41 t c T n d u K =
    let x = c.args in
    next_closed x.long (group x.long x.levels x.s.now) x.s.now x.lo x.k x.c T n d _ _ x.m u K c.separators_end-i.result c.byte-b.result c.separators_end-i.ensures c.byte-b.ensures _ _ c.if-b-eq41.true c.closed_code.ensures.0 c.closed_code.ensures.1

pub next_at-returns-then-b-eq37 : goal.next_at-returns-then-b-eq37
next_at-returns-then-b-eq37 t c T n d u K =
    let x = c.args in
    next_unfit x.long (group x.long x.levels x.s.now) x.s.now x.lo x.k x.c T n d _ _ x.m u K c.separators_end-i.result c.byte-b.result c.separators_end-i.ensures c.byte-b.ensures c.if-b-eq41.false c.at.ensures c.if-b-eq37.true

pub next_at-returns-then-not-is_connector : goal.next_at-returns-then-not-is_connector
next_at-returns-then-not-is_connector t c T n d u K =
    let x = c.args in
    next_other x.long (group x.long x.levels x.s.now) x.s.now x.lo x.k x.c T n d _ _ x.m u K c.separators_end-i.result c.byte-b.result c.separators_end-i.ensures c.byte-b.ensures c.if-b-eq41.false
    c.if-b-eq37.false c.is_connector.result c.is_connector.ensures c.at-then-not-is_connector.ensures c.if-not-is_connector.true

pub next_at-token_at-r-requires : goal.next_at-token_at-r-requires
next_at-token_at-r-requires t c =
    let x = c.args in
    let i = c.separators_end-i.result in
    let past = connector_in x.s.now i c.byte-b.result x.c c.is_connector.result c.byte-b.ensures c.is_connector.ensures c.if-not-is_connector.false in (
      omega (arith, c.decreases),
      (
        (omega (arith, separators_end_le x.s.now (i + 1) (omega (arith, past)), c.separators_end-j.ensures), c.requires.at_in_bounds.1),
        (c.requires.places_le_tokens.0, or_other (leb GRPCNT x.k) _ _ c.is_full-full.ensures),
      ),
    )

pub next_at-returns-in_default : goal.next_at-returns-in_default
next_at-returns-in_default t c T n d u K =
    let x = c.args in
    next_refused x.long (group x.long x.levels x.s.now) x.s.now x.lo x.k x.c T n d _ _ x.m u K c.separators_end-i.result c.byte-b.result c.separators_end-i.ensures c.byte-b.ensures c.if-b-eq41.false
    c.if-b-eq37.false c.is_connector.result c.is_connector.ensures c.if-not-is_connector.false
    c.separators_end-j.result c.is_full-full.result c.separators_end-j.ensures c.is_full-full.ensures c.token_at-r.new.names c.token_at-r.new.table _ _ (rw c.unwrap_err.ensures at c.token_at-r.ensures) refl

pub next_at-joined_by-requires : goal.next_at-joined_by-requires
next_at-joined_by-requires t c =
    let x = c.args in
    let past = connector_in x.s.now c.separators_end-i.result c.byte-b.result x.c c.is_connector.result c.byte-b.ensures c.is_connector.ensures c.if-not-is_connector.false in
    let within =
    read_in_lem _ _ _ _ c.in-Ok.u (token x.long (group x.long x.levels x.s.now) x.s.now c.separators_end-j.result c.is_full-full.result (places_of x.names.now x.m.places) x.m.tokens) c.in-Ok.ensures in
    omega (arith, past, within)

pub next_at-returns : goal.next_at-returns
next_at-returns t c T n d u K =
    let x = c.args in
    next_joined x.long (group x.long x.levels x.s.now) x.s.now x.lo x.k x.c T n d _ _ x.m u K c.separators_end-i.result c.byte-b.result c.separators_end-i.ensures c.byte-b.ensures c.if-b-eq41.false
    c.if-b-eq37.false c.is_connector.result c.is_connector.ensures c.if-not-is_connector.false
    c.separators_end-j.result c.is_full-full.result c.separators_end-j.ensures c.is_full-full.ensures _ _ c.in-Ok.u c.joined_by.result _ c.in-Ok.ensures c.joined_by.ensures.value c.joined_by.ensures.table_after

-- A content token, by the ways in which one can begin.

pub token_at-returns-then-is_letter : goal.token_at-returns-then-is_letter
token_at-returns-then-is_letter t c =
    let x = c.args in
    rw (token_name_lem x.long (group x.long x.levels x.s.now) x.s.now x.at c.byte-b.result x.full c.is_letter.result _ x.had.tokens c.byte-b.ensures c.is_letter.ensures c.if-is_letter.true)
    c.name_token.ensures

pub token_at-data_token-requires : goal.token_at-data_token-requires
token_at-data_token-requires t c =
    let x = c.args in
    let i = byte_is_in x.s.now x.at RNI (sym c.byte-b.ensures ∙ c.if-b-eq35.true) (omega arith) in
    record { at_in_bounds = (i, c.requires.at_in_bounds.1); places_le_tokens = c.requires.places_le_tokens }

pub token_at-returns-then-b-eq35 : goal.token_at-returns-then-b-eq35
token_at-returns-then-b-eq35 t c =
    let x = c.args in
    rw (token_data x.long (group x.long x.levels x.s.now) x.s.now x.at c.byte-b.result x.full c.is_letter.result _ x.had.tokens c.byte-b.ensures c.is_letter.ensures c.if-is_letter.false c.if-b-eq35.true)
    c.data_token.ensures

pub token_at-returns-then-full : goal.token_at-returns-then-full
token_at-returns-then-full t c =
    let x = c.args in
    refuses _ c.at.ensures
    (token_full x.long (group x.long x.levels x.s.now) x.s.now x.at c.byte-b.result x.full c.is_letter.result _ x.had.tokens c.byte-b.ensures c.is_letter.ensures c.if-is_letter.false c.if-b-eq35.false c.if-b-eq40.true c.if-full.true)

pub token_at-group_at-r-requires : goal.token_at-group_at-r-requires
token_at-group_at-r-requires t c =
    let x = c.args in
    let i = byte_is_in x.s.now x.at GRPO (sym c.byte-b.ensures ∙ c.if-b-eq40.true) (omega arith) in
    let few = c.requires.places_le_tokens.1 c.if-full.false in
    (omega (arith, c.decreases), ((i, c.requires.at_in_bounds.1), (omega arith, omega arith)))

pub token_at-returns-in_default : goal.token_at-returns-in_default
token_at-returns-in_default t c =
    let x = c.args in
    rw c.in_default.is
    (refuses_on _ (group x.long x.levels x.s.now x.at (places_of x.names.now x.had.places) (x.had.tokens + 1)) _ _ c.in_default.ensures
    (token_group_lem x.long (group x.long x.levels x.s.now) x.s.now x.at c.byte-b.result x.full c.is_letter.result _ x.had.tokens c.byte-b.ensures c.is_letter.ensures c.if-is_letter.false c.if-b-eq35.false c.if-b-eq40.true c.if-full.false))

pub token_at-with_occurrence-requires : goal.token_at-with_occurrence-requires
token_at-with_occurrence-requires t c =
    let x = c.args in
    let within = read_in_lem _ _ _ _ c.in-Ok.m (group x.long x.levels x.s.now x.at (places_of x.names.now x.had.places) (x.had.tokens + 1)) c.in-Ok.ensures in
    record { at_in_bounds = within.0; places_bound = omega (arith, within.1) }

pub token_at-returns-then-b-eq40 : goal.token_at-returns-then-b-eq40
token_at-returns-then-b-eq40 t c =
    let x = c.args in
    read_then _ _ _ _ c.in-Ok.m (group x.long x.levels x.s.now x.at (places_of x.names.now x.had.places) (x.had.tokens + 1)) c.in-Ok.ensures c.with_occurrence.result _ _ (occurrence x.s.now) _
    (token_group_lem x.long (group x.long x.levels x.s.now) x.s.now x.at c.byte-b.result x.full c.is_letter.result _ x.had.tokens c.byte-b.ensures c.is_letter.ensures c.if-is_letter.false c.if-b-eq35.false c.if-b-eq40.true c.if-full.false)
    (λ w K. c.with_occurrence.ensures _ _ _ (4 * x.had.tokens + 3) w (keeps_less _ _ _ _ (4 * (x.had.tokens + 1) + 2) (4 * x.had.tokens + 3 + 2) 1 0 _ _ _ w (omega arith) K))

pub token_at-returns-then-b-eq91 : goal.token_at-returns-then-b-eq91
token_at-returns-then-b-eq91 t c =
    let x = c.args in
    refuses _ c.at-then-b-eq91.ensures
    (token_unfit x.long (group x.long x.levels x.s.now) x.s.now x.at c.byte-b.result x.full c.is_letter.result _ x.had.tokens c.byte-b.ensures c.is_letter.ensures c.if-is_letter.false c.if-b-eq35.false c.if-b-eq40.false
    (elim c.then-b-eq91.branch [
      | token_at-then-b-eq91-via-then-b-eq91 w ↦ or_left _ (eq-eqb _ _ w.if-b-eq91.true)
      | token_at-then-b-eq91-via-else-b-eq91+then-b-eq37 w ↦ sym (or_passed _ _ _ (ne_eqb _ _ w.if-b-eq91.false) (sym (eq-eqb _ _ w.if-b-eq37.true)))
    ]))

pub token_at-returns : goal.token_at-returns
token_at-returns t c =
    let x = c.args in
    refuses _ c.at-2.ensures
    (token_other x.long (group x.long x.levels x.s.now) x.s.now x.at c.byte-b.result x.full c.is_letter.result _ x.had.tokens c.byte-b.ensures c.is_letter.ensures c.if-is_letter.false c.if-b-eq35.false c.if-b-eq40.false
    (sym (or_passed _ _ _ (ne_eqb _ _ c.if-b-eq91.false) (sym (ne_eqb _ _ c.if-b-eq37.false)))))
