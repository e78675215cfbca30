use Prim.Native.Nat.{ℕ, ◌+◌, ◌≤◌, ◌<◌}
use mathlib.Core.Path.{◌≡◌, refl, sym, ◌∙◌}
use mathlib.Core.Bool.{true, false}
use mathlib.Core.List.{List}
use native.Mathlib.Omega.{arith}
use Rattle.rules.specs.Settings.{settings}
use Rattle.rules.specs.TypeFile.{Element}
use Rattle.rules.specs.Settling.{State, is_over}
use Rattle.rules.specs.Bytes.{TAGLVL, ATTCNT}
use Rattle.document_laws.specs.Decide.{decided}
use Rattle.attribute_events.specs.PutBefore.{PutsWritten}
use Rattle.attribute_events.specs.OneByOne.{written_none, written_same}
use Rattle.open_elements.specs.Stands.{Stands}
use Rattle.open_elements.specs.Becomes.{passed_on}
use Rattle.ways.specs.Ends.{over_says}
use Rattle.inferring.specs.Starts.{along_start, along_next}
use Rattle.placing.specs.Noting.{Places}
use Rattle.placing.specs.Places.{places_opened}
use Rattle.settling.specs.Tokens.{refuses_over, refuses_many, refuses_placed, settles_placed}
use Rattle.record_ends.specs.Held.{is_held, shown_end, Frees}
use Rattle.record_ends.specs.Freeing.{frees_same, shown_range}
use Rattle.blanks.specs.declared.Next.TheVariants as next
use Rattle.document_events.specs.Turns.{going_start, Turn, piece_refuses, token_asked, token_range, token_refuses, going_token, end_tag_refuses, going_end, going_passed, end_refuses, end_counts, end_counted}
use Rattle.document_events.proofs.events_of.Goals as goal
use Rattle.document_events.proofs.events_of.Goals.{After-next_at, After-ends-f, Joined-starts-eq0, Joined-t-ne0, then-starts-eq0, else-starts-eq0+else-o-starts-gt-TAGLVL, then-t-ne0, else-t-ne0, then-opens, else-opens}

-- A turn of the loop.
at_turn : (c : After-next_at) →
    let t = c.args.t in
    let l = c.loop-at in
    Turn (settings t.long t.edition) t.file.now t.elements.now t.index.now t.tables.rows.now t.tables.places.now t.tables.facts.now t.tables.members.now t.lists.now c.args.d.now l.begun c.args.numbers.now l.numbers c.args.bytes.now l.bytes l.n l.at l.line.since l.line.mark l.from l.o c.next_at.result c.found_at.new.marks
at_turn c =
    record {
      going = c.loop-at.invariant;
      inside = omega (arith, c.loop-at-test.true);
      onward = c.next_at.ensures.ahead;
      said = λ es i t l v r n. c.next_at.ensures.follows es c.found_at.new.marks t (c.in_ok-p.ensures.finds es i l) v r n;
    }

-- The document is not over.
on : (c : After-ends-f) → (s : List ℕ) (es : List Element) (z : State) → Stands es c.args.t.tables.members.now c.loop-at.begun c.loop-at.o z → is_over s es (decided s es) z ≡ false
on c s es z stands = sym (over_says s stands) ∙ sym c.is_over.ensures ∙ c.if-is_over.false

-- A run that was held is freed, or stands, whichever way was taken.
joined : (c : Joined-starts-eq0) →
    Frees (is_held c.args.t.edition c.args.d.now c.loop-at.line.since) c.loop-at.from c.loop-at.line.since c.loop-at.n c.ends-f.result.events c.ends-f.new.numbers c.ends-f.new.bytes c.if-starts-eq0.m c.if-starts-eq0.numbers c.if-starts-eq0.bytes
joined c =
    elim c.if-starts-eq0.branch [
      | then-starts-eq0 w ↦ frees_same w.freed-m.ensures w.numbers-is w.bytes-is w.m-is
      | else-starts-eq0+else-o-starts-gt-TAGLVL w ↦ frees_same w.freed-m-else-starts-eq0.ensures w.numbers-is w.bytes-is w.m-is
    ]

-- There is room for the starts, whichever way was taken: where there are none it is known.
limit : (c : Joined-starts-eq0) → c.ends-f.result.open.count + c.starts_of-starts.result ≤ TAGLVL
limit c =
    elim c.if-starts-eq0.branch [
      | then-starts-eq0 w ↦ omega (arith, w.if-starts-eq0.true, c.ends-f.ensures.turns.ranged.few)
      | else-starts-eq0+else-o-starts-gt-TAGLVL w ↦ omega (arith, w.if-o-starts-gt-TAGLVL.false)
    ]

-- The attribute events of the tag, if the type has any.
attributed : (c : Joined-t-ne0) →
    PutsWritten c.args.t.lists.now c.found_at.new.marks c.in-Token.x.0 c.loop-k.m c.loop-k.numbers c.loop-k.bytes c.if-t-ne0.m c.if-t-ne0.numbers c.if-t-ne0.bytes
attributed c =
    elim c.if-t-ne0.branch [
      | then-t-ne0 w ↦ written_same w.put_written-m.ensures w.numbers-is w.bytes-is w.m-is
      | else-t-ne0 w ↦ written_same (written_none _ _ _ _ _ _ (omega (arith, w.if-t-ne0.false))) w.numbers-is w.bytes-is w.m-is
    ]

-- What comes next, where it is a token.
is_token : (c : After-ends-f) → c.next_at.result ≡ next.Token c.in-Token.x c.in-Token.after
is_token c = c.in-Token.is

pub loop-at-init : goal.loop-at-init
loop-at-init c = going_start _ _ _ _ _ _ _ _ _ _ _ _ _ c.new-o.ensures

pub found_at-requires : goal.found_at-requires
found_at-requires c =
    let p = c.requires in
    (p.0, p.1, omega (arith, c.loop-at-test.true), p.2, p.3)

pub returns-in_err-p-clause-by_type : goal.returns-in_err-p-clause-by_type
returns-in_err-p-clause-by_type c = rw (passed_on _ c.from_residual.ensures.1) (piece_refuses c.found_at.new.marks c.loop-at.invariant (omega (arith, c.loop-at-test.true)) c.found_at.ensures.finds c.in_err-p.was)

pub next_at-requires : goal.next_at-requires
next_at-requires c =
    let g = c.loop-at.invariant in
    let p = c.requires in
    (p.0, g.ranged.few, g.ranged.element, g.ranged.place, omega (arith, c.loop-at-test.true), p.2, g.since_inside, c.in_ok-p.ensures.onward)

pub returns-then-is_over-clause-by_type : goal.returns-then-is_over-clause-by_type
returns-then-is_over-clause-by_type c =
    token_refuses (at_turn (goal.at.returns-then-is_over-clause-by_type c).After-next_at) {shown = shown_end c.args.t.edition c.args.d.now c.in-Token.after} c.in-Token.is refl
    (refuses_over _ _ _ _ _ _ _ _ _ (λ s es z stands. sym (over_says s stands) ∙ sym c.is_over.ensures ∙ c.if-is_over.true)) c.at.ensures

pub ends-f-requires : goal.ends-f-requires
ends-f-requires c =
    let a = token_asked (at_turn (goal.at.ends-f-requires c).After-next_at) c.requires.2 c.in-Token.is in
    (a.0, a.1, omega (arith, a.2, a.3), omega (arith, a.4))

pub returns-then-o-starts-gt-TAGLVL-clause-by_type : goal.returns-then-o-starts-gt-TAGLVL-clause-by_type
returns-then-o-starts-gt-TAGLVL-clause-by_type c =
    let g = goal.at.returns-then-o-starts-gt-TAGLVL-clause-by_type c in
    let t = at_turn g.After-next_at in
    token_refuses t {shown = shown_end c.args.t.edition c.args.d.now c.in-Token.after} (is_token g.After-ends-f) refl
    (refuses_many (shown_end c.args.t.edition c.args.d.now c.in-Token.after) t.going.ranged.few (on g.After-ends-f) c.ends-f.ensures (omega (arith, c.if-o-starts-gt-TAGLVL.true, c.starts_of-starts.ensures)))
    c.at-then-o-starts-gt-TAGLVL.ensures

pub loop-k-init : goal.loop-k-init
loop-k-init c = along_start _ _ _ _ _ _ _ _ _ _ _ _ c.ends-f.ensures.turns.ranged

pub loop-k-preserved : goal.loop-k-preserved
loop-k-preserved c =
    let g = goal.at.loop-k-preserved c in
    along_next _ _ _ _ _ _ _ _ c.loop-k.invariant c.loop-k-test.true (omega (arith, c.loop-k.invariant.deep, c.loop-k-test.true, limit g.Joined-starts-eq0)) c.next_start-j.ensures.0 c.put_defaults-m.ensures c.infer_start-o.ensures

pub placed-requires : goal.placed-requires
placed-requires c =
    let g = goal.at.placed-requires c in
    let t = at_turn g.After-next_at in
    let a = token_asked t c.requires.2 (is_token g.After-ends-f) in
    let f = (attributed g.Joined-t-ne0).few in
    let h = shown_range c.args.t.edition c.args.d.now (token_range t (is_token g.After-ends-f)).0 c.shown_end-shown.ensures in
    let i = c.loop-k.invariant in
    let e = c.ends-f.ensures.turns in
    let j = (joined g.Joined-starts-eq0).few TAGLVL (omega (arith, e.counted, e.deep, a.0.few)) (omega arith) in
    let room : c.loop-k.m + (ATTCNT + 2) < 4294967296 = omega (arith, i.counted, i.few, i.most, limit g.Joined-starts-eq0, e.deep, a.0.few, a.4) in
    (i.ranged, c.ends-f.ensures.fits, a.1, h.0, omega (arith, h.1, a.3), omega (arith, room, f.counted, f.few))

pub returns-in-Err-clause-by_type : goal.returns-in-Err-clause-by_type
returns-in-Err-clause-by_type c =
    let g = goal.at.returns-in-Err-clause-by_type c in
    let t = at_turn g.After-next_at in
    token_refuses t (is_token g.After-ends-f) c.shown_end-shown.ensures
    (refuses_placed c.shown_end-shown.result t.going.ranged.few (on g.After-ends-f) c.ends-f.ensures c.starts_of-starts.ensures (limit g.Joined-starts-eq0) c.loop-k.invariant c.loop-k-test.false c.in-Err.ensures)
    c.at-in-Err.ensures

pub loop-at-preserved-in-Token : goal.loop-at-preserved-in-Token
loop-at-preserved-in-Token c =
    let g = goal.at.loop-at-preserved-in-Token c in
    let t = at_turn g.After-next_at in
    let few = (token_asked t c.requires.2 (is_token g.After-ends-f)).1 in
    let u = c.args.t.tables in
    let opened : Places u.rows.now u.places.now u.facts.now u.members.now c.loop-k.begun c.ends-f.result.found c.in-Token.x.0 c.loop-at.at c.shown_end-shown.result c.if-t-ne0.m c.loop-k.o c.if-t-ne0.numbers c.if-t-ne0.bytes c.in-Ok.r c.if-opens.o c.placed.new.begun c.placed.new.numbers c.placed.new.bytes =
    elim c.if-opens.branch [
      | then-opens w ↦ places_opened c.in-Ok.ensures few true (rw w.if-opens.true at c.opens.ensures) (w.o-is ∙ w.start-o.ensures)
      | else-opens w ↦ places_opened c.in-Ok.ensures few false (rw w.if-opens.false at c.opens.ensures) w.o-is
    ] in
    let s = settles_placed c.shown_end-shown.result t.going.ranged.few (on g.After-ends-f) c.ends-f.ensures c.starts_of-starts.ensures (limit g.Joined-starts-eq0) c.loop-k.invariant c.loop-k-test.false
    (attributed g.Joined-t-ne0) opened in
    rw (c.taken-line.ensures.0, c.taken-line.ensures.1) (going_token t (is_token g.After-ends-f) c.shown_end-shown.ensures c.ends-f.ensures (joined g.Joined-starts-eq0) s)

pub returns-in-Err-end_tag-clause-by_type : goal.returns-in-Err-end_tag-clause-by_type
returns-in-Err-end_tag-clause-by_type c = end_tag_refuses (at_turn (goal.at.returns-in-Err-end_tag-clause-by_type c).After-next_at) c.in-End.is c.in-Err-end_tag.ensures c.at-in-Err-end_tag.ensures

pub loop-at-preserved-in-End : goal.loop-at-preserved-in-End
loop-at-preserved-in-End c =
    rw (c.taken-line-in-End.ensures.0, c.taken-line-in-End.ensures.1) (going_end (at_turn (goal.at.loop-at-preserved-in-End c).After-next_at) c.in-End.is c.in-Ok-end_tag.ensures)

pub loop-at-preserved : goal.loop-at-preserved
loop-at-preserved c = rw c.marked-line.ensures.0 (going_passed (at_turn (goal.at.loop-at-preserved c).After-next_at) c.in-Passed.is c.marked-line.ensures.1)

pub returns-in-Ok-finish-clause-by_type : goal.returns-in-Ok-finish-clause-by_type
returns-in-Ok-finish-clause-by_type c = end_counts c.loop-at.invariant (omega (arith, c.loop-at-test.false)) c.in-Ok-finish.ensures c.requires.2

pub returns-in-Err-finish-clause-by_type : goal.returns-in-Err-finish-clause-by_type
returns-in-Err-finish-clause-by_type c = end_refuses c.loop-at.invariant (omega (arith, c.loop-at-test.false)) c.in-Err-finish.ensures c.at-in-Err-finish.ensures

pub returns-in_err-p-clause-counted : goal.returns-in_err-p-clause-counted
returns-in_err-p-clause-counted c = rw (passed_on _ c.from_residual.ensures.1) tt

pub returns-in-Ok-finish-clause-counted : goal.returns-in-Ok-finish-clause-counted
returns-in-Ok-finish-clause-counted c = end_counted c.loop-at.invariant (omega (arith, c.loop-at-test.false)) c.in-Ok-finish.ensures
