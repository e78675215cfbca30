-- `end_tag` meets its contract: each way by what the loop leaves and the tables answer.
use mathlib.Core.Path.{sym, ◌∙◌}
use native.Mathlib.Omega.{arith}
use borrow.Author.Tests.{not-true, not-false}
use Rattle.open_elements.specs.Becomes.{passed_on}
use Rattle.closing.specs.Ways.{tag_unopened, tag_refused, tag_outermost, tag_incomplete, tag_closed}
use Rattle.closing.proofs.end_tag.Goals as goal

pub returns-then-not-is_open : goal.returns-then-not-is_open
returns-then-not-is_open c = let a = c.args in
    tag_unopened a.facts.now a.x.0 a.at a.after a.n a.state a.numbers.now a.bytes.now (sym c.is_open.ensures ∙ c.if-not-is_open.true)

pub returns-in_err-l : goal.returns-in_err-l
returns-in_err-l c = rw (passed_on _ c.from_residual.ensures.1) (tag_refused c.args.after c.requires.0 (sym c.is_open.ensures ∙ c.if-not-is_open.false) c.in_err-l.ensures)

pub returns-then-o-eq0 : goal.returns-then-o-eq0
returns-then-o-eq0 c = tag_outermost c.args.after c.requires.0 (sym c.is_open.ensures ∙ c.if-not-is_open.false) c.in_ok-l.ensures c.if-o-eq0.true

pub returns-then-not-o : goal.returns-then-not-o
returns-then-not-o c = tag_incomplete c.args.after c.requires.0 (sym c.is_open.ensures ∙ c.if-not-is_open.false) c.in_ok-l.ensures (omega (arith, c.if-o-eq0.false)) (not-true _ c.if-not-o.true)

pub overflow_sub-after : goal.overflow_sub-after
overflow_sub-after c = c.requires.1

pub put_event-k-requires : goal.put_event-k-requires
put_event-k-requires c = let u = c.in_ok-l.ensures in
    let p = c.requires in
    (omega (arith, u.brings.counted, u.few, p.0.few, p.4), omega arith, omega arith, omega arith, omega arith)

pub shape_of-numbers : goal.shape_of-numbers
shape_of-numbers c = let u = c.in_ok-l.ensures in c.put_event-k.ensures.1.numbers_kept ∙ u.brings.puts.numbers_kept

pub shape_of-bytes : goal.shape_of-bytes
shape_of-bytes c = let u = c.in_ok-l.ensures in c.put_event-k.ensures.1.bytes_kept ∙ u.brings.puts.bytes_kept

pub returns : goal.returns
returns c = tag_closed c.args.after c.requires.0 (sym c.is_open.ensures ∙ c.if-not-is_open.false) c.in_ok-l.ensures (omega (arith, c.if-o-eq0.false)) (not-false _ c.if-not-o.false) c.end.ensures
    c.put_event-k.ensures.0 c.put_event-k.ensures.1
