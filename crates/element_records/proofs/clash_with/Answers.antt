-- `clash_with` meets its contract: a pair found before stays, EMPTY has none, and the search finds the first of a model.
use Rattle.std.proofs.Common.{refl}
use Rattle.element_records.specs.Clashes.{pending_kept, pending_clear, pending_first, content_empty, content_none, content_pair}
use Rattle.element_records.proofs.clash_with.Goals as goal

pub returns-then-is_some : goal.returns-then-is_some
returns-then-is_some c es x h k z = pending_kept c.args.s.now es x c.args.c c.if-is_some.ensures h

pub returns-in_err-m : goal.returns-in_err-m
returns-in_err-m c es x h k z =
    let a = c.args in
    pending_clear a.s.now es x a.c _ c.if-is_some.ensures c.from_residual.ensures h (content_empty a.s.now a.names.now a.table.now x (rw c.in_err-m.was at k))

pub returns-in_err-pair : goal.returns-in_err-pair
returns-in_err-pair c es x h k z =
    let a = c.args in
    pending_clear a.s.now es x a.c _ c.if-is_some.ensures c.from_residual-in_err-pair.ensures h
    (content_none a.s.now a.names.now a.table.now c.in_ok-m.m (rw c.in_ok-m.was at z) _ _ c.in_err-pair.ensures.by_index x refl (rw c.in_ok-m.was at k))

pub returns : goal.returns
returns c es x h k z =
    let a = c.args in
    pending_first a.s.now es x a.c _ c.if-is_some.ensures h
    (content_pair a.s.now a.names.now a.table.now c.in_ok-m.m (rw c.in_ok-m.was at z) _ _ c.in_ok-pair.ensures.by_index x _ c.in_ok-pair.ensures.fact c.place_at.ensures.0 (rw c.in_ok-m.was at k))
