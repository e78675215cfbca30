-- `list_at` meets its contract: each way by what was read so far.
use mathlib.Core.Path.{sym}
use native.Mathlib.Omega.{arith}
use Rattle.text.specs.Words.{gap_range, passed_on}
use Rattle.attribute_lists.specs.Heads.{list_gap, list_unnamed, list_undefined, list_headed}
use Rattle.attribute_lists.proofs.list_at.Goals as goal

pub returns-in_err-i : goal.returns-in_err-i
returns-in_err-i c = let a = c.args in
    rw (passed_on _ c.from_residual.ensures.1) (λ es ls n r h. list_gap a.long a.s.now a.at es ls (sym c.in_err-i.ensures), tt)

pub listed_at-requires : goal.listed_at-requires
listed_at-requires c = omega (arith, c.requires, gap_range c.args.s.now c.args.at _ c.requires.1 (sym c.in_ok-i.ensures))

pub returns-in_err-l : goal.returns-in_err-l
returns-in_err-l c = let a = c.args in
    rw (passed_on _ c.from_residual-in_err-l.ensures.1) (λ es ls n r h. list_unnamed a.long a.s.now a.at es ls (sym c.in_ok-i.ensures) (sym (c.in_err-l.ensures.0 es ls n r h)), tt)

pub definitions_at-requires : goal.definitions_at-requires
definitions_at-requires c = omega (arith, c.requires, c.in_ok-l.ensures.1, gap_range c.args.s.now c.args.at _ c.requires.1 (sym c.in_ok-i.ensures))

pub returns-in_err-e : goal.returns-in_err-e
returns-in_err-e c = let a = c.args in
    rw (passed_on _ c.from_residual-in_err-e.ensures.1)
    (λ es ls n r h. list_undefined a.long a.s.now a.at es ls (sym c.in_ok-i.ensures) (sym (c.in_ok-l.ensures.0 es ls n r h)) c.in_err-e.ensures.meets_list, tt)

pub overflow_sub-h : goal.overflow_sub-h
overflow_sub-h c = omega (arith, c.in_ok-l.ensures.1)

pub overflow_cast-heads : goal.overflow_cast-heads
overflow_cast-heads c = omega (arith, c.requires, c.in_ok-l.ensures.1)

pub offset_bounds-heads-h : goal.offset_bounds-heads-h
offset_bounds-heads-h c = omega (arith, c.requires, c.in_ok-l.ensures.1)

pub bounds-heads-h : goal.bounds-heads-h
bounds-heads-h c = omega (arith, c.requires, c.in_ok-l.ensures.1)

pub returns : goal.returns
returns c = let a = c.args in
    let o = a.long in
    let g = sym c.in_ok-i.ensures in
    let range = gap_range a.s.now a.at _ c.requires.1 g in
    let w = c.in_ok-l.ensures.1 in (
      λ es ls n r h.
          list_headed o a.s.now a.at es ls g (sym (c.in_ok-l.ensures.0 es ls n r h)) a.heads.now _ _ h c.told-heads (omega (arith, c.requires, range, w)) w.3 w.0 (omega (arith, c.requires, w)) w.4 c.in_ok-e.ensures.meets_list,
      omega (arith, range, w, c.in_ok-e.ensures.list_in),
    )
