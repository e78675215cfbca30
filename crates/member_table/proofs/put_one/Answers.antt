-- `put_one` meets its contract: the member's number, a place that begins another, and then the member is put.
use mathlib.Core.Path.{◌≡◌, ◌∙◌}
use native.Mathlib.Omega.{arith}
use Rattle.member_table.specs.Filling.{number_at, other_at, piece_at}
use Rattle.member_table.specs.Counting.{number_null, number_needed}
use Rattle.member_table.specs.Putting.{other_second, other_first, one_put}
use Rattle.member_table.proofs.put_one.Goals as goal
use Rattle.member_table.proofs.put_one.Goals.{then-m, else-m, then-j-eq0, else-j-eq0}

-- The piece that begins another member is on the stack.
pub bounds-stack-o : goal.bounds-stack-o
bounds-stack-o c =
    elim c.if-j-eq0.branch [
      | then-j-eq0 w ↦ omega (arith, w.o-is)
      | else-j-eq0 w ↦ omega (arith, w.o-is)
    ]

pub invariant_of-member-clause-numbered : goal.invariant_of-member-clause-numbered
invariant_of-member-clause-numbered c =
    let x = c.args in
    let n = c.needed_in-n.ensures.0 in
    let h : c.if-m.h ≡ number_at x.stack.now x.first x.own x.needed x.j =
    elim c.if-m.branch [
      | then-m w ↦ number_null x.stack.now x.first x.own x.needed x.j _ n w.if-m.true _ (omega (arith, w.h-is))
      | else-m w ↦ number_needed x.stack.now x.first x.own x.needed x.j _ n w.if-m.false _ (omega (arith, w.h-is))
    ] in
    rw h c.requires.j_bound_2

pub returns : goal.returns
returns c =
    let x = c.args in
    let n = c.needed_in-n.ensures.0 in
    let h : c.if-m.h ≡ number_at x.stack.now x.first x.own x.needed x.j =
    elim c.if-m.branch [
      | then-m w ↦ number_null x.stack.now x.first x.own x.needed x.j _ n w.if-m.true _ (omega (arith, w.h-is))
      | else-m w ↦ number_needed x.stack.now x.first x.own x.needed x.j _ n w.if-m.false _ (omega (arith, w.h-is))
    ] in
    let o : (piece_at x.stack.now c.if-j-eq0.o).lo ≡ other_at x.stack.now x.first x.j =
    elim c.if-j-eq0.branch [
      | then-j-eq0 w ↦ other_second x.stack.now x.first x.j _ w.if-j-eq0.true w.o-is
      | else-j-eq0 w ↦ other_first x.stack.now x.first x.j _ w.if-j-eq0.false w.o-is
    ] in
    one_put x.members.now x.d.base x.d.table.now x.d.lasts.now x.d.groups x.own x.stack.now x.first x.needed x.j _ _ _ _
    h (c.wide-3.ensures.0 ∙ o) c.wide.ensures.0 c.wide-2.ensures.0 _ c.put_member.ensures
