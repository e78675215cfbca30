use mathlib.Core.Path.{sym, ◌∙◌}
use native.Mathlib.Omega.{arith}
use Rattle.member_sets.specs.Linking.{is_due, before_none, before_pass, before_with, before_all}
use Rattle.member_sets.proofs.needed_of.Goals as goal
use Rattle.member_sets.proofs.needed_of.Goals.{then-is_needed, else-is_needed}

pub loop-h-init : goal.loop-h-init
loop-h-init c = before_none _ _ c.none-b.ensures

pub loop-h-preserved : goal.loop-h-preserved
loop-h-preserved c = let i = c.loop-h in
    let m = c.args.m in
    let due = is_due m.table.now m.e.0 in
    elim c.if-is_needed.branch [
      | then-is_needed w ↦ rw w.b-is (before_with due i.b _ i.h (sym c.is_needed.ensures ∙ w.if-is_needed.true) w.with-b.ensures i.invariant)
      | else-is_needed w ↦ rw w.b-is (before_pass due i.b i.h (sym c.is_needed.ensures ∙ w.if-is_needed.false) i.invariant)
    ]

pub returns : goal.returns
returns c = before_all _ _ _ (omega arith) c.loop-h.invariant
