use Rattle.std.proofs.Common.{sym, ap, ◌∙◌, true≢false, arith, eq-eqb, eqb-true}
use Rattle.list_table.specs.declared.Row.{Row}
use Rattle.attribute_marks.specs.Missing.{missing_first, missing_turn, missing_found, missing_none}
use Rattle.attribute_marks.proofs.is_missing.Goals.{else-marks-k-eq0-via-then-marks-k-eq0+else-is_required, else-marks-k-eq0-via-else-marks-k-eq0}
use Rattle.attribute_marks.proofs.is_missing.Goals as goal

pub loop-k-init : goal.loop-k-init
loop-k-init c = (omega arith, missing_first _ _ _)

pub returns-then-is_required : goal.returns-then-is_required
returns-then-is_required c = let a = c.args in
    λ o s d xs ws l e m at. missing_found a.lists.now _ a.marks.now o s d xs ws l m at _ _ _ e (omega arith) c.if-marks-k-eq0.true c.attribute.ensures.0 (eqb-true _ _ (sym c.is_required.ensures ∙ c.if-is_required.true))

pub loop-k-preserved : goal.loop-k-preserved
loop-k-preserved c = let a = c.args in (
  omega arith,
  missing_turn a.lists.now _ a.marks.now _ c.loop-k.invariant.1
      (elim c.else-marks-k-eq0.branch [
        | else-marks-k-eq0-via-then-marks-k-eq0+else-is_required w ↦ λ x y. true≢false (sym (w.is_required.ensures ∙ eq-eqb _ _ (ap Row.default w.attribute.ensures.0 ∙ y)) ∙ w.if-is_required.false)
        | else-marks-k-eq0-via-else-marks-k-eq0 w ↦ λ x y. w.if-marks-k-eq0.false x
      ]),
)

pub returns : goal.returns
returns c = let a = c.args in
    λ o s d xs ws l e m at. missing_none a.lists.now _ a.marks.now o s d xs ws l m at _ _ e c.loop-k-test.false c.loop-k.invariant.1
