use native.Mathlib.Omega.{arith}
use lib.ListN.{length}
use Rattle.attribute_marks.specs.Turns.{kept_in_lem, misfit_more, misfit_within, refused_attribute, refused_value, going_first, going_right, going_wrong, going_stop, going_misfit, going_end}
use Rattle.attribute_marks.proofs.marked.Goals.{in-Err+in_default-r, in_default}
use Rattle.attribute_marks.proofs.marked.Goals as goal

pub loop-k-init : goal.loop-k-init
loop-k-init c = (omega arith, going_first _ _ _ _ _ _ _, tt)

pub mark-requires : goal.mark-requires
mark-requires c = (omega arith, omega arith, omega arith, omega arith, kept_in_lem (length c.args.d.now) c.args.given.now c.args.n c.requires.3 _ (omega arith) c.kept-w.result c.kept-w.ensures)

pub loop-k-preserved : goal.loop-k-preserved
loop-k-preserved c = let a = c.args in
    let inside = kept_in_lem (length a.d.now) a.given.now a.n c.requires.3 _ (omega arith) c.kept-w.result c.kept-w.ensures in (
      omega arith,
      elim c.match-mark.branch [
        | in-Err+in_default-r w ↦
            rw (w.misfit-is, w.or-misfit.ensures)
            (going_wrong _ a.s.now a.lists.now _ a.d.now a.given.now _ _ _ _ c.loop-k.invariant.1 _ c.kept-w.ensures _ _ w.in_default-r.not-Attribute w.in-Err.ensures)
        | in_default w ↦
            rw w.misfit-is (going_right _ a.s.now a.lists.now _ a.d.now a.given.now _ _ _ _ c.loop-k.invariant.1 _ c.kept-w.ensures _ _ w.in_default.not-Err c.mark.ensures)
      ],
      elim c.match-mark.branch [
        | in-Err+in_default-r w ↦ rw (w.misfit-is, w.or-misfit.ensures) (misfit_more c.loop-k.misfit _ c.loop-k.invariant.2 (omega (arith, inside.1)))
        | in_default w ↦ rw w.misfit-is c.loop-k.invariant.2
      ],
    )

pub returns-in-Attribute-clause-by_list : goal.returns-in-Attribute-clause-by_list
returns-in-Attribute-clause-by_list c = let a = c.args in
    λ xs l u z. rw c.at.ensures (going_stop _ a.s.now a.lists.now _ a.d.now a.given.now a.marks.now _ _ _ c.loop-k.invariant.1 _ c.kept-w.ensures _ _ c.in-Attribute.is c.in-Err.ensures _ (omega arith) xs l u z)

pub returns-in-Attribute-clause-fits : goal.returns-in-Attribute-clause-fits
returns-in-Attribute-clause-fits c = let a = c.args in
    let inside = kept_in_lem (length a.d.now) a.given.now a.n c.requires.3 _ (omega arith) c.kept-w.result c.kept-w.ensures in
    refused_attribute (length a.d.now) _ c.in-Attribute.is _ (omega (arith, inside.0)) _ c.at.ensures

pub returns-in-Some-clause-by_list : goal.returns-in-Some-clause-by_list
returns-in-Some-clause-by_list c = let a = c.args in
    λ xs l u z. rw c.at-in-Some.ensures (going_misfit _ a.s.now a.lists.now _ a.d.now a.given.now a.marks.now _ _ (omega arith) _ _ c.loop-k.invariant.1 xs l u z c.in-Some.is)

pub returns-in-Some-clause-fits : goal.returns-in-Some-clause-fits
returns-in-Some-clause-fits c = refused_value (length c.args.d.now) _ (misfit_within _ c.loop-k.invariant.2 c.in-Some.is) _ c.at-in-Some.ensures

pub returns-in-None-clause-by_list : goal.returns-in-None-clause-by_list
returns-in-None-clause-by_list c = let a = c.args in
    λ xs l u z. going_end _ a.s.now a.lists.now _ a.d.now a.given.now a.marks.now _ _ (omega arith) _ _ c.loop-k.invariant.1 xs l u z c.in-None.is
