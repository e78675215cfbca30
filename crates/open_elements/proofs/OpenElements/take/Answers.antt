-- `take` meets its contract: the marks are what the row has after the place, or what is left by the groups that lack a member.
use mathlib.Core.Path.{ap}
use Rattle.layout.specs.declared.Place.{Place}
use Rattle.open_elements.specs.Methods.{taking_by}
use Rattle.open_elements.specs.Taken.{marking_same, marking_plain, marking_among}
use Rattle.open_elements.proofs.OpenElements.take.Goals as goal
use Rattle.open_elements.proofs.OpenElements.take.Goals.{then-kept-gt-GRPGTCNT, else-kept-gt-GRPGTCNT}

pub returns : goal.returns
returns c =
    taking_by c.args.self
    (elim c.if-kept-gt-GRPGTCNT.branch [
      | then-kept-gt-GRPGTCNT w ↦ marking_same w.begun-is w.complete-is (ap (λ (p : Place). p.0) w.required-is) (marking_among c.kept-kept.ensures.0 c.complete-complete.ensures w.if-kept-gt-GRPGTCNT.true w.take-m.ensures.value w.weighed-marks.ensures)
      | else-kept-gt-GRPGTCNT w ↦ marking_same w.begun-is w.complete-is (ap (λ (p : Place). p.0) w.required-is) (marking_plain c.kept-kept.ensures.0 c.complete-complete.ensures w.if-kept-gt-GRPGTCNT.false)
    ])
