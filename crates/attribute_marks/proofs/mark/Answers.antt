-- `mark` meets its contract.
use native.Mathlib.Omega.{arith}
use Rattle.tag_attributes.specs.Given.{written_as}
use Rattle.list_table.specs.Finds.{number_none}
use Rattle.attribute_marks.specs.Answers.{answer_unlisted, answer_again, answer_fitting, answer_unfitting}
use Rattle.attribute_marks.proofs.mark.Goals as goal

pub returns-in_default : goal.returns-in_default
returns-in_default c = let a = c.args in
    λ xs before l u m. answer_unlisted _ a.s.now a.lists.now _ a.d.now (written_as a.w) a.marks.now xs before l u m _ (c.find.ensures.0 _ xs l) (number_none _ c.in_default.not-Some)

pub returns-then-marks-k-ne0 : goal.returns-then-marks-k-ne0
returns-then-marks-k-ne0 c = let a = c.args in
    λ xs before l u m. answer_again _ a.s.now a.lists.now _ a.d.now (written_as a.w) a.marks.now xs before l u m _ (c.in-Some.ensures.0 _ xs l) (λ z. omega (arith, c.in-Some.ensures.1, z)) (λ z. omega (arith, c.if-marks-k-ne0.true, z))

pub returns-then-fits : goal.returns-then-fits
returns-then-fits c = let a = c.args in
    λ xs before l u m.
    answer_fitting _ a.s.now a.lists.now _ a.d.now (written_as a.w) a.marks.now xs before l u m _ (c.in-Some.ensures.0 _ xs l) (λ z. omega (arith, c.in-Some.ensures.1, z)) c.told-marks (omega (arith, c.if-marks-k-ne0.false)) _ c.attribute-r.ensures.0 _ c.value-v.ensures (omega (arith, c.requires)) _ c.fits.ensures c.if-fits.true

pub returns : goal.returns
returns c = let a = c.args in
    λ xs before l u m.
    answer_unfitting _ a.s.now a.lists.now _ a.d.now (written_as a.w) a.marks.now xs before l u m _ (c.in-Some.ensures.0 _ xs l) (λ z. omega (arith, c.in-Some.ensures.1, z)) c.told-marks (omega (arith, c.if-marks-k-ne0.false)) _ c.attribute-r.ensures.0 _ c.value-v.ensures (omega (arith, c.requires)) _ c.fits.ensures c.if-fits.false
