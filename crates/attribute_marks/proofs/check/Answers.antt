-- `check` meets its contract.
use mathlib.Core.Path.{ap, sym, ◌∙◌}
use native.Mathlib.Omega.{arith}
use Rattle.std.proofs.Common.{inr}
use Rattle.text.specs.Refusal.{refusal_of}
use Rattle.text.specs.Words.{passed_on}
use Rattle.attribute_marks.specs.Turns.{check_given}
use Rattle.attribute_marks.specs.Answers.{all_given, attributed_refused, attributed_missing, attributed_passed}
use Rattle.attribute_marks.proofs.check.Goals as goal

pub returns-in_err-marked-clause-by_list : goal.returns-in_err-marked-clause-by_list
returns-in_err-marked-clause-by_list c = let a = c.args in
    rw (passed_on _ c.from_residual.ensures.1)
    (λ xs ws l u k.
    let e = c.count-n.ensures.0 a.long a.s.now xs (omega arith) l in
    attributed_refused _ a.s.now xs a.d.now ws _ a.at (all_given _ a.s.now xs a.d.now ws _ a.lists.now _ l a.given.now _ k _ (c.in_err-marked.ensures.by_list xs l u (λ j h. c.clear.ensures j (omega (arith, h, e))))))

pub returns-in_err-marked-clause-fits : goal.returns-in_err-marked-clause-fits
returns-in_err-marked-clause-fits c = rw (passed_on _ c.from_residual.ensures.1) (check_given _ _ _ c.in_err-marked.ensures.fits)

pub returns-then-is_missing-clause-by_list : goal.returns-then-is_missing-clause-by_list
returns-then-is_missing-clause-by_list c = let a = c.args in
    λ xs ws l u k.
    let e = c.count-n.ensures.0 a.long a.s.now xs (omega arith) l in
    let given = all_given _ a.s.now xs a.d.now ws _ a.lists.now _ l a.given.now _ k _ (c.in_ok-marked.ensures.by_list xs l u (λ j h. c.clear.ensures j (omega (arith, h, e)))) in
    attributed_missing _ a.s.now xs a.d.now ws _ a.at given _ (λ m. c.is_missing.ensures a.long a.s.now a.d.now xs ws l e m a.at) c.if-is_missing.true ∙ ap refusal_of (sym c.at.ensures)

pub returns-then-is_missing-clause-fits : goal.returns-then-is_missing-clause-fits
returns-then-is_missing-clause-fits c = inr c.at.ensures

pub returns-clause-by_list : goal.returns-clause-by_list
returns-clause-by_list c = let a = c.args in
    λ xs ws l u k.
    let e = c.count-n.ensures.0 a.long a.s.now xs (omega arith) l in
    let given = all_given _ a.s.now xs a.d.now ws _ a.lists.now _ l a.given.now _ k _ (c.in_ok-marked.ensures.by_list xs l u (λ j h. c.clear.ensures j (omega (arith, h, e)))) in
    attributed_passed _ a.s.now xs a.d.now ws _ a.at given _ (λ m. c.is_missing.ensures a.long a.s.now a.d.now xs ws l e m a.at) c.if-is_missing.false
