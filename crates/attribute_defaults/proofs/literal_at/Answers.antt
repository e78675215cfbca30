-- `literal_at` meets its contract: the value is handed over by `value`, and tried by `fits`.
use mathlib.Core.Path.{sym}
use native.Mathlib.Omega.{arith}
use Rattle.rules_laws.specs.Holds.{got_so}
use Rattle.rules_laws.specs.Definitions.{literal_holds}
use Rattle.text.specs.Words.{passed_on}
use Rattle.attribute_defaults.specs.Ways.{literal_refused, literal_misfit, literal_fits}
use Rattle.attribute_defaults.proofs.literal_at.Goals as goal

pub returns-in_err-e : goal.returns-in_err-e
returns-in_err-e c = let a = c.args in
    rw (passed_on _ c.from_residual.ensures.1) (λ y d. sym (literal_refused a.long a.s.now y a.i _ _ (sym c.in_err-e.ensures)), tt)

pub overflow_sub-size : goal.overflow_sub-size
overflow_sub-size c = let a = c.args in
    omega (arith, got_so (literal_holds a.s.now a.i) (sym c.in_ok-e.ensures))

pub overflow_add-result-then-fits : goal.overflow_add-result-then-fits
overflow_add-result-then-fits c = let a = c.args in
    omega (arith, got_so (literal_holds a.s.now a.i) (sym c.in_ok-e.ensures))

pub returns-then-fits : goal.returns-then-fits
returns-then-fits c = let a = c.args in
    let h = sym c.in_ok-e.ensures in
    let r = got_so (literal_holds a.s.now a.i) h in
    (λ y d. literal_fits a.long a.s.now y a.i _ h r.0 r.1 _ c.value-v.ensures (c.fits.ensures y d) c.if-fits.true, omega (arith, r, c.requires.0))

pub returns : goal.returns
returns c = let a = c.args in
    let h = sym c.in_ok-e.ensures in
    let r = got_so (literal_holds a.s.now a.i) h in
    rw c.at.ensures (λ y d. (literal_misfit a.long a.s.now y a.i _ h r.0 r.1 _ c.value-v.ensures (c.fits.ensures y d) c.if-fits.false), tt)
