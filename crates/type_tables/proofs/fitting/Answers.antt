-- `fitting` meets its contract: the number that is kept tells whether the model has an "&", and where to search from.
use native.Mathlib.Omega.{arith}
use Rattle.type_tables.specs.Fitting.{fits_low, fits_high}
use Rattle.type_tables.proofs.fitting.Goals as goal

pub returns-then-p-gt-GRPGTCNT-clause-by_index : goal.returns-then-p-gt-GRPGTCNT-clause-by_index
returns-then-p-gt-GRPGTCNT-clause-by_index c s es tables o entered t name known = fits_high tables entered t known _ _ _ name c.wide.ensures.0 c.if-p-gt-GRPGTCNT.true c.largest_among.ensures

pub returns-then-p-gt-GRPGTCNT-clause-result_bound : goal.returns-then-p-gt-GRPGTCNT-clause-result_bound
returns-then-p-gt-GRPGTCNT-clause-result_bound c = c.largest_among.ensures.small

pub returns-clause-by_index : goal.returns-clause-by_index
returns-clause-by_index c s es tables o entered t name known = fits_low tables entered t known _ _ _ name c.wide.ensures.0 (omega (arith, c.if-p-gt-GRPGTCNT.false)) c.largest.ensures

pub returns-clause-result_bound : goal.returns-clause-result_bound
returns-clause-result_bound c = c.largest.ensures.small
