-- `fitting_first` meets its contract: at the start the row decides.
use Rattle.type_tables.specs.Fitting.{fits_start}
use Rattle.type_tables.proofs.fitting_first.Goals as goal

pub returns-clause-by_index : goal.returns-clause-by_index
returns-clause-by_index c s es M tables declared t name known = fits_start tables _ declared t known _ _ _ _ name c.wide.ensures.0 c.lowered.ensures c.largest.ensures

pub returns-clause-result_bound : goal.returns-clause-result_bound
returns-clause-result_bound c = c.largest.ensures.small
