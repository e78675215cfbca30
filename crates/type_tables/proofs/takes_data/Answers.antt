-- `takes_data` meets its contract: data is the name 0.
use mathlib.Core.Path.{refl, ◌∙◌, ap}
use native.Mathlib.Omega.{arith}
use lib.Dec.{leb}
use Rattle.rules.specs.Decisions.{pcdata}
use Rattle.type_tables.specs.Fitting.{fits_low, fits_high, some_found, read_data}
use Rattle.type_tables.proofs.takes_data.Goals as goal

pub returns-then-p-gt-GRPGTCNT : goal.returns-then-p-gt-GRPGTCNT
returns-then-p-gt-GRPGTCNT c s es tables o entered =
    let a = c.args in
    some_found c.largest_among-q.result.0 ∙ ap (leb 1) (fits_high tables entered pcdata tt _ _ _ refl (read_data a.t.facts.now a.e.0 _ c.wide.ensures.0) c.if-p-gt-GRPGTCNT.true c.largest_among-q.ensures)

pub returns : goal.returns
returns c s es tables o entered =
    let a = c.args in
    some_found c.largest-q.result.0 ∙ ap (leb 1) (fits_low tables entered pcdata tt _ _ _ refl (read_data a.t.facts.now a.e.0 _ c.wide.ensures.0) (omega (arith, c.if-p-gt-GRPGTCNT.false)) c.largest-q.ensures)
