-- `place_of` meets its contract: each way by what was found.
use mathlib.Core.Path.{sym, ◌∙◌, ap}
use mathlib.Core.List.{[]}
use Rattle.document_laws.specs.Decide.{decided}
use Rattle.ways.specs.Asks.{place_of}
use Rattle.ways.proofs.place_of.Goals as goal

pub returns-in-Taken : goal.returns-in-Taken
returns-in-Taken c =
    let a = c.args in
    record {
      by_index = λ s es M tables declared t i d. ap (place_of ((decided s es).fits a.e.0 [] t)) (sym c.in-Taken.is);
      result_bound = rw c.in-Taken.is at c.requires.2;
    }

pub returns-in-Inferred-clause-by_index : goal.returns-in-Inferred-clause-by_index
returns-in-Inferred-clause-by_index c =
    let a = c.args in
    λ s es M tables declared t i d. c.fitting_first.ensures.by_index s es M tables declared t i d ∙ ap (place_of ((decided s es).fits a.e.0 [] t)) (sym c.in-Inferred.is)

pub returns-in-Stuck-clause-by_index : goal.returns-in-Stuck-clause-by_index
returns-in-Stuck-clause-by_index c =
    let a = c.args in
    λ s es M tables declared t i d. ap (place_of ((decided s es).fits a.e.0 [] t)) (sym c.in-Stuck.is)
