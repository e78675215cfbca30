-- `inferable` meets its contract: what may be started at the place that is required.
use mathlib.Core.Path.{◌∙◌}
use mathlib.Core.List.{[]}
use Rattle.document_laws.specs.Moves.{fresh}
use Rattle.type_tables.specs.Marks.{entered_fresh, fresh_required}
use Rattle.type_tables.proofs.inferable.Goals as goal

pub returns-clause-by_index : goal.returns-clause-by_index
returns-clause-by_index c s es M tables declared = c.startable.ensures.by_index s es _ M tables (fresh _) [] 0 0 (entered_fresh declared) (c.required-q.ensures ∙ fresh_required tables declared)
