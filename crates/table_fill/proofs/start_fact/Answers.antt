-- `start_fact` meets its contract: a required attribute keeps the start from being inferred.
use Rattle.table_fill.specs.Elements.{start_required, start_recorded}
use Rattle.table_fill.proofs.start_fact.Goals as goal

pub returns-then-needs_tag : goal.returns-then-needs_tag
returns-then-needs_tag c = start_required _ _ _ c.needs_tag.ensures c.if-needs_tag.true

pub returns : goal.returns
returns c = start_recorded _ _ _ c.needs_tag.ensures c.if-needs_tag.false
