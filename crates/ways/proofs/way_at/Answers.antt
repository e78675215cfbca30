-- `way_at` meets its contract: the token fits, or else there is a chain, or neither.
use mathlib.Core.Path.{sym, ◌∙◌}
use Rattle.ways.specs.Chains.{fits_at, way_taken, way_inferred, way_stuck}
use Rattle.ways.proofs.way_at.Goals as goal

pub returns-then-p-ne0-clause-by_index : goal.returns-then-p-ne0-clause-by_index
returns-then-p-ne0-clause-by_index c = λ s es tables o entered required t i d. way_taken _ _ _ (c.fitting-p.ensures.by_index s es tables o entered t i d ∙ fits_at s t entered) c.if-p-ne0.true

pub returns-then-n-ne0-clause-by_index : goal.returns-then-n-ne0-clause-by_index
returns-then-n-ne0-clause-by_index c = λ s es tables o entered required t i d.
    way_inferred _ _ _ (sym (c.fitting-p.ensures.by_index s es tables o entered t i d ∙ fits_at s t entered) ∙ c.if-p-ne0.false)
    (c.chain-n.ensures.by_index s es _ tables o (record { begun = _; level = _; place = _; entered = entered; required = required }) t i d) c.if-n-ne0.true

pub returns-clause-by_index : goal.returns-clause-by_index
returns-clause-by_index c = λ s es tables o entered required t i d.
    way_stuck _ _ (sym (c.fitting-p.ensures.by_index s es tables o entered t i d ∙ fits_at s t entered) ∙ c.if-p-ne0.false)
    (sym (c.chain-n.ensures.by_index s es _ tables o (record { begun = _; level = _; place = _; entered = entered; required = required }) t i d) ∙ c.if-n-ne0.false)
