-- `key` meets its contract: what it reads of the place, one call after the other.
use mathlib.Core.Path.{sym, ◌∙◌}
use Rattle.model_names.specs.Shared.{key_none, key_some}
use Rattle.model_names.proofs.key.Goals as goal

pub returns-then-n-eq0 : goal.returns-then-n-eq0
returns-then-n-eq0 c = key_none _ _ (sym c.place_size-n.ensures.0 ∙ c.if-n-eq0.true)

pub returns : goal.returns
returns c =
    key_some _ _ _ _ _ _ _ c.place_size-n.ensures.0 c.if-n-eq0.false c.place_at-at.ensures.0 c.folded_at-a.ensures.0 c.folded_at-b.ensures.0 c.folded_at-c.ensures.0
