-- `same_place` meets its contract: by the two sizes.
use Rattle.std.proofs.Common.{refl, ◌∙◌, ne_eqb}
use Rattle.model_names.specs.Shared.{same_sizes, other_sizes}
use borrow.Author.Rules.{rules}
use Rattle.model_names.proofs.same_place.Goals as goal

pub returns-then-n-place_size : goal.returns-then-n-place_size
returns-then-n-place_size c n p-to q-to =
    same_sizes _ _ n _ _ (search rules) p-to (search rules) q-to _ _ _ _
    c.place_at.ensures.0 c.place_size-n.ensures.0 c.place_at-then-n-place_size.ensures.0 c.place_size.ensures.0
    _ c.if-n-place_size.true c.same_text.ensures

pub returns-else-n-place_size : goal.returns-else-n-place_size
returns-else-n-place_size c n p-to q-to =
    ne_eqb _ _ c.if-n-place_size.false
    ∙ other_sizes _ _ n _ _ (search rules) p-to (search rules) q-to _ _ _ _ refl c.place_size-n.ensures.0 refl c.place_size.ensures.0 c.if-n-place_size.false
