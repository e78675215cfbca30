use Rattle.std.proofs.Common.{◌∙◌, arith}
use Rattle.attribute_lists.specs.Lookup.{any_taken}
use Rattle.attribute_lists.proofs.has_any.Goals as goal

pub returns : goal.returns
returns c = c.is_any.ensures ∙ any_taken c.args.heads.now c.args.n (omega (arith, c.told-heads))
