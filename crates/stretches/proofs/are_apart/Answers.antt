-- `are_apart` meets its contract: one of them has no number, or one ends before the other begins, or they share a number.
use Rattle.std.proofs.Common.{sym, ◌∙◌, leb-false}
use Rattle.stretches.specs.Tests.{apart_by}
use Rattle.stretches.proofs.are_apart.Goals as goal

pub returns-else-ends_within : goal.returns-else-ends_within
returns-else-ends_within c =
    let behind = leb-false _ _ (sym c.ends_within.ensures ∙ c.if-ends_within.false) in
    apart_by _ _ _ _ _ c.if-size-eq0.false c.if-its-eq0.false behind c.ends_within-else-ends_within.ensures
