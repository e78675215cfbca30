-- `around` meets its contract.
use mathlib.Core.Path.{refl}
use Rattle.std.proofs.lemmas.Bool.{false≢true}
use Rattle.member_sets.specs.Linking.{found_alone, found_within}
use Rattle.member_sets.proofs.around.Goals as goal

pub returns-then-not-is_around : goal.returns-then-not-is_around
returns-then-not-is_around c =
    found_alone _ _ c.args.g _ _ _ _ c.requires c.of_group-first.ensures.0 c.of_group-size.ensures.0 c.of_group-outer.ensures.0 c.range-own.ensures _
    c.group_of-f.ensures.0
    (λ x y z w. false≢true (c.if-not-is_around.ensures.1 (x, y, z, w)))
    _
    c.none.ensures

pub returns : goal.returns
returns c =
    let t = c.if-not-is_around.ensures.0 refl in
    found_within _ _ c.args.g _ _ _ _ c.requires c.of_group-first.ensures.0 c.of_group-size.ensures.0 c.of_group-outer.ensures.0 c.range-own.ensures _
    c.group_of-f.ensures.0
    t.0
    _
    _
    _
    (c.with.ensures _ c.holding.ensures)
    (λ k has. c.bitor.ensures k _ has c.among.ensures)
    c.reach_from.ensures
