use Prim.Native.Nat.{◌+◌}
use mathlib.Core.Path.{sym, subst}
use native.Mathlib.Omega.{arith}
use Rattle.text.specs.Words.{name_end_from, name_end_le, separators_end_from, separators_end_le}
use Rattle.attribute_values.specs.Groups.{Rests, rests_first, group_has, group_lacks, group_on, group_inside, connector_in}
use Rattle.attribute_values.proofs.is_in_group.Goals as goal

pub returns-then-s-at : goal.returns-then-s-at
returns-then-s-at c = let a = c.args in
    λ d ps g. absurd (omega (arith, group_inside d a.s.now a.at ps g, c.if-s-at.true))

pub loop-at-init : goal.loop-at-init
loop-at-init c = let a = c.args in
    let e = c.separators_end-i.ensures in (
      omega (arith, separators_end_le a.s.now (a.at + 1) (omega arith)),
      λ d ps g. subst (Rests a.s.now a.v.now ps) (sym e) (rests_first a.s.now a.v.now d a.at ps g),
    )

pub name_end-e-requires : goal.name_end-e-requires
name_end-e-requires c = c.loop-at.invariant.0

pub is_token-requires : goal.is_token-requires
is_token-requires c = let s = c.args.s.now in
    omega (arith, name_end_from s c.loop-at.i, name_end_le s c.loop-at.i c.loop-at.invariant.0)

pub returns-then-is_token : goal.returns-then-is_token
returns-then-is_token c = let a = c.args in
    λ d ps g. sym (group_has a.s.now a.v.now ps c.loop-at.i (c.loop-at.invariant.1 d ps g) _ c.name_end-e.ensures c.is_token.ensures c.if-is_token.true)

pub separators_end-j-requires : goal.separators_end-j-requires
separators_end-j-requires c = let s = c.args.s.now in
    omega (arith, name_end_le s c.loop-at.i c.loop-at.invariant.0)

pub returns-then-not-is_token_connector : goal.returns-then-not-is_token_connector
returns-then-not-is_token_connector c = let a = c.args in
    λ d ps g.
    sym (group_lacks a.s.now a.v.now ps c.loop-at.i (c.loop-at.invariant.1 d ps g) _ c.name_end-e.ensures c.is_token.ensures c.if-is_token.false
    _ c.separators_end-j.ensures _ c.byte.ensures c.is_token_connector.ensures c.if-not-is_token_connector.true)

pub overflow_add-j : goal.overflow_add-j
overflow_add-j c = let s = c.args.s.now in
    omega (arith, connector_in s c.separators_end-j.result _ c.byte.ensures c.is_token_connector.ensures c.if-not-is_token_connector.false)

pub separators_end-i-requires-in-loop-at : goal.separators_end-i-requires-in-loop-at
separators_end-i-requires-in-loop-at c = let s = c.args.s.now in
    omega (arith, connector_in s c.separators_end-j.result _ c.byte.ensures c.is_token_connector.ensures c.if-not-is_token_connector.false)

pub loop-at-smaller : goal.loop-at-smaller
loop-at-smaller c = let s = c.args.s.now in
    let j = c.separators_end-j.result in
    omega (
      arith,
      connector_in s j _ c.byte.ensures c.is_token_connector.ensures c.if-not-is_token_connector.false,
      separators_end_from s (j + 1),
      separators_end_from s c.name_end-e.result,
      name_end_from s c.loop-at.i,
    )

pub loop-at-preserved : goal.loop-at-preserved
loop-at-preserved c = let a = c.args in
    let j = c.separators_end-j.result in
    let inside = connector_in a.s.now j _ c.byte.ensures c.is_token_connector.ensures c.if-not-is_token_connector.false in (
      omega (arith, separators_end_le a.s.now (j + 1) (omega (arith, inside))),
      λ d ps g.
          group_on a.s.now a.v.now ps c.loop-at.i (c.loop-at.invariant.1 d ps g) _ c.name_end-e.ensures c.is_token.ensures c.if-is_token.false
          _ c.separators_end-j.ensures _ c.byte.ensures c.is_token_connector.ensures c.if-not-is_token_connector.false _ c.separators_end-i-in-loop-at.ensures,
    )
