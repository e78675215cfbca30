use native.Mathlib.Omega.{arith}
use Rattle.list_table.specs.Finds.{named_first, named_turn, named_found, named_none}
use Rattle.list_table.proofs.find.Goals as goal

pub loop-k-init : goal.loop-k-init
loop-k-init c = let a = c.args in
    named_first a.s.now a.t.now a.at a.size _ _

pub attribute-requires : goal.attribute-requires
attribute-requires c = omega (arith, c.count-k-end.ensures.1)

pub returns-then-is_named : goal.returns-then-is_named
returns-then-is_named c = let a = c.args in (
  λ o xs l. named_found a.s.now a.t.now a.at a.size _ _ o xs l _ _ _ (c.count-k-end.ensures.0 o a.s.now xs (omega arith) l) (omega arith) c.loop-k.invariant c.attribute.ensures.0 c.is_named.ensures c.if-is_named.true,
  omega (arith, c.count-k-end.ensures.1),
)

pub loop-k-preserved : goal.loop-k-preserved
loop-k-preserved c = let a = c.args in
    named_turn a.s.now a.t.now a.at a.size _ _ _ _ c.loop-k.invariant c.attribute.ensures.0 c.is_named.ensures c.if-is_named.false

pub returns : goal.returns
returns c = let a = c.args in
    (λ o xs l. named_none a.s.now a.t.now a.at a.size _ _ o xs l _ _ (c.count-k-end.ensures.0 o a.s.now xs (omega arith) l) c.loop-k.auto.k-end c.loop-k-test.false c.loop-k.invariant, tt)
