use Rattle.attribute_events.specs.OneByOne.{holds_some, first_none, first_more, first_all}
use Rattle.attribute_events.proofs.put_all.Goals as goal

pub loop-k-init : goal.loop-k-init
loop-k-init c = first_none _ _ _ _ _ _

pub loop-k-preserved : goal.loop-k-preserved
loop-k-preserved c =
    first_more _ _ _ _ _ _ _ (holds_some _ _ c.count-count.ensures.2 c.loop-k-test.true) c.from-at.ensures c.from-size.ensures c.loop-k.invariant c.put_one-m.ensures

pub returns : goal.returns
returns c = first_all _ _ _ _ _ _ _ _ c.loop-k.auto.k-end c.loop-k-test.false c.count-count.ensures.1 (λ o s xs h l. c.count-count.ensures.0 o s xs h l) c.loop-k.invariant
