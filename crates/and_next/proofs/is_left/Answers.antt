-- `is_left` meets its contract: it asks for none of the members that forbid the place.
use Rattle.and_next.proofs.is_left.Goals as goal

pub returns : goal.returns
returns c = record {
  none = λ t B has. c.is_none.ensures.none t _ (c.bitor.ensures _ _ (c.sub-lacking.ensures _ _ (c.bitand.ensures _ _ (c.sub-beside.ensures _ _ c.among-around.ensures c.among.ensures) c.needed.ensures) has) (c.bitand-again.ensures _ _ (c.bitand-2.ensures _ _ (c.sub.ensures _ _ (c.with-hold.ensures _ c.holding.ensures) (c.with-own.ensures _ c.holding-2.ensures)) c.among-around.ensures) has));
  some = λ t B has. c.is_none.ensures.some t _ (c.bitor.ensures _ _ (c.sub-lacking.ensures _ _ (c.bitand.ensures _ _ (c.sub-beside.ensures _ _ c.among-around.ensures c.among.ensures) c.needed.ensures) has) (c.bitand-again.ensures _ _ (c.bitand-2.ensures _ _ (c.sub.ensures _ _ (c.with-hold.ensures _ c.holding.ensures) (c.with-own.ensures _ c.holding-2.ensures)) c.among-around.ensures) has));
}
