-- `is_full` meets its contract: there is no member that must come and has not begun.
use Rattle.and_next.proofs.is_full.Goals as goal

pub returns : goal.returns
returns c = record {
  none = λ t B has. c.is_none.ensures.none t _ (c.sub.ensures _ _ (c.bitand-needed.ensures _ _ c.among.ensures c.needed.ensures) has);
  some = λ t B has. c.is_none.ensures.some t _ (c.sub.ensures _ _ (c.bitand-needed.ensures _ _ c.among.ensures c.needed.ensures) has);
}
