-- `listed` meets its contract: the table is filled, the records are put, and the room is looked at.
use native.Mathlib.Omega.{arith}
use Rattle.attribute_records.specs.Decided.{listed_full, listed_put}
use Rattle.attribute_records.proofs.listed.Goals as goal

pub returns-then-room-t : goal.returns-then-room-t
returns-then-room-t c =
    let a = c.args in
    listed_full a.long a.s.now a.heads.now _ a.n c.fill.ensures _ _ _ _ c.put_lists-t.ensures.0 a.room _ (omega arith) c.at.ensures

pub returns : goal.returns
returns c =
    let a = c.args in
    listed_put a.long a.s.now a.heads.now _ a.n c.fill.ensures _ _ _ _ c.put_lists-t.ensures.0 a.room (omega arith)
