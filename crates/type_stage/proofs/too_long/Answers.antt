-- `too_long` meets its contract: what comes before a document's 1 is the type's, or nothing does.
use Rattle.type_stage.proofs.too_long.Goals as goal

pub returns : goal.returns
returns c settings s elements heads h = rw c.in-Unread.is at (rw c.in-Err.is at h)
