use Rattle.full_tables.specs.And.{tells_more}
use Rattle.full_tables.proofs.holds_and.Goals as goal

pub loop-b-preserved : goal.loop-b-preserved
loop-b-preserved c = tells_more _ _ _ c.loop-b.invariant
