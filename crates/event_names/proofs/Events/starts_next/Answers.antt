use Rattle.std.proofs.Common.{◌∙◌, arith}
use Rattle.event_names.specs.Naming.{starts_here, starts_behind, starts_none}
use Rattle.event_names.proofs.Events.starts_next.Goals as goal

pub returns-then-is_either : goal.returns-then-is_either
returns-then-is_either c = starts_here _ _ _ (omega arith) c.is_either.ensures c.if-is_either.true ∙ c.loop-j.invariant

pub loop-j-preserved : goal.loop-j-preserved
loop-j-preserved c = starts_behind _ _ _ (omega arith) c.is_either.ensures c.if-is_either.false ∙ c.loop-j.invariant

pub returns : goal.returns
returns c = starts_none _ _ _ (omega arith) ∙ c.loop-j.invariant
