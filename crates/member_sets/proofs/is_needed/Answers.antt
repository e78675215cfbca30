-- `is_needed` meets its contract.
use Rattle.member_sets.specs.Linking.{due_by}
use Rattle.member_sets.proofs.is_needed.Goals as goal

pub returns : goal.returns
returns c = due_by _ _ c.args.h _ _ _ c.group_of-g.ensures.0 c.of_group.ensures.0 c.of_group-2.ensures.0
