-- `put` meets its contract: past the end there is nothing to set.
use mathlib.Core.Path.{sym}
use lib.Seq.{set_out}
use Rattle.member_entries.proofs.put.Goals as goal

pub returns-else-i-members : goal.returns-else-i-members
returns-else-i-members c = sym (set_out _ _ _ c.if-i-members.false)
