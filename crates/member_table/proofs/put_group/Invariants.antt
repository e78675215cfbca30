-- `put_group` meets its contract. The invariant: what is left to do, done to the table as it is, gives the table that is to be.
use mathlib.Core.Path.{◌≡◌}
use lib.ListN.{length}
use Rattle.member_table.specs.Filling.{put_ones}
use Rattle.member_table.proofs.put_group.Given as goal

abbrev pub invariant-loop-j : goal.invariant-loop-j
invariant-loop-j l = (length l.members ≡ length l.initial.members) × (put_ones l.members l.d.base l.d.table.now l.d.lasts.now l.d.groups l.own l.stack l.first l.needed l.j l.k ≡ put_ones l.initial.members l.d.base l.d.table.now l.d.lasts.now l.d.groups l.own l.stack l.first l.needed 0 l.k)
