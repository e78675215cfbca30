-- `put_places` meets its contract. The invariant: what is left to do, done to the table as it is, gives the table that is to be.
use mathlib.Core.Path.{◌≡◌}
use lib.ListN.{length}
use Rattle.member_entries.specs.Entries.{put_places}
use Rattle.member_entries.proofs.put_places.Given as goal

abbrev pub invariant-loop-u : goal.invariant-loop-u
invariant-loop-u l = (length l.members ≡ length l.initial.members) × (put_places l.members l.d.base l.d.table.now l.m.other l.m.number l.u l.m.hi ≡ put_places l.initial.members l.d.base l.d.table.now l.m.other l.m.number l.m.lo l.m.hi)
