-- `put_outers` meets its contract. The invariant: what is left to do, done to the table as it is, gives the table that is to be.
use Prim.Native.Nat.{◌+◌}
use mathlib.Core.Path.{◌≡◌}
use lib.ListN.{length}
use Rattle.member_entries.specs.Entries.{put_outers}
use Rattle.member_entries.proofs.put_outers.Given as goal

abbrev pub invariant-loop-g : goal.invariant-loop-g
invariant-loop-g l = (length l.members ≡ length l.initial.members) × (put_outers l.members l.d.base l.d.table.now l.m.other l.m.number l.m.lo l.m.hi l.d.lasts.now l.g (l.d.groups + 1) ≡ put_outers l.initial.members l.d.base l.d.table.now l.m.other l.m.number l.m.lo l.m.hi l.d.lasts.now 1 (l.d.groups + 1))
