-- `attributes_at` meets its contract. The invariant: what is still to be read, with what was, gives what the whole gives; the first of the latter are kept.
use Prim.Native.Nat.{◌-◌}
use mathlib.Core.List.{[]}
use lib.ListN.{length}
use Rattle.tags.specs.Attributes.{specifications_on, Goes}
use Rattle.tags.proofs.attributes_at.Given as goal

abbrev pub invariant-loop-j : goal.invariant-loop-j
invariant-loop-j l = Goes l.long l.s l.i l.e (specifications_on l.long (length l.s) l.s l.i l.e l.initial.j []) l.given l.n l.j

abbrev pub decreases-loop-j : goal.decreases-loop-j
decreases-loop-j l = length l.s - l.j
