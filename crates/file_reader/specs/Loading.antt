-- A law of how much was read.
use Rattle.std.specs.Prelude.{ℕ, ◌≤◌, List, length}
use Rattle.std.proofs.Common.{sym, length-take-le}
use Rattle.io.specs.Counts.{IsPrefixLen}

pub counts_of : (r : ℕ) (out : List ℕ) → r ≤ length out → IsPrefixLen r out
counts_of r out h = (h, sym (length-take-le r out h))
