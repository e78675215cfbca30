-- `kept` meets its contract.
use Prim.Native.Nat.{ℕ, ◌+◌}
use mathlib.Core.Path.{◌∙◌, ap}
use native.Mathlib.Omega.{arith}
use lib.ListN.{get_or}
use Rattle.layout.specs.Sizes.{REQUIRED}
use Rattle.type_tables.proofs.kept.Goals as goal

pub returns : goal.returns
returns c = let a = c.args in (c.wide.ensures.0 ∙ ap (λ (i : ℕ). get_or a.rows.now (i + REQUIRED) 0) c.row.ensures, omega (arith, c.wide.ensures.1))
