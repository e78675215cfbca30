-- `raised` meets its contract: no place stays none, and a place is raised.
use Prim.Native.Nat.{ℕ, zero, suc, ◌+◌}
use mathlib.Core.Path.{◌≡◌, refl}
use mathlib.Core.Bool.{true}
use native.Mathlib.Omega.{arith}
use Rattle.layout.specs.Sizes.{RAISE}
use Rattle.type_tables.specs.Tables.{raised_place}
use Rattle.table_fill.proofs.raised.Goals as goal

raises : (p : ℕ) → (p ≡ 0 → ⊥) → p + RAISE ≡ raised_place true p
raises zero z = absurd (z refl)
raises (suc p) z = omega arith

pub returns-then-p-eq0 : goal.returns-then-p-eq0
returns-then-p-eq0 c l = rw c.if-p-eq0.true

pub returns-then-p-ge-RAISED : goal.returns-then-p-ge-RAISED
returns-then-p-ge-RAISED c l = absurd (omega arith)

pub returns : goal.returns
returns c l = raises _ c.if-p-eq0.false
