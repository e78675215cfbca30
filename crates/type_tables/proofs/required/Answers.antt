-- `required` meets its contract.
use Prim.Native.Nat.{ℕ, ◌+◌}
use mathlib.Core.Path.{sym, ◌∙◌, ap}
use lib.ListN.{get_or}
use Rattle.layout.specs.Sizes.{REQUIRED}
use Rattle.type_tables.specs.Tables.{place_or0}
use Rattle.type_tables.specs.Ranges.{kept_place, no_place}
use Rattle.type_tables.proofs.required.Goals as goal

pub returns-then-p-gt-GRPGTCNT : goal.returns-then-p-gt-GRPGTCNT
returns-then-p-gt-GRPGTCNT c = let a = c.args in sym (ap place_or0 (ap (λ (i : ℕ). get_or a.rows.now (i + REQUIRED) 0) (sym c.row.ensures) ∙ sym c.wide-p.ensures.0) ∙ no_place _ c.if-p-gt-GRPGTCNT.true)

pub returns : goal.returns
returns c = let a = c.args in sym (ap place_or0 (ap (λ (i : ℕ). get_or a.rows.now (i + REQUIRED) 0) (sym c.row.ensures) ∙ sym c.wide-p.ensures.0) ∙ kept_place _ c.if-p-gt-GRPGTCNT.false)
