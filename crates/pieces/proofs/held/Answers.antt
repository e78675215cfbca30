-- `held` meets its contract: what `check` says, or nothing is to be held.
use mathlib.Core.Path.{sym}
use native.Mathlib.Omega.{arith}
use Rattle.std.proofs.Common.{eqb-true}
use Rattle.pieces.specs.Pieces.{attributed_none}
use Rattle.pieces.proofs.held.Goals as goal

pub returns-then-is_empty : goal.returns-then-is_empty
returns-then-is_empty c = λ xs ws l n k.
    attributed_none _ _ _ _ _ _ _ _ _ (omega arith) (eqb-true _ _ (sym c.if-is_empty.ensures)) xs ws l k

pub returns : goal.returns
returns c = c.check.ensures.by_list
