use mathlib.Core.Path.{◌≡◌, refl}
use native.Mathlib.Omega.{arith}
use Rattle.layout.specs.Sizes.{CONTENTS}
use Rattle.table_fill.specs.Filled.{raise_none, raise_more}
use Rattle.table_fill.proofs.raise_facts.Goals as goal

pub loop-x-init : goal.loop-x-init
loop-x-init c = λ e l q. raise_none _ _ c.told-facts

pub loop-x-preserved : goal.loop-x-preserved
loop-x-preserved c = λ e l q. raise_more _ _ _ _ _ _ l (omega arith) (c.loop-x.invariant e l q) (omega arith) c.raised.ensures

pub returns : goal.returns
returns c = let full : c.loop-x.x ≡ CONTENTS = omega arith in
    rw full at (c.loop-x.invariant c.args.e.0 c.requires refl)
