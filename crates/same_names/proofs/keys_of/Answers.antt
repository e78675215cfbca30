use mathlib.Core.Path.{refl}
use native.Mathlib.Omega.{arith}
use Rattle.same_names.specs.Keys.{keyed_one}
use Rattle.same_names.proofs.keys_of.Goals as goal

pub loop-p-init : goal.loop-p-init
loop-p-init c = (omega arith, omega arith, record { len = refl; known = λ x a b. absurd (omega arith) })

pub loop-p-preserved : goal.loop-p-preserved
loop-p-preserved c = (omega arith, omega arith, keyed_one _ _ _ _ _ c.loop-p.invariant.2 (omega arith) c.key.ensures)

pub returns : goal.returns
returns c p a b = c.loop-p.invariant.2.known p a (omega arith)
