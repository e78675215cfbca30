use mathlib.Core.Path.{◌≡◌}
use Rattle.rules.specs.Settling.{is_open}
use Rattle.open_elements.specs.Stands.{around_of}
use Rattle.open_elements.proofs.OpenElements.is_open.Given as goal

abbrev pub invariant-loop-i : goal.invariant-loop-i
invariant-loop-i l = is_open l.x.0 (around_of l.around l.initial.i) ≡ is_open l.x.0 (around_of l.around l.i)
