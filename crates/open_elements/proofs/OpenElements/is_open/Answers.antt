-- `is_open` meets its contract: what is still to be looked at decides, from the innermost outwards.
use mathlib.Core.Path.{◌≡◌, refl, sym, ◌∙◌}
use native.Mathlib.Omega.{arith}
use Rattle.open_elements.specs.Methods.{open_here, open_past, open_none, open_entry, open_further}
use Rattle.open_elements.proofs.OpenElements.is_open.Goals as goal

pub returns-then-e-x : goal.returns-then-e-x
returns-then-e-x c = sym (open_here _ _ _ c.if-e-x.true)

pub loop-i-init : goal.loop-i-init
loop-i-init c = refl

pub returns-then-k-x : goal.returns-then-k-x
returns-then-k-x c =
    let a = c.args in
    sym (open_past _ _ _ c.if-e-x.false ∙ c.loop-i.invariant ∙ open_entry a.x.0 a.self.around c.loop-i.i (omega arith) (sym c.number-k.ensures ∙ c.if-k-x.true))

pub loop-i-preserved : goal.loop-i-preserved
loop-i-preserved c = c.loop-i.invariant ∙ open_further c.args.x.0 c.args.self.around c.loop-i.i (omega arith) (λ e. c.if-k-x.false (c.number-k.ensures ∙ e))

pub returns : goal.returns
returns c =
    let e : c.loop-i.i ≡ 0 = omega arith in
    sym (open_past _ _ _ c.if-e-x.false ∙ c.loop-i.invariant ∙ rw (e, open_none))
