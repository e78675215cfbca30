use Rattle.std.proofs.Common.{◌≡◌, not, length, refl, sym, ap, ◌∙◌, arith}
use Rattle.text.specs.Words.{spanned, before_turn, before_stop, before_all}
use Rattle.text.proofs.passed.Goals as goal

pub loop-i-init : goal.loop-i-init
loop-i-init g c = λ t h. refl

pub returns-then-not-passes : goal.returns-then-not-passes
returns-then-not-passes g c =
    λ t h. let q = sym (h _ _ c.passes.ensures) ∙ c.if-not-passes.true in
    before_stop _ _ (spanned t) c.args.s.now _ _ (ap not q) (c.loop-i.invariant t h)

pub loop-i-preserved : goal.loop-i-preserved
loop-i-preserved g c =
    λ t h. let q = sym (h _ _ c.passes.ensures) ∙ c.if-not-passes.false in
    before_turn _ _ (spanned t) c.args.s.now _ _ (omega arith) (ap not q) (c.loop-i.invariant t h)

pub returns : goal.returns
returns g c =
    λ t h. let e : length c.args.s.now ≡ c.loop-i.i = omega arith in
    e ∙ before_all _ _ (spanned t) c.args.s.now _ _ (omega arith) (c.loop-i.invariant t h)
