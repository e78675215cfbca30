use Rattle.std.proofs.Common.{◌≡◌, length, refl, sym, ap, ◌∙◌, arith}
use Rattle.rules_laws.specs.Runs.{run_end}
use Rattle.data_runs.specs.Runs.{plain_turn}
use Rattle.data_runs.proofs.plain_end.Goals as goal

pub loop-i-preserved : goal.loop-i-preserved
loop-i-preserved c = (omega arith, omega arith, c.plain_eight-k.ensures.1 ∙ c.loop-i.invariant.2)

pub returns-then-k-lt8 : goal.returns-then-k-lt8
returns-then-k-lt8 c = (omega arith, omega arith, c.plain_eight-k.ensures.1 ∙ c.loop-i.invariant.2)

pub loop-j-preserved : goal.loop-j-preserved
loop-j-preserved c =
    plain_turn c.args.s.now _ _ _ refl c.loop-j-test.true (sym c.is_special.ensures ∙ c.if-is_special.false)
    c.loop-j.invariant

pub returns : goal.returns
returns c =
    let e : length c.args.s.now ≡ c.loop-j.j = omega arith in
    (omega arith, omega arith, ap (run_end c.args.s.now) e ∙ c.loop-j.invariant)
