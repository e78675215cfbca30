use mathlib.Core.Path.{sym, ◌∙◌}
use native.Mathlib.Omega.{arith}
use Rattle.data_runs.specs.Runs.{run_turn, run_stop, run_all}
use Rattle.data_runs.proofs.run_end.Goals as goal

pub loop-i-init : goal.loop-i-init
loop-i-init c = (c.plain_end-i.ensures.1, c.plain_end-i.ensures.2)

pub returns-then-not-runs_on : goal.returns-then-not-runs_on
returns-then-not-runs_on c = let s = c.args.s.now in
    run_stop s _ _ (sym c.runs_on.ensures ∙ c.if-not-runs_on.true) c.loop-i.invariant.1

pub loop-i-smaller : goal.loop-i-smaller
loop-i-smaller c = omega (arith, c.plain_end-i-in-loop-i.ensures.0)

pub loop-i-preserved : goal.loop-i-preserved
loop-i-preserved c = let s = c.args.s.now in
    let turn = run_turn s _ _ c.loop-i-test.true (sym c.runs_on.ensures ∙ c.if-not-runs_on.false) c.loop-i.invariant.1 in
    (c.plain_end-i-in-loop-i.ensures.1, c.plain_end-i-in-loop-i.ensures.2 ∙ turn)

pub returns : goal.returns
returns c = let s = c.args.s.now in
    run_all s _ _ c.loop-i-test.false c.loop-i.invariant.1
