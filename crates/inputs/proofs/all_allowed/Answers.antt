use Rattle.inputs.specs.Looking.{looked_turn, looked_all}
use Rattle.inputs.proofs.all_allowed.Goals as goal

pub loop-b-preserved : goal.loop-b-preserved
loop-b-preserved c =
    rw c.max-bad.ensures (looked_turn _ _ _ _ c.loop-b.invariant c.loop-b-test.true c.unfit.ensures)

pub returns : goal.returns
returns c = looked_all c.args.d.now _ _ c.loop-b.invariant c.loop-b-test.false
