use Rattle.std.proofs.Common.{◌≡◌, length, sym, ◌∙◌, arith}
use Rattle.text.specs.Words.{before_dashes_lem, before_turn, before_stop, before_all}
use Rattle.gaps.proofs.to_dashes.Goals as goal

pub returns-then-at_dashes : goal.returns-then-at_dashes
returns-then-at_dashes c =
    before_stop _ _ before_dashes_lem c.args.s.now _ _ (sym c.at_dashes.ensures ∙ c.if-at_dashes.true)
    c.loop-i.invariant

pub loop-i-preserved : goal.loop-i-preserved
loop-i-preserved c =
    before_turn _ _ before_dashes_lem c.args.s.now _ _ (omega arith)
    (sym c.at_dashes.ensures ∙ c.if-at_dashes.false) c.loop-i.invariant

pub returns : goal.returns
returns c =
    let e : c.loop-i.i ≡ length c.args.s.now = omega arith in
    sym e ∙ before_all _ _ before_dashes_lem c.args.s.now _ _ (omega arith) c.loop-i.invariant
