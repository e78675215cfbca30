use Rattle.std.proofs.Common.{sym, ◌∙◌, eqb-true}
use Rattle.std.proofs.lemmas.Bool.{eqb-false}
use Rattle.text.specs.Words.{same_text_turn, same_text_other, same_text_all}
use Rattle.words.proofs.same_within.Goals as goal

pub returns-then-not-is_same : goal.returns-then-not-is_same
returns-then-not-is_same c = let a = c.args in
    let differ = sym c.is_same.ensures ∙ c.if-not-is_same.true in
    sym (same_text_other a.s.now a.a a.t.now a.b _ _ c.loop-k-test.true (eqb-false _ _ differ))
    ∙ c.loop-k.invariant

pub loop-k-preserved : goal.loop-k-preserved
loop-k-preserved c = let a = c.args in
    let same = sym c.is_same.ensures ∙ c.if-not-is_same.false in
    same_text_turn a.s.now a.a a.t.now a.b _ _ c.loop-k-test.true (eqb-true _ _ same) ∙ c.loop-k.invariant

pub returns : goal.returns
returns c = let a = c.args in
    sym (same_text_all a.s.now a.a a.t.now a.b _ _ c.loop-k-test.false) ∙ c.loop-k.invariant
