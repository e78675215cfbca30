-- `wrong_word` meets its contract: each way by the tests that led there.
use Rattle.std.proofs.Common.{sym, ◌∙◌, le-ltb, lt-ltb}
use Rattle.element_content.proofs.wrong_word.Goals as goal

pub returns-then-i-from : goal.returns-then-i-from
returns-then-i-from c = c.at.ensures ∙ rw (le-ltb _ _ c.if-i-from.true)

pub returns-then-is_cut : goal.returns-then-is_cut
returns-then-is_cut c = c.at-then-is_cut.ensures ∙ rw (lt-ltb _ _ c.if-i-from.false, sym c.is_cut.ensures ∙ c.if-is_cut.true)

pub returns : goal.returns
returns c = c.at-2.ensures ∙ rw (lt-ltb _ _ c.if-i-from.false, sym c.is_cut.ensures ∙ c.if-is_cut.false)
