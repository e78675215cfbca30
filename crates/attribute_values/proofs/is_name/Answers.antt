-- `is_name` meets its contract: each way by the tests that led there.
use mathlib.Core.Path.{sym, ap, ◌∙◌}
use lib.ListN.{length}
use lib.Dec.{eqb}
use Rattle.rules.specs.Bytes.{letter}
use Rattle.text.specs.Words.{tested}
use Rattle.attribute_values.specs.Tests.{name_other, name_long, name_is}
use Rattle.attribute_values.proofs.is_name.Goals as goal

pub returns-then-not-is_letter : goal.returns-then-not-is_letter
returns-then-not-is_letter c = λ s. sym (name_other _ s _ (tested letter c.byte.ensures c.is_letter.ensures c.if-not-is_letter.true))

pub returns-then-long-v : goal.returns-then-long-v
returns-then-long-v c = λ s. sym (name_long _ s _ (tested letter c.byte.ensures c.is_letter.ensures c.if-not-is_letter.false) c.if-long-v.true)

pub returns : goal.returns
returns c = let v = c.args.v.now in
    let is-letter = tested letter c.byte.ensures c.is_letter.ensures c.if-not-is_letter.false in
    λ s. ap (λ n. eqb n (length v)) c.name_end.ensures ∙ sym (name_is _ s v is-letter c.if-long-v.false)
