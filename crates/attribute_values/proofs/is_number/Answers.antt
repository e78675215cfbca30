use Rattle.std.proofs.Common.{◌∙◌, sym}
use Rattle.rules.specs.Bytes.{digit}
use Rattle.attribute_values.specs.Tests.{all_every, number_is}
use Rattle.attribute_values.proofs.is_number.Goals as goal

pub returns-then-v-long : goal.returns-then-v-long
returns-then-v-long c = λ s. c.is_digits.ensures ∙ all_every digit c.args.v.now ∙ sym (number_is _ s _ c.if-v-long.true.0 c.if-v-long.true.1)
