-- `is_joined` meets its contract: a group's number is over 2.
use native.Mathlib.Omega.{arith}
use Rattle.attribute_defaults.specs.Ways.{joined_group, joined_word, word_small, not_less}
use Rattle.attribute_defaults.proofs.is_joined.Goals as goal

pub returns-in-Group : goal.returns-in-Group
returns-in-Group c = λ o s y d. joined_group c.args.from c.args.i (omega (arith, c.in-Group.ensures)) d

pub returns-in_default : goal.returns-in_default
returns-in_default c = λ o s y d. joined_word c.args.from c.args.i (word_small _ c.from.ensures.0 c.in_default.not-Group) d (not_less c.args.i c.args.from)
