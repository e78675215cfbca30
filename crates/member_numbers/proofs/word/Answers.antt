-- `word` meets its contract: std puts the four numbers together.
use native.Mathlib.Omega.{arith}
use Rattle.member_numbers.specs.Words.{word_read}
use Rattle.member_numbers.proofs.word.Goals as goal

pub returns : goal.returns
returns c = word_read _ _ (λ k. omega (arith, c.type_inv.members k)) _ (omega (arith, c.from_le_bytes.ensures))
