-- `put_token` meets its contract: the table has room for the two numbers, and they are written behind those of the tokens before.
use native.Mathlib.Omega.{arith}
use Rattle.name_tokens.specs.TokenByToken.{parts_of_put}
use Rattle.name_tokens.proofs.put_token.Goals as goal

pub returns : goal.returns
returns c = parts_of_put _ _ _ _ (omega (arith, c.told-seen))
