-- `is_seen` meets its contract. The invariant: none of the tokens before the k-th is the one that is looked for.
use mathlib.Core.Path.{◌≡◌}
use mathlib.Core.Bool.{false}
use Rattle.rules.specs.TypeFile.{is_token}
use Rattle.name_tokens.specs.Tokens.{parts_of}
use Rattle.name_tokens.proofs.is_seen.Given as goal

abbrev pub invariant-loop-k : goal.invariant-loop-k
invariant-loop-k l = is_token l.s (parts_of l.seen l.k) l.at l.size ≡ false
