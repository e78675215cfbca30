-- The numbers of an answer are such as C gets.
use Rattle.std.specs.Prelude.{ℕ, ◌<◌, Result, Ok, Err}
use Rattle.type_judge.specs.declared.TypeFault.{TypeFault}
use Rattle.type_judge.specs.declared.TypeFault.TheVariants.{Malformed, Ambiguous}

-- The numbers of the answer are 32-bit numbers.
abbrev pub VerdictFits : Result ℕ TypeFault → Type 0
VerdictFits (Ok n) = n < 4294967296
VerdictFits (Err (Malformed f)) = f.at < 4294967296
VerdictFits (Err (Ambiguous c)) = Unit {0}
