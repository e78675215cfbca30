-- The numbers of a model's code that are no places, by the names that the code has for them. Each stands behind the groups that it joins or changes; behind
-- the members of an "&" group stands the last of these, and how many members there are added to it.
use Rattle.std.specs.Prelude.{ℕ, ◌+◌}
use Rattle.layout.specs.Sizes.{POSITIONS}

abbrev pub SEQ_CODE : ℕ
SEQ_CODE = POSITIONS

abbrev pub ALT_CODE : ℕ
ALT_CODE = SEQ_CODE + 1

abbrev pub OPT_CODE : ℕ
OPT_CODE = SEQ_CODE + 2

abbrev pub PLUS_CODE : ℕ
PLUS_CODE = SEQ_CODE + 3

abbrev pub ALSO_CODE : ℕ
ALSO_CODE = SEQ_CODE + 4

abbrev pub AND_CODE : ℕ
AND_CODE = 128
