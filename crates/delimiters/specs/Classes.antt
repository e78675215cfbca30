-- What the class of a byte says.
use Rattle.std.specs.Prelude.{ℕ, ◌%◌, ◌/◌, ◌<◌, ◌≡◌, Bool, ◌||◌, List, get_or, eqb}
use Rattle.rules.specs.Bytes.{name_byte, AND, DSC, RS, STAGO}

-- A byte that may begin something else than data: `<`, `&`, `]`, or byte 10.
abbrev pub special : ℕ → Bool
special b = eqb b STAGO || (eqb b AND || (eqb b DSC || eqb b RS))

-- The class of the byte b is x: 1 if it is special, and 2 more if it may go on a name.
pub record ClassOf (b x : ℕ) : Type 0 where
  pub specially : eqb (x % 2) 1 ≡ special b
  pub named : eqb (x / 2 % 2) 1 ≡ name_byte b

-- The table has the class of each byte.
pub record Classes (t : List ℕ) : Type 0 where
  pub class : (b : ℕ) → b < 256 → ClassOf b (get_or t b 0)
