-- Places and elements' numbers, as the code has them.
use Rattle.std.specs.Prelude.{ℕ}
use Rattle.layout.specs.declared.Place.{Place}
use Rattle.layout.specs.declared.ElementNo.{ElementNo}

-- The place of this number.
abbrev pub place_no : ℕ → Place
place_no n = record { 0 = n }

-- The element of this number.
abbrev pub element_no : ℕ → ElementNo
element_no n = record { 0 = n }
