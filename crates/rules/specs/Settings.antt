-- What the caller chooses for a call (paper 02, requests six and eight): everything that the rules take from
-- the caller besides the inputs and what is lent is here, so that a further choice is a field and a clause of
-- `is_offered`.
use Rattle.std.specs.Prelude.{ℕ, Bool, ◌&&◌, eqb, leb}

-- "Names may be as long as a number .. that the caller gives": NAMELEN, the longest name. "The caller gives the edition, 1 or 2": by which rule record
-- ends are read.
pub record Settings : Type 0 where
  pub name_length : ℕ
  pub edition : ℕ

-- The settings of a call that gives these numbers.
abbrev pub settings : (name_length edition : ℕ) → Settings
settings n e = record { name_length = n; edition = e }

-- The length that the caller gives is "a number from 8 to 32".
abbrev pub least_name_length : ℕ
least_name_length = 8

abbrev pub most_name_length : ℕ
most_name_length = 32

-- "Older catalogues keep 01's rule, edition 1."
abbrev pub first_edition : ℕ
first_edition = 1

abbrev pub second_edition : ℕ
second_edition = 2

abbrev pub is_second : Settings → Bool
is_second c = eqb c.edition second_edition

-- The settings are among those that a call takes; "another is 24", and "others are number 24".
unfoldable pub is_offered : Settings → Bool
is_offered c =
    leb least_name_length c.name_length && (leb c.name_length most_name_length && (leb first_edition c.edition && leb c.edition second_edition))
