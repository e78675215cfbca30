-- The attributes of a type, for a caller who receives events of kinds 7 and 8 by number and needs their names
-- and declarations (paper 02, request one). The papers name no such call; its order of refusals is the
-- judge's.
use Rattle.std.specs.Prelude.{ℕ, ◌+◌, ◌*◌, ◌<◌, ◌≤◌, ◌≡◌, List, [], ◌∷◌, ◌++◌, length}
use Rattle.rules.specs.Settings.{Settings}
use Rattle.rules.specs.Bytes.{element_limit}
use Rattle.rules.specs.Lent.{Lent, standing, room, filled_with, zeroed}
use Rattle.rules.specs.Attributes.{DeclaredValue, cdata, number, name, tokens, Default, required, implied, literal, Attribute}
use Rattle.rules.specs.TypeFile.{Element}
use Rattle.rules.specs.Judge.{Answer, refusal, acceptance, Refuses, Accepts, record_width}

-- A declared value as two numbers: 0 CDATA, 1 NUMBER, 2 NAME, 3 a name token group, and where the group stands, else 0.
abbrev pub value_numbers : DeclaredValue → List ℕ
value_numbers cdata = 0 ∷ 0 ∷ []
value_numbers number = 1 ∷ 0 ∷ []
value_numbers name = 2 ∷ 0 ∷ []
value_numbers (tokens at ps) = 3 ∷ at ∷ []

-- A default as three numbers: 0 `#REQUIRED`, 1 `#IMPLIED`, 2 a literal, and offset and length of its value without quotes, else 0 and 0.
abbrev pub default_numbers : Default → List ℕ
default_numbers required = 0 ∷ 0 ∷ 0 ∷ []
default_numbers implied = 1 ∷ 0 ∷ 0 ∷ []
default_numbers (literal p) = 2 ∷ p.at ∷ p.size ∷ []

-- Nine numbers an attribute: its element's number, its own number in the list, offset and length of its name, declared value, default.
unfoldable pub attribute_numbers : (k a : ℕ) → List Attribute → List ℕ
attribute_numbers k a [] = []
attribute_numbers k a (x ∷ xs) = k ∷ a ∷ x.at ∷ x.size ∷ (value_numbers x.value ++ (default_numbers x.default ++ attribute_numbers k (a + 1) xs))

-- How many numbers an attribute has there.
abbrev pub attribute_width : ℕ
attribute_width = 9

-- The numbers of the attributes of all elements, in the order of the elements, the first of which has the number k.
unfoldable pub list_numbers : (k : ℕ) → List Element → List ℕ
list_numbers k [] = []
list_numbers k (e ∷ es) = attribute_numbers k 1 e.attributes ++ list_numbers (k + 1) es

-- How many there are.
unfoldable pub attribute_count : List Element → ℕ
attribute_count [] = 0
attribute_count (e ∷ es) = length e.attributes + attribute_count es

-- What the call answers to a type file under the settings c, and what the lent buffer, `before` the call, holds after it: as the judge refuses where it has
-- room for all records, it refuses; 19 "only where nothing else is wrong, and exactly if the numbers don't fit".
pub data Lists (l : Lent) (c : Settings) (s before : List ℕ) (a : Answer) (after : List ℕ) : Type 0 where
  refuses : Refuses c s (record_width * element_limit) a → after ≡ zeroed before → Lists l c s before a after
  no_room : (es : List Element) → Accepts c s es → room l before < attribute_width * attribute_count es → a ≡ refusal 19 0 0 0 → after ≡ zeroed before → Lists l c s before a after
  accepts : (es : List Element) → Accepts c s es → attribute_width * attribute_count es ≤ room l before → a ≡ acceptance (attribute_count es) → after ≡ filled_with (standing l (list_numbers 1 es)) before → Lists l c s before a after
