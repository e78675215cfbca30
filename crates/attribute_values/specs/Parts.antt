-- A part of a text, and what a number says of a declared value.
use Rattle.std.specs.Prelude.{ℕ, ◌+◌, ◌≤◌, ◌≡◌, Bool, true, false, ◌&&◌, List, [], length, take, drop, eqb, leb}
use Rattle.rules.specs.Bytes.{same_text}
use Rattle.rules.specs.Reading.{got}
use Rattle.rules.specs.Attributes.{Part, DeclaredValue, cdata, number, name, tokens}
use Rattle.rules.specs.TypeFile.{TokensEnd, token_group}
use Rattle.attribute_values.specs.declared.DeclaredValue as code
use Rattle.attribute_values.specs.declared.DeclaredValue.TheVariants as values

-- The number of a declared value.
abbrev pub number_of : code.DeclaredValue → ℕ
number_of values.Cdata = 0
number_of values.Number = 1
number_of values.Name = 2
number_of (values.Group at) = at

-- A group's is none of a word.
abbrev pub Grouped : code.DeclaredValue → Type 0
Grouped values.Cdata = Unit {0}
Grouped values.Number = Unit {0}
Grouped values.Name = Unit {0}
Grouped (values.Group at) = 3 ≤ at

-- So many bytes of t from `at` on; none where they do not lie in it.
abbrev pub part_in : (t : List ℕ) (at size : ℕ) → List ℕ
part_in t at size = elim (leb (at + size) (length t)) [ true ↦ take size (drop at t) | false ↦ [] ]

-- The token p of the type file s is the value v, folded.
abbrev pub is_same : (s : List ℕ) → Part → (v : List ℕ) → Bool
is_same s p v = eqb p.size (length v) && same_text s p.at v 0 (length v)

-- At `at` stands the "(" of a name token group with these tokens, behind others of its list.
pub record GroupAt (long : ℕ) (s : List ℕ) (at : ℕ) (ps : List Part) : Type 0 where
  pub seen : List Part
  pub end : TokensEnd
  pub read : token_group long s seen at ≡ got end
  pub tokens : end.tokens ≡ ps

-- The number x stands for a declared value: 0 CDATA, 1 NUMBER, 2 NAME, else where a group stands.
pub data DeclaredAs (long : ℕ) (s : List ℕ) : ℕ → DeclaredValue → Type 0 where
  as_cdata : DeclaredAs long s 0 cdata
  as_number : DeclaredAs long s 1 number
  as_name : DeclaredAs long s 2 name
  as_tokens : (at : ℕ) (ps : List Part) → 3 ≤ at → GroupAt long s at ps → DeclaredAs long s at (tokens at ps)
