-- The attribute lists of a type as the table holds them: of each element LIST numbers.
use Rattle.std.specs.Prelude.{ℕ, Option, Some, None, ◌+◌, ◌*◌, ◌≤◌, ◌<◌, ◌≡◌, Bool, true, false, ◌⊎◌, List, length, get_or, eqb, leb}
use Rattle.rules.specs.Bytes.{same_text, ATTCNT}
use Rattle.rules.specs.Attributes.{Attribute, attribute_at}
use Rattle.rules.specs.TypeFile.{Element}
use Rattle.rules.specs.Elements.{element_at}
use Rattle.layout.specs.Sizes.{ATTRIBUTE, LIST}
use Rattle.layout.specs.declared.AttributeNo.{AttributeNo}
use Rattle.attribute_values.specs.Parts.{DeclaredAs}
use Rattle.attribute_defaults.specs.DefaultOf.{default_is}
use Rattle.list_table.specs.declared.Row.{Row}

-- The five numbers from i on.
abbrev pub row_in : List ℕ → ℕ → Row
row_in l i = record { name = get_or l i 0; size = get_or l (i + 1) 0; value = get_or l (i + 2) 0; default = get_or l (i + 3) 0; width = get_or l (i + 4) 0 }

-- All of them fit 16 bits.
abbrev pub Short : Row → Type 0
Short r = (r.name < 65536) × (r.size < 65536) × (r.value < 65536) × (r.default < 65536) × (r.width < 65536)

-- What a row says of an attribute, whose name lies in the type file.
pub record RowOf (long : ℕ) (s : List ℕ) (r : Row) (x : Attribute) : Type 0 where
  pub name : r.name ≡ x.at
  pub size : r.size ≡ x.size
  pub inside : x.at + x.size ≤ length s
  pub value : DeclaredAs long s r.value x.value
  pub default : default_is r.default r.width ≡ x.default

-- The attribute of a row, if its name lies in the type file, has the name of this size at `at` in the text t, folded.
abbrev pub is_named : List ℕ → Row → (t : List ℕ) (at size : ℕ) → Bool
is_named s r t at size = elim (eqb r.size size) [ true ↦ elim (leb (r.name + size) (length s)) [ true ↦ same_text s r.name t at size | false ↦ false ] | false ↦ false ]

-- The number of an attribute that was looked for, from 1; 0 for none.
abbrev pub number_of : Option AttributeNo → ℕ
number_of None = 0
number_of (Some a) = a.0

-- The list that begins at b: how many attributes there are, then a row for each.
pub record ListAt (long : ℕ) (s l : List ℕ) (b : ℕ) (xs : List Attribute) : Type 0 where
  pub counted : get_or l b 0 ≡ length xs
  pub few : length xs ≤ ATTCNT
  pub rows : (k : ℕ) → k < length xs → RowOf long s (row_in l (b + 1 + ATTRIBUTE * k)) (attribute_at xs k)

-- The lists of all elements. An empty table is that of a type in which no element has attributes.
abbrev pub Lists : ℕ → (s : List ℕ) → List Element → (l : List ℕ) → Type 0
Lists long s es l = (k : ℕ) → k < length es → ListAt long s l (LIST * k) (element_at es k).attributes

-- The row r was put as that of the attribute k, from 0, of a list by itself, which has k + 1 then, and
-- nothing else changed.
pub record Added (k : ℕ) (r : Row) (before after : List ℕ) : Type 0 where
  pub long : length after ≡ length before
  pub counted : get_or after 0 0 ≡ k + 1
  pub row : row_in after (1 + ATTRIBUTE * k) ≡ r
  pub rest : (j : ℕ) → 1 ≤ j → (j < 1 + ATTRIBUTE * k) ⊎ (1 + ATTRIBUTE * (k + 1) ≤ j) → get_or after j 0 ≡ get_or before j 0

-- One list was put where that of an element stands: what was a list by itself is one there, and all other
-- lists are what they were. Nothing changed but there, and of a list nothing but its rows; whatever was put,
-- each number there is one that was put, or as it was.
pub record Copied (list : List ℕ) (from : ℕ) (before after : List ℕ) : Type 0 where
  pub long : length after ≡ length before
  pub outside : (j : ℕ) → (j < from) ⊎ (from + LIST ≤ j) → get_or after j 0 ≡ get_or before j 0
  pub inside : (j : ℕ) → j < LIST → (get_or after (from + j) 0 ≡ get_or list j 0) ⊎ (get_or after (from + j) 0 ≡ get_or before (from + j) 0)
  pub behind : (long : ℕ) (s : List ℕ) (xs : List Attribute) → ListAt long s list 0 xs → (j : ℕ) → from + 1 + ATTRIBUTE * length xs ≤ j → get_or after j 0 ≡ get_or before j 0
  pub there : (long : ℕ) (s : List ℕ) (xs : List Attribute) → ListAt long s list 0 xs → ListAt long s after from xs
  pub others : (long : ℕ) (s : List ℕ) (b : ℕ) (xs : List Attribute) → (b + LIST ≤ from) ⊎ (from + LIST ≤ b) → ListAt long s before b xs → ListAt long s after b xs
