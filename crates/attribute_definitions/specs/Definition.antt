-- What the answers of the code stand for: a declared value with the tokens that the list has then, and a definition as a row.
use Rattle.std.specs.Prelude.{ℕ, Result, Ok, Err, ◌+◌, ◌≤◌, ◌<◌, ◌≡◌, true, false, List, [], ◌∷◌, ◌++◌, eqb}
use Rattle.rules.specs.Bytes.{ATTCNT, GRPCNT}
use Rattle.rules.specs.Reading.{Reading, got}
use Rattle.rules.specs.Attributes.{Part, DeclaredValue, cdata, number, name, tokens, Attribute}
use Rattle.rules.specs.TypeFile.{tokens_of, ValueEnd, Definition}
use Rattle.text.specs.declared.Fault.{Fault}
use Rattle.text.specs.Refusal.{refusal_of}
use Rattle.name_tokens.specs.Tokens.{parts_of}
use Rattle.attribute_values.specs.Parts.{number_of, DeclaredAs}
use Rattle.list_table.specs.declared.Row.{Row}
use Rattle.list_table.specs.Lists.{Short, RowOf}
use Rattle.attribute_definitions.specs.declared.Declared.{Declared}
use Rattle.attribute_definitions.specs.declared.Defined.{Defined}

-- Names: whatever the list holds, one that is read ends in the text, and the list has room.
abbrev pub NameFits : (end i n : ℕ) → Result ℕ Fault → Type 0
NameFits end i n (Ok e) = (i ≤ e) × (e ≤ end) × (n < ATTCNT)
NameFits end i n (Err f) = Unit {0}

-- Declared values are read.

-- The word that a number stands for.
abbrev pub word_is : ℕ → DeclaredValue
word_is x = elim (eqb x 0) [ true ↦ cdata | false ↦ elim (eqb x 1) [ true ↦ number | false ↦ name ] ]

abbrev pub word_of : Result Declared Fault → Reading ValueEnd
word_of (Ok v) = got (record { value = word_is (number_of v.value); at = v.at })
word_of (Err f) = refusal_of f

-- A word brings no token.
abbrev pub WordFits : (end i m : ℕ) → Result Declared Fault → Type 0
WordFits end i m (Ok v) = (number_of v.value ≤ 2) × (v.tokens ≡ m) × (i ≤ v.at) × (v.at ≤ end)
WordFits end i m (Err f) = Unit {0}

-- The tokens of a declared value.
abbrev pub tokens_in : DeclaredValue → List Part
tokens_in cdata = []
tokens_in number = []
tokens_in name = []
tokens_in (tokens at ps) = ps

-- A declared value that was read: the tokens of the list are then those before it, and its own.
pub record ValueAs (long : ℕ) (s seen : List ℕ) (x k e : ℕ) (ts : List Part) (y : Reading ValueEnd) : Type 0 where
  pub value : DeclaredValue
  pub read : y ≡ got (record { value = value; at = e })
  pub declared : DeclaredAs long s x value
  pub parts : parts_of seen k ≡ ts ++ tokens_in value

abbrev pub MeetsValue : ℕ → (s seen : List ℕ) (ts : List Part) → Result Declared Fault → Reading ValueEnd → Type 0
MeetsValue long s seen ts (Ok v) y = ValueAs long s seen (number_of v.value) v.tokens v.at ts y
MeetsValue long s seen ts (Err f) y = y ≡ refusal_of f

-- Whatever the table of tokens holds.
abbrev pub ValueFits : (end i m : ℕ) → Result Declared Fault → Type 0
ValueFits end i m (Ok v) = (number_of v.value ≤ end) × (i ≤ v.at) × (v.at ≤ end) × (v.tokens ≤ m + GRPCNT)
ValueFits end i m (Err f) = Unit {0}

-- Definitions are read.

-- A definition that was read behind the attributes xs.
pub record DefinedAs (long : ℕ) (s seen : List ℕ) (r : Row) (k e : ℕ) (xs : List Attribute) (y : Reading Definition) : Type 0 where
  pub attribute : Attribute
  pub read : y ≡ got (record { attribute = attribute; at = e })
  pub row : RowOf long s r attribute
  pub parts : parts_of seen k ≡ tokens_of (xs ++ attribute ∷ [])

abbrev pub MeetsDefinition : ℕ → (s seen : List ℕ) → List Attribute → Result Defined Fault → Reading Definition → Type 0
MeetsDefinition long s seen xs (Ok d) y = DefinedAs long s seen d.row d.tokens d.at xs y
MeetsDefinition long s seen xs (Err f) y = y ≡ refusal_of f

-- Whatever the tables hold.
abbrev pub DefinitionFits : (end i n m : ℕ) → Result Defined Fault → Type 0
DefinitionFits end i n m (Ok d) = Short d.row × (n < ATTCNT) × (i ≤ d.at) × (d.at ≤ end) × (d.tokens ≤ m + GRPCNT)
DefinitionFits end i n m (Err f) = Unit {0}
