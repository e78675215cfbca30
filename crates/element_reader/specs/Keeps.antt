-- What the element reader keeps of a declaration, in the rules' terms.
use Rattle.std.specs.Prelude.{ℕ, Result, Ok, Err, ◌≤◌, ◌<◌, ◌≡◌, List, [], ◌∷◌, ◌++◌}
use Rattle.rules.specs.Reading.{Reading, refused, got}
use Rattle.rules.specs.TypeFile.{Declared}
use Rattle.rules.specs.TypeFile as rules
use Rattle.rules.specs.Bytes.{element_limit}
use Rattle.text.specs.declared.Fault.{Fault}
use Rattle.element_reader.specs.declared.Element.{Element}
use Rattle.element_content.specs.Kept.{repeated_of, place}
-- What the crates above cite of a declaration's parts.
pub use Rattle.element_head.specs.Heads.{bit}
pub use Rattle.element_names.specs.Names.{Recorded}
pub use Rattle.element_content.specs.Kept.{KeepsModel, KeepsContent}

-- What is kept of a declaration that adds an element to es. Its keyword ended at `from`.
pub record KeepsElement (end from : ℕ) (names table : List ℕ) (es : List rules.Element) (e : Element) (d : Declared) : Type 0 where
  pub element : rules.Element
  pub grows : d.elements ≡ es ++ element ∷ []
  pub at : e.at ≡ d.at
  pub onward : from < d.at
  pub at_in : d.at ≤ end
  pub name : e.offset ≡ element.at
  pub name_in : element.at ≤ end
  pub size : e.size ≡ element.size
  pub size_in : element.size ≤ end
  pub start : bit e.start ≡ element.start
  pub end_tag_lem : bit e.end ≡ element.end
  pub repeated_at : repeated_of e.model ≡ place element.repeated
  pub content : KeepsContent names table e.model element.content

abbrev pub MeetsElement : (end from : ℕ) (names table : List ℕ) → List rules.Element → Result Element Fault → Reading Declared → Type 0
MeetsElement end from names table es (Ok e) (got d) = KeepsElement end from names table es e d
MeetsElement end from names table es (Ok e) (refused n k) = ⊥
MeetsElement end from names table es (Err f) (got d) = ⊥
MeetsElement end from names table es (Err f) (refused n k) = (f.number ≡ n) × (f.at ≡ k)

-- Whatever was declared before, one more element has room.
abbrev pub ElementIn : (count : ℕ) → Result Element Fault → Type 0
ElementIn count (Ok e) = count < element_limit
ElementIn count (Err f) = Unit {0}
