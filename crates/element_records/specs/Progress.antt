-- What is kept of the elements that were read so far, in the rules' terms.
use Rattle.std.specs.Prelude.{ℕ, Option, Some, None, Result, Ok, Err, ◌≤◌, ◌<◌, ◌≡◌, List, [], ◌∷◌, ◌++◌, length}
use Rattle.rules.specs.Reading.{Reading, refused, got}
use Rattle.rules.specs.TypeFile.{Content, Element, Declared}
use Rattle.rules.specs.Judge.{AllUnambiguous, FirstAmbiguous, first_repeated}
use Rattle.rules.specs.Bytes.{element_limit}
use Rattle.text.specs.declared.Fault.{Fault}
use Rattle.element_names.specs.Names.{Recorded}
use Rattle.element_reader.specs.Keeps.{bit}
use Rattle.element_content.specs.Kept.{place}
use Rattle.element_content.specs.declared.Model.{Model}
use Rattle.element_reader.specs.declared as declared
use Rattle.element_records.specs.declared.Clash.{Clash}
use Rattle.element_records.specs.declared.Progress.{Progress}

-- The number of a content, and of its content tokens.
abbrev pub kind_of : Option Model → ℕ
kind_of None = 0
kind_of (Some m) = 1

abbrev pub tokens_of : Option Model → ℕ
tokens_of None = 0
tokens_of (Some m) = m.tokens

-- The six numbers of an element's record.
abbrev pub numbers_of : declared.Element.Element → List ℕ
numbers_of e = e.offset ∷ e.size ∷ bit e.start ∷ bit e.end ∷ kind_of e.model ∷ tokens_of e.model ∷ []

-- No model so far is ambiguous, or the first that is has this pair.
abbrev pub Pending : List ℕ → Option Clash → List Element → Type 0
Pending s None es = AllUnambiguous s es
Pending s (Some c) es = FirstAmbiguous s c.at c.first c.second es

-- The same once an element with the content x is declared after es.
abbrev pub PendingWith : List ℕ → Option Clash → List Element → Content → Type 0
PendingWith s c es x = (e : Element) → e.content ≡ x → Pending s c (es ++ e ∷ [])

-- What is kept of the elements es, read up to p.at. Where an "&" is refused no pair is asked for.
pub record KeepsProgress (s elements : List ℕ) (p : Progress) (es : List Element) : Type 0 where
  pub counted : p.count ≡ length es
  pub room : length es ≤ element_limit
  pub recorded : Recorded elements es
  pub at_in : p.at ≤ length s
  pub repeated_at : p.repeated ≡ place (first_repeated es)
  pub pending : first_repeated es ≡ 0 → Pending s p.clash es

-- Some elements are kept so.
abbrev pub InProgress : (s elements : List ℕ) (p : Progress) → Type 0
InProgress s elements p = (es : List Element) × KeepsProgress s elements p es

-- A declaration that begins at `from` was read, or refused.
abbrev pub MeetsStep : (s elements : List ℕ) (from : ℕ) → Result Progress Fault → Reading Declared → Type 0
MeetsStep s elements from (Ok p) (got d) = KeepsProgress s elements p d.elements × (p.at ≡ d.at) × (from < d.at)
MeetsStep s elements from (Ok p) (refused n k) = ⊥
MeetsStep s elements from (Err f) (got d) = ⊥
MeetsStep s elements from (Err f) (refused n k) = (f.number ≡ n) × (f.at ≡ k)
