-- What the reader of a type file answers, in the rules' terms.
use Rattle.std.specs.Prelude.{ℕ, ◌<◌, ◌≡◌, List, Result, Ok, Err}
use Rattle.rules.specs.Reading.{Reading, refused, got}
use Rattle.rules.specs.TypeFile.{Element, Declarations}
use Rattle.text.specs.declared.Fault.{Fault}
use Rattle.element_records.specs.declared.Progress.{Progress}
use Rattle.element_records.specs.Progress.{KeepsProgress}
use Rattle.attribute_lists.specs.Listed.{Headed, HeadedAs}

-- A declaration that begins at `from` was read, or refused: the elements are recorded then, and the lists have their heads.
abbrev pub MeetsDeclarations : ℕ → (s elements heads : List ℕ) (from : ℕ) → Result Progress Fault → Reading Declarations → Type 0
MeetsDeclarations long s elements heads from (Ok p) (got d) = KeepsProgress s elements p d.elements × Headed long s heads d.lists × (p.at ≡ d.at) × (from < d.at)
MeetsDeclarations long s elements heads from (Ok p) (refused n k) = ⊥
MeetsDeclarations long s elements heads from (Err f) (got d) = ⊥
MeetsDeclarations long s elements heads from (Err f) (refused n k) = (f.number ≡ n) × (f.at ≡ k)

-- The whole type file was read, or refused.
abbrev pub MeetsFile : ℕ → (s elements heads : List ℕ) → Result Progress Fault → Reading (List Element) → Type 0
MeetsFile long s elements heads (Ok p) (got es) = KeepsProgress s elements p es × HeadedAs long s heads es
MeetsFile long s elements heads (Ok p) (refused n k) = ⊥
MeetsFile long s elements heads (Err f) (got es) = ⊥
MeetsFile long s elements heads (Err f) (refused n k) = (f.number ≡ n) × (f.at ≡ k)
