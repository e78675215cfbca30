-- A start tag that was read, with what is kept of the attributes that it gives.
use Rattle.std.specs.Prelude.{ℕ, Result, Ok, Err, ◌≡◌, List}
use Rattle.rules.specs.Reading.{Reading, got}
use Rattle.rules.specs.Document as rules
use Rattle.text.specs.declared.Fault.{Fault}
use Rattle.text.specs.Refusal.{refusal_of}
use Rattle.tag_attributes.specs.Given.{KeptAs, GivenIn}
use Rattle.tags.specs.declared.Tag.{Tag}
use Rattle.tags.specs.Tags.{tag_with}

-- What is kept of the attributes ws of a start tag that was read in a text of so many bytes.
pub record ReadAs (end : ℕ) (g : List ℕ) (n : ℕ) (ws : List rules.Written) : Type 0 where
  pub kept : KeptAs g n ws
  pub inside : GivenIn end g n

-- An answer of the code, where x is what the rules read.
abbrev pub MeetsTag : (end : ℕ) → List ℕ → Result Tag Fault → Reading rules.Tag → Type 0
MeetsTag end g (Ok t) x = (ws : List rules.Written) × (x ≡ got (tag_with ws t)) × ReadAs end g t.given ws
MeetsTag end g (Err f) x = x ≡ refusal_of f
