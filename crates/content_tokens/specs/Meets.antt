-- What an answer about a content token stands for, in the rules' terms.
use Rattle.std.specs.Prelude.{ℕ, ◌+◌, ◌≡◌, Result, Ok, Err, cond, List, length}
use Rattle.rules.specs.Reading.{Reading, refused, got}
use Rattle.rules.specs.TypeFile.{Tokens, is_cut, PCDATA}
use Rattle.text.specs.declared.Fault.{Fault}
use Rattle.connectors.specs.declared.Model.{Model}
use Rattle.connectors.specs.Kept.{Begun, Keeps}

-- A refusal stands for a reading that is refused with its number and position.
abbrev pub Refuses : {A : Type 0} → Fault → Reading A → Type 0
Refuses f (got x) = ⊥
Refuses f (refused n k) = (f.number ≡ n) × (f.at ≡ k)

-- An answer stands for a reading: a refusal with its number and position, or a model with what is kept of it.
abbrev pub Meets : (end : ℕ) (B : Begun) (names table : List ℕ) → Result Model Fault → Reading Tokens → Type 0
Meets end B names table (Ok m) (got t) = Keeps end B 1 0 names table m t
Meets end B names table (Ok m) (refused n k) = ⊥
Meets end B names table (Err f) x = Refuses f x

-- Where a word after the `#` at `at` makes number 4 stand, that ends at e and is not PCDATA.
abbrev pub wrong_data : List ℕ → (at e : ℕ) → ℕ
wrong_data s at e = cond (is_cut s (at + 1) e PCDATA) (length s) at
