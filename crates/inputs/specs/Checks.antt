-- What is known of the settings and of both inputs before they are read.
use Rattle.std.specs.Prelude.{ℕ, Bool, true, false, List, length, eqb}
use Rattle.rules.specs.Settings as rules
use Rattle.rules.specs.Bytes.{allowed, span}
use Rattle.rules.specs.Judge.{Answer}
use Rattle.rules.specs.Reader.{RefusesBoth}
use Rattle.inputs.specs.declared.Settings.{Settings}

-- The settings in the rules' terms.
abbrev pub settings_of : Settings → rules.Settings
settings_of c = rules.settings c.name_length c.edition

-- All bytes are allowed.
abbrev pub is_clean : List ℕ → Bool
is_clean d = eqb (span allowed d) (length d)

-- 1 for what fails a test, else 0.
abbrev pub failing : Bool → ℕ
failing true = 0
failing false = 1

-- A refusal that no room changes.
abbrev pub RefusesAlways : rules.Settings → (s d : List ℕ) → Answer → Type 0
RefusesAlways c s d a = (room : ℕ) → RefusesBoth c s d room a
