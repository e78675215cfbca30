-- What is put for a document that is accepted.
use Rattle.std.specs.Prelude.{ℕ, ◌≤◌, ◌*◌, ◌≡◌, List, ◌++◌, length}
use Rattle.rules.specs.Bytes.{ATTCNT, element_limit}
use Rattle.rules.specs.TypeFile.{Element}
use Rattle.rules.specs.Judge.{Accepts}
use Rattle.rules.specs.Events.{Event}
use Rattle.rules.specs.Reader.{event_numbers}
use Rattle.rules.specs.Printed.{program_settings, attribute_text, events_text}
use Rattle.event_names.specs.Names.{FitsAttributes, attribute_in}

-- The type is accepted, with names of at most 8 bytes.
abbrev pub Accepted : List ℕ → Type 0
Accepted s = (es : List Element) × Accepts program_settings s es

-- The table begins with the records of the attributes, so many, and gives their names.
pub record ListedIn (s attributes : List ℕ) (total : ℕ) : Type 0 where
  pub few : total ≤ ATTCNT * element_limit
  pub fits : FitsAttributes s attributes total
  pub named : (es : List Element) → Accepts program_settings s es → (e a : ℕ) → attribute_in s attributes total e a ≡ attribute_text s es e a

-- The text is that of the n events whose numbers stand at the start of the buffer.
abbrev pub EventsPut : (s numbers : List ℕ) (n : ℕ) (text : List ℕ) → Type 0
EventsPut s numbers n text = (es : List Element) (ev : List Event) (rest : List ℕ) → Accepts program_settings s es → numbers ≡ event_numbers ev ++ rest → n ≡ length ev → text ≡ events_text s es ev
