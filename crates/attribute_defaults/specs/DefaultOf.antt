-- The default that two numbers stand for, and what the answers of the code stand for.
use Rattle.std.specs.Prelude.{ℕ, Result, Ok, Err, ◌+◌, ◌≤◌, ◌<◌, true, false, eqb}
use Rattle.rules.specs.Reading.{Reading, got}
use Rattle.rules.specs.Attributes.{Default, required, implied, literal}
use Rattle.rules.specs.TypeFile.{DefaultEnd}
use Rattle.text.specs.declared.Fault.{Fault}
use Rattle.text.specs.Refusal.{refusal_of}
use Rattle.attribute_defaults.specs.declared.DefaultValue.{DefaultValue}
use Rattle.attribute_defaults.specs.declared.DefaultValue.TheVariants.{Required, Implied, Literal}
use Rattle.attribute_defaults.specs.declared.Defaulted.{Defaulted}

-- 0 `#REQUIRED`, 1 `#IMPLIED`, else a literal's value of n bytes from there on.
abbrev pub default_is : (x n : ℕ) → Default
default_is x n = elim (eqb x 0) [ true ↦ required | false ↦ elim (eqb x 1) [ true ↦ implied | false ↦ literal (record { at = x; size = n }) ] ]

-- The default that the code reads, and its two numbers.
abbrev pub kind_of : DefaultValue → Default
kind_of Required = required
kind_of Implied = implied
kind_of (Literal at n) = literal (record { at = at; size = n })

abbrev pub number_of : DefaultValue → ℕ
number_of Required = 0
number_of Implied = 1
number_of (Literal at n) = at

abbrev pub width_of : DefaultValue → ℕ
width_of Required = 0
width_of Implied = 0
width_of (Literal at n) = n

-- A literal's number is none of a word.
abbrev pub Apart : DefaultValue → Type 0
Apart Required = Unit {0}
Apart Implied = Unit {0}
Apart (Literal at n) = 2 ≤ at

abbrev pub default_of : Result Defaulted Fault → Reading DefaultEnd
default_of (Ok d) = got (record { default = kind_of d.value; at = d.at })
default_of (Err f) = refusal_of f

-- Whatever the declared value is: the value of a default stands in the text, and the default ends there.
abbrev pub DefaultFits : (end i : ℕ) → Result Defaulted Fault → Type 0
DefaultFits end i (Ok d) = (number_of d.value + width_of d.value ≤ end) × (i < d.at) × (d.at ≤ end) × Apart d.value
DefaultFits end i (Err f) = Unit {0}
