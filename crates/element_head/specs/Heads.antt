-- What stands before the content of an element, in the rules' terms.
use Rattle.std.specs.Prelude.{ℕ, ◌≤◌, ◌<◌, Bool, true, false, Result, Ok, Err}
use Rattle.rules.specs.Reading.{Reading, got}
use Rattle.rules.specs.TypeFile as rules
use Rattle.rules.specs.Bytes.{element_limit}
use Rattle.text.specs.Refusal.{refusal_of}
use Rattle.text.specs.declared.Fault.{Fault}
use Rattle.element_head.specs.declared.Word.{Word}
use Rattle.element_head.specs.declared.Head.{Head}

-- Whether a tag may be omitted, as the number of a record.
abbrev pub bit : Bool → ℕ
bit false = 0
bit true = 1

abbrev pub word_in : Word → rules.Word
word_in w = record { value = bit w.omitted; at = w.at }

abbrev pub omission_of : Result Word Fault → Reading rules.Word
omission_of (Ok w) = got (word_in w)
omission_of (Err f) = refusal_of f

abbrev pub head_in : Head → rules.Head
head_in h = record { name = h.offset; size = h.size; start = bit h.start; end = bit h.end; at = h.at }

abbrev pub head_of : Result Head Fault → Reading rules.Head
head_of (Ok h) = got (head_in h)
head_of (Err f) = refusal_of f

abbrev pub HeadIn : (long end from count : ℕ) → Result Head Fault → Type 0
HeadIn long end from count (Ok h) = (from ≤ h.at) × (h.at ≤ end) × (h.offset ≤ end) × (h.size ≤ end) × (count < element_limit) × (h.size ≤ long)
HeadIn long end from count (Err f) = Unit {0}
