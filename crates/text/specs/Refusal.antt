-- The rules' reading that an answer of the code stands for: number and position of each case.
use Rattle.std.specs.Prelude.{ℕ, Result, Ok, Err}
use Rattle.rules.specs.Reading.{Reading, refused, got}
use Rattle.text.specs.declared.Refusal.{Refusal}
use Rattle.text.specs.declared.Refusal.TheVariants.{TooLong, Byte, NameTooLong, Malformed, LeftOut, Quantity, DeclaredTwice, Elements, Ambiguous, Undeclared, NotOpen, NotAllowedHere, Incomplete, EndMissing, TooDeep, AfterEnd, SectionEnd, NoDocument, NoRoom, Attribute, AttributeMissing, Value, Batch, Settings, Repeated}
use Rattle.text.specs.declared.Fault.{Fault}

-- The numbers of the refusals (paper 01, "Refusal numbers"; 20 to 25 by paper 02).
abbrev pub number_of : Refusal → ℕ
number_of TooLong = 1
number_of Byte = 2
number_of NameTooLong = 3
number_of Malformed = 4
number_of LeftOut = 5
number_of Quantity = 6
number_of DeclaredTwice = 7
number_of Elements = 8
number_of Ambiguous = 9
number_of Undeclared = 10
number_of NotOpen = 11
number_of NotAllowedHere = 12
number_of Incomplete = 13
number_of EndMissing = 14
number_of TooDeep = 15
number_of AfterEnd = 16
number_of SectionEnd = 17
number_of NoDocument = 18
number_of NoRoom = 19
number_of Attribute = 20
number_of AttributeMissing = 21
number_of Value = 22
number_of Batch = 23
number_of Settings = 24
number_of Repeated = 25

-- A refusal that points at a position.
abbrev pub fault_at : Refusal → ℕ → Fault
fault_at r i = record { number = number_of r; at = i }

-- A refusal is passed on with its number and position, whatever was to be read.
abbrev pub refusal_of : {A : Type 0} → Fault → Reading A
refusal_of f = refused f.number f.at

-- What was read is what `g` makes of it.
abbrev pub reading : {A B : Type 0} → (A → B) → Result A Fault → Reading B
reading g (Ok a) = got (g a)
reading g (Err f) = refusal_of f

abbrev pub reached : Result ℕ Fault → Reading ℕ
reached (Ok i) = got i
reached (Err f) = refusal_of f
