-- What the reader's answer stands for, in the rules' terms, and what is known on the way to it.
use Rattle.std.specs.Prelude.{ℕ, ◌<◌, ◌≡◌, Bool, true, false, List, length, ltb, Result, Ok, Err}
use Rattle.rules.specs.Settings.{Settings}
use Rattle.rules.specs.Lent.{Lent, standing}
use Rattle.rules.specs.Reading.{got}
use Rattle.rules.specs.TypeFile.{Element}
use Rattle.rules.specs.Judge.{refusal, acceptance, Accepts}
use Rattle.rules.specs.Judge as rules
use Rattle.rules.specs.Events.{Event}
use Rattle.rules.specs.Reader.{document_refusal, event_numbers, BothLegible, Reads}
use Rattle.numbers.specs.Written.{Written}
use Rattle.inputs.specs.Checks.{RefusesAlways}
use Rattle.element_names.specs.Names.{Recorded}
use Rattle.list_table.specs.Lists.{Lists}
use Rattle.text.specs.declared.Fault.{Fault}
use Rattle.type_judge.specs.Decides.{refusal_by}
use Rattle.type_stage.specs.Stages.{JudgedHeads}
use Rattle.type_stage.specs.declared.Refused.{Refused}
use Rattle.type_stage.specs.declared.Refused.TheVariants.{InType, InDocument}
use Rattle.document_events.specs.Loop.{EventsOf}

-- The paper's numbers for each refusal of one of the inputs, and for each answer of the reader.
abbrev pub refusal_of : Refused → rules.Answer
refusal_of (InType x) = refusal_by x
refusal_of (InDocument f) = document_refusal f.number f.at

abbrev pub answer_of : Result ℕ Refused → rules.Answer
answer_of (Ok n) = acceptance n
answer_of (Err x) = refusal_of x

-- The count is a 32-bit number.
abbrev pub CountFits : Result ℕ Refused → Type 0
CountFits (Ok n) = n < 4294967296
CountFits (Err x) = Unit {0}

-- A type that is accepted under the settings c: its n elements are recorded, and have the attributes of the lists in this table.
abbrev pub JudgedLists : Settings → (s elements lists : List ℕ) (n : ℕ) → Type 0
JudgedLists c s elements lists n = (es : List Element) × Accepts c s es × (length es ≡ n) × Recorded elements es × Lists c.name_length s es lists

-- Number 24 of the settings, numbers 1 and 2 of both inputs, and the type: accepted with its elements and their lists, or refused.
abbrev pub Judges : Settings → (s d elements heads : List ℕ) → Result ℕ Refused → Type 0
Judges c s d elements heads (Ok n) = BothLegible c s d × JudgedHeads c s elements heads n
Judges c s d elements heads (Err x) = RefusesAlways c s d (refusal_of x)

-- What the document comes to under the elements of the type that is accepted.
abbrev pub Followed : Settings → (s d numbers numbers_after bytes bytes_after : List ℕ) → Result ℕ Fault → Type 0
Followed c s d numbers numbers_after bytes bytes_after r = (es : List Element) × Accepts c s es × EventsOf c s es d numbers numbers_after bytes bytes_after r

-- One of a list of numbers and a list of bytes: the one that is lent.
abbrev pub lent_of : Lent → (numbers bytes : List ℕ) → List ℕ
lent_of Lent.numbers numbers bytes = numbers
lent_of Lent.bytes numbers bytes = bytes

-- The document is read: its events are counted, and each of the two buffers has got them if they fit.
pub record Counts (c : Settings) (s d numbers numbers_after bytes bytes_after : List ℕ) (n : ℕ) : Type 0 where
  pub elements : List Element
  pub events : List Event
  pub reads : Reads c s d elements (got events)
  pub counted : n ≡ length events
  pub written : (l : Lent) → Written (lent_of l numbers bytes) (lent_of l numbers_after bytes_after) (standing l (event_numbers events))
  pub few : n < 4294967296

-- It is read, or one of the inputs is refused.
abbrev pub Answers : Settings → (s d numbers numbers_after bytes bytes_after : List ℕ) → Result ℕ Refused → Type 0
Answers c s d numbers numbers_after bytes bytes_after (Ok n) = Counts c s d numbers numbers_after bytes bytes_after n
Answers c s d numbers numbers_after bytes bytes_after (Err x) = RefusesAlways c s d (refusal_of x)

-- There are n events, or it is number 19 where they do not fit: "19 only where nothing else is wrong".
abbrev pub unless_full : (full : Bool) (n : ℕ) → Result ℕ Refused
unless_full true n = Err (InDocument (record { number = 19; at = 0 }))
unless_full false n = Ok n

-- The answer where so many events fit.
abbrev pub fitted_to : (room : ℕ) → Result ℕ Refused → Result ℕ Refused
fitted_to room (Ok n) = unless_full (ltb room n) n
fitted_to room (Err x) = Err x
