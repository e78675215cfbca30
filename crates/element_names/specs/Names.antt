-- The elements declared so far as their table holds them, and the name of one more, in the rules' terms.
use Rattle.std.specs.Prelude.{ℕ, Option, Some, None, Result, Ok, Err, ◌+◌, ◌*◌, ◌≤◌, ◌<◌, ◌≡◌, List, [], length, take, get_or}
use Rattle.rules.specs.TypeFile.{empty}
use Rattle.rules.specs.TypeFile as rules
use Rattle.rules.specs.Judge.{records, record_width}
use Rattle.rules.specs.Bytes.{element_limit}
use Rattle.text.specs.declared.Fault.{Fault}
use Rattle.layout.specs.declared.ElementNo.{ElementNo}

-- The table of elements begins with the records of es.
abbrev pub Recorded : List ℕ → List rules.Element → Type 0
Recorded elements es = take (record_width * length es) elements ≡ records es

-- An element of which only the name is known: that of the k-th record.
abbrev pub name_at : List ℕ → ℕ → rules.Element
name_at elements k = record { at = get_or elements (record_width * k) 0; size = get_or elements (record_width * k + 1) 0; start = 0; end = 0; content = empty; repeated = 0; attributes = [] }

-- The number of an element that was looked for; 0 for none.
abbrev pub number_of : Option ElementNo → ℕ
number_of None = 0
number_of (Some e) = e.0

-- Whatever was declared before: a name that is read lies in the input, one more element has room, and the name is no longer than a name may be.
abbrev pub NameIn : (long end i count : ℕ) → Result ℕ Fault → Type 0
NameIn long end i count (Ok e) = (i ≤ e) × (e ≤ end) × (count < element_limit) × (e ≤ i + long)
NameIn long end i count (Err f) = Unit {0}
