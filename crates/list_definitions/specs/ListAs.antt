-- What the answers of the code stand for: a list that was read has its rows in the table.
use Rattle.std.specs.Prelude.{ℕ, Result, Ok, Err, ◌≤◌, ◌<◌, ◌≡◌, List}
use Rattle.rules.specs.Reading.{Reading, got}
use Rattle.rules.specs.Attributes.{Attribute}
use Rattle.rules.specs.TypeFile.{ListEnd}
use Rattle.text.specs.declared.Fault.{Fault}
use Rattle.text.specs.Refusal.{refusal_of}
use Rattle.list_table.specs.Lists.{ListAt}

pub record ListAs (long : ℕ) (s list : List ℕ) (e : ℕ) (x : Reading ListEnd) : Type 0 where
  pub attributes : List Attribute
  pub read : x ≡ got (record { attributes = attributes; at = e })
  pub listed : ListAt long s list 0 attributes

abbrev pub MeetsList : ℕ → (s list : List ℕ) → Result ℕ Fault → Reading ListEnd → Type 0
MeetsList long s list (Ok e) x = ListAs long s list e x
MeetsList long s list (Err f) x = x ≡ refusal_of f

-- Whatever the list holds: it ends in the text.
abbrev pub ListIn : (end from : ℕ) → Result ℕ Fault → Type 0
ListIn end from (Ok e) = (from < e) × (e ≤ end)
ListIn end from (Err f) = Unit {0}
