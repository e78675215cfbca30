-- The records of a type's attributes, by the rows of the table of lists, and what lent buffers hold of them.
use Rattle.std.specs.Prelude.{ℕ, ◌+◌, ◌-◌, ◌*◌, ◌≤◌, ◌<◌, ◌≡◌, true, false, ◌⊎◌, List, [], ◌∷◌, ◌++◌, length, ltb, Result, Ok, Err}
use Rattle.rules.specs.Settings.{Settings}
use Rattle.rules.specs.Lent.{bytes_of}
use Rattle.rules.specs.Attributes.{Attribute}
use Rattle.rules.specs.TypeFile.{Element}
use Rattle.rules.specs.Judge.{Answer, refusal, Refuses, Accepts}
use Rattle.rules.specs.Listing.{attribute_numbers, attribute_width, list_numbers, attribute_count}
use Rattle.layout.specs.Sizes.{LIST, RECORDS}
use Rattle.numbers.specs.Written.{Written}
use Rattle.list_table.specs.declared.Row.{Row}
use Rattle.list_table.specs.Lists as table
use Rattle.attribute_lists.specs.Listed.{HeadedAs}
use Rattle.text.specs.declared.Fault.{Fault}
use Rattle.type_judge.specs.declared.TypeFault.{TypeFault}
use Rattle.type_judge.specs.Decides.{refusal_by}

-- A number of a row as a kind: itself below m, else m.
abbrev pub kind_of : (m x : ℕ) → ℕ
kind_of m x = elim (ltb x m) [ true ↦ x | false ↦ m ]

-- What goes with the kind m: y, and with those below it 0.
abbrev pub detail_of : (m x y : ℕ) → ℕ
detail_of m x y = elim (ltb x m) [ true ↦ 0 | false ↦ y ]

-- The nine numbers of the attribute a of the element e, by its row.
abbrev pub row_numbers : (e a : ℕ) → Row → List ℕ
row_numbers e a r =
    e ∷ a ∷ r.name ∷ r.size ∷ kind_of 3 r.value ∷ detail_of 3 r.value r.value ∷ kind_of 2 r.default ∷ detail_of 2 r.default r.default ∷ detail_of 2 r.default r.width ∷ []

-- The buffers, which were these at first, have got all of the numbers, each if they fit there.
pub record Holds (numbers₀ bytes₀ numbers bytes xs : List ℕ) : Type 0 where
  pub numbers_kept : length numbers ≡ length numbers₀
  pub bytes_kept : length bytes ≡ length bytes₀
  pub numbers_hold : Written numbers₀ numbers xs
  pub bytes_hold : Written bytes₀ bytes (bytes_of xs)

-- These numbers are put behind n records: whatever the buffers held, they hold with them.
pub record Puts (numbers bytes : List ℕ) (n : ℕ) (xs numbers' bytes' : List ℕ) : Type 0 where
  pub numbers_kept : length numbers' ≡ length numbers
  pub bytes_kept : length bytes' ≡ length bytes
  pub behind : (numbers₀ bytes₀ before : List ℕ) → attribute_width * n ≡ length before → Holds numbers₀ bytes₀ numbers bytes before → Holds numbers₀ bytes₀ numbers' bytes' (before ++ xs)

-- The records of the list of the element e are put behind n records; there are r then.
abbrev pub PutsList : (lists : List ℕ) (e : ℕ) (numbers bytes : List ℕ) (n : ℕ) (numbers' bytes' : List ℕ) (r : ℕ) → Type 0
PutsList lists e numbers bytes n numbers' bytes' r =
    (long : ℕ) (s : List ℕ) (xs : List Attribute) → table.ListAt long s lists (LIST * (e - 1)) xs → (r ≡ n + length xs) × Puts numbers bytes n (attribute_numbers e 1 xs) numbers' bytes'

-- The records of all lists are put, r of them.
abbrev pub PutsLists : (lists : List ℕ) (n : ℕ) (numbers bytes numbers' bytes' : List ℕ) (r : ℕ) → Type 0
PutsLists lists n numbers bytes numbers' bytes' r =
    (long : ℕ) (s : List ℕ) (es : List Element) → length es ≡ n → table.Lists long s es lists → (r ≡ attribute_count es) × Holds numbers bytes numbers' bytes' (list_numbers 1 es)

-- There is no room for the records of these elements' attributes.
abbrev pub NoRoom : (room : ℕ) → List Element → Answer → Type 0
NoRoom room es a = (room < attribute_width * attribute_count es) × (a ≡ refusal 19 0 0 0)

-- The attributes of elements that are accepted, put where there is room.
abbrev pub ListsElements : (room : ℕ) → List Element → (numbers bytes numbers' bytes' : List ℕ) → Result ℕ Fault → Type 0
ListsElements room es numbers bytes numbers' bytes' (Ok t) = (attribute_width * attribute_count es ≤ room) × (t ≡ attribute_count es) × Holds numbers bytes numbers' bytes' (list_numbers 1 es)
ListsElements room es numbers bytes numbers' bytes' (Err f) = NoRoom room es (refusal f.number f.at 0 0)

-- The same by the heads of their lists.
abbrev pub ListsUnder : (long : ℕ) → (s heads : List ℕ) (n room : ℕ) (numbers bytes numbers' bytes' : List ℕ) → Result ℕ Fault → Type 0
ListsUnder long s heads n room numbers bytes numbers' bytes' v = (es : List Element) → length es ≡ n → HeadedAs long s heads es → ListsElements room es numbers bytes numbers' bytes' v

-- What is decided on a type file: it is refused where all its elements have room, or the room is short for its attributes, or they are put.
abbrev pub RefusesList : Settings → (s : List ℕ) (room : ℕ) → Answer → Type 0
RefusesList c s room a = Refuses c s RECORDS a ⊎ ((es : List Element) × Accepts c s es × NoRoom room es a)

abbrev pub Decides : Settings → (s : List ℕ) (room : ℕ) (numbers bytes numbers' bytes' : List ℕ) → Result ℕ TypeFault → Type 0
Decides c s room numbers bytes numbers' bytes' (Ok t) =
    (es : List Element) × Accepts c s es × ListsElements room es numbers bytes numbers' bytes' (Ok t)
Decides c s room numbers bytes numbers' bytes' (Err x) = RefusesList c s room (refusal_by x)
