-- Where the lists of a type stand, and what the answers of the code stand for.
use Rattle.std.specs.Prelude.{ℕ, Result, Ok, Err, zero, suc, ◌+◌, ◌-◌, ◌*◌, ◌≤◌, ◌<◌, ◌≡◌, Bool, false, not, ◌||◌, ◌⊎◌, List, length, get_or, eqb}
use Rattle.rules.specs.Reading.{Reading, got}
use Rattle.rules.specs.Attributes.{Attribute, AttList}
use Rattle.rules.specs.TypeFile.{list_from, is_listed, Listed, Declarations, attributes_of}
use Rattle.rules.specs.TypeFile as rules
use Rattle.rules.specs.Elements.{element_at}
use Rattle.rules.specs.Bytes.{element_limit}
use Rattle.text.specs.declared.Fault.{Fault}
use Rattle.text.specs.Refusal.{refusal_of}
use Rattle.layout.specs.Sizes.{LIST}
use Rattle.list_table.specs.Lists.{ListAt}
use Rattle.attribute_lists.specs.declared.Head.{Head}

-- The k-th element, from 0, has a list where its head is not 0: the list was read from there on.
pub record HeadRead (long : ℕ) (s : List ℕ) (from : ℕ) (ls : List AttList) (k : ℕ) : Type 0 where
  pub begins : 3 ≤ from
  pub inside : from ≤ length s
  pub after : ℕ
  pub read : list_from long s from ≡ got (record { attributes = attributes_of ls (k + 1); at = after })

pub record Headed (long : ℕ) (s heads : List ℕ) (ls : List AttList) : Type 0 where
  pub has : (k : ℕ) → k < element_limit → is_listed ls (k + 1) ≡ not (eqb (get_or heads k 0) 0)
  pub reads : (k : ℕ) → k < element_limit → (get_or heads k 0 ≡ 0 → ⊥) → HeadRead long s (get_or heads k 0) ls k

-- The elements es have the attributes of the lists at these heads.
pub record HeadedAs (long : ℕ) (s heads : List ℕ) (es : List rules.Element) : Type 0 where
  pub lists : List AttList
  pub headed : Headed long s heads lists
  pub each : (k : ℕ) → k < length es → (element_at es k).attributes ≡ attributes_of lists (k + 1)

-- It is a head, and not 0 for none.
abbrev pub is_head : ℕ → Bool
is_head h = not (eqb h 0)

-- One of the first n elements has a list.
unfoldable pub any_in : List ℕ → (n : ℕ) → Bool
any_in heads zero = false
any_in heads (suc n) = any_in heads n || not (eqb (get_or heads n 0) 0)

-- The element of a list.
abbrev pub listed_of : Result Head Fault → Reading Listed
listed_of (Ok h) = got (record { element = h.element.0; at = h.at })
listed_of (Err f) = refusal_of f

-- Whatever the tables hold: the element has no head yet.
abbrev pub ListedFits : (end i count : ℕ) → (heads : List ℕ) → Result Head Fault → Type 0
ListedFits end i count heads (Ok h) = (1 ≤ h.element.0) × (h.element.0 ≤ count) × (i ≤ h.at) × (h.at ≤ end) × (get_or heads (h.element.0 - 1) 0 ≡ 0)
ListedFits end i count heads (Err f) = Unit {0}

-- A list that was read: it has a head then.
pub record ListsAs (long : ℕ) (s heads : List ℕ) (es : List rules.Element) (e : ℕ) (x : Reading Declarations) : Type 0 where
  pub lists : List AttList
  pub read : x ≡ got (record { elements = es; lists = lists; at = e })
  pub headed : Headed long s heads lists

abbrev pub MeetsLists : ℕ → (s heads : List ℕ) → List rules.Element → Result ℕ Fault → Reading Declarations → Type 0
MeetsLists long s heads es (Ok e) x = ListsAs long s heads es e x
MeetsLists long s heads es (Err f) x = x ≡ refusal_of f

-- The list of the k-th element was read again from its head: it is in the table then, and all other lists are what they were.
pub record Again (long : ℕ) (s : List ℕ) (from k : ℕ) (before after : List ℕ) : Type 0 where
  pub as_long : length after ≡ length before
  pub none : from ≡ 0 → after ≡ before
  pub there : (ls : List AttList) → HeadRead long s from ls k → ListAt long s after (LIST * k) (attributes_of ls (k + 1))
  pub others : (b : ℕ) (xs : List Attribute) → (b + LIST ≤ LIST * k) ⊎ (LIST * k + LIST ≤ b) → ListAt long s before b xs → ListAt long s after b xs
