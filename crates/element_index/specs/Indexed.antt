-- What an index of a type's elements says.
use Rattle.std.specs.Prelude.{ℕ, zero, suc, ◌+◌, ◌-◌, ◌*◌, ◌%◌, ◌≤◌, ◌<◌, ◌≡◌, Bool, true, false, ◌&&◌, List, length, get_or, set, eqb, leb, ltb}
use Rattle.rules.specs.Settings.{Settings, most_name_length}
use Rattle.rules.specs.Bytes.{byte_at, element_limit}
use Rattle.rules.specs.TypeFile.{Element}
use Rattle.rules.specs.Judge.{Accepts, record_width}
use Rattle.rules.specs.Elements.{element_at}
use Rattle.layout.specs.Sizes.{CONTENTS, LETTERS}
use Rattle.element_reader.specs.Keeps.{Recorded}

-- A type that is accepted under the settings c, whose elements are recorded.
abbrev pub Judged : Settings → (s elements : List ℕ) (count : ℕ) → Type 0
Judged c s elements count = (es : List Element) × Accepts c s es × (length es ≡ count) × Recorded elements es

-- The bucket of a name by its first byte and its size, and how many buckets there are.
abbrev pub bucket_of : (first size : ℕ) → ℕ
bucket_of first size = (size - 1) * LETTERS + first % LETTERS

abbrev pub BUCKETS : ℕ
BUCKETS = most_name_length * LETTERS

-- The element number k is in the bucket b.
abbrev pub is_in : List ℕ → List Element → (b k : ℕ) → Bool
is_in s es b k = eqb (bucket_of (byte_at s (element_at es (k - 1)).at) (element_at es (k - 1)).size) b

-- The first number above k that passes, of the `left` next; 0 where none does.
unfoldable pub next_from : (ℕ → Bool) → (left k : ℕ) → ℕ
next_from f zero k = 0
next_from f (suc left) k = elim (f (k + 1)) [ true ↦ k + 1 | false ↦ next_from f left (k + 1) ]

-- The index of a type that is accepted under some settings. Each bucket leads through its elements, from the smallest number up. What belongs to
-- no element is 0.
pub record Indexed (s : List ℕ) (es : List Element) (elements index : List ℕ) : Type 0 where
  pub settings : Settings
  pub accepted : Accepts settings s es
  pub few : length es ≤ element_limit
  pub recorded : Recorded elements es
  pub smallest : (b : ℕ) → b < BUCKETS → get_or index (CONTENTS + b) 0 ≡ next_from (is_in s es b) (length es) 0
  pub larger : (b k : ℕ) → 1 ≤ k → k ≤ length es → is_in s es b k ≡ true → get_or index k 0 ≡ next_from (is_in s es b) (length es - k) k
  pub none : get_or index 0 0 ≡ 0
  pub behind : (k : ℕ) → length es < k → k ≤ element_limit → get_or index k 0 ≡ 0

-- The element number k is larger than the one before it, and a name of this size stands in s where its record says.
abbrev pub follows : (s elements : List ℕ) (before k size : ℕ) → Bool
follows s elements before k size = ltb before k && (leb k element_limit && leb (get_or elements (record_width * (k - 1)) 0 + size) (length s))

-- The index with k before the elements of the bucket b.
abbrev pub put_in : (index : List ℕ) (b k : ℕ) → List ℕ
put_in index b k = set (set index k (get_or index (CONTENTS + b) 0)) (CONTENTS + b) k
