-- The rows of bits and the linked places of a name, and the search through them.
use Rattle.std.specs.Prelude.{ℕ, ◌+◌, ◌-◌, ◌*◌, ◌/◌, ◌%◌, ◌^◌, ◌≤◌, ◌≡◌, Bool, true, false, ◌&&◌, ◌⊎◌, List, get_or, eqb}
use Rattle.rules.specs.Bytes.{GRPGTCNT}
use Rattle.layout.specs.Sizes.{POSITIONS, ROW, RAISE, LINK}
use Rattle.document_laws.specs.Decide.{search}
use Rattle.and_next.specs.Follows.{Follows}

-- Where the row of the element e after the place u begins.
abbrev pub row_at : (e u : ℕ) → ℕ
row_at e u = (e * POSITIONS + u) * ROW

-- Whether the bit k of a number is 1.
abbrev pub bit_of : (b k : ℕ) → Bool
bit_of b k = eqb (b / 2 ^ k % 2) 1

-- Whether the row of the element e after the place u has the place p.
abbrev pub next_bit : List ℕ → (e u p : ℕ) → Bool
next_bit rows e u p = bit_of (get_or rows (row_at e u + p / 8) 0) (p % 8)

-- The next smaller place of the same name.
abbrev pub link_at : List ℕ → (e p : ℕ) → ℕ
link_at places e p = get_or places ((e * POSITIONS + p) * LINK + 1) 0

-- From n on downwards the places that pass f are linked.
pub record Linked (places : List ℕ) (e : ℕ) (f : ℕ → Bool) (n : ℕ) : Type 0 where
  pub last : 1 ≤ n → f n ≡ true
  pub below : (q : ℕ) → 1 ≤ q → q ≤ n → f q ≡ true → link_at places e q ≡ search f (q - 1)

-- The number r is the largest of the linked places from n on of which it is said that they may come next, whichever they are, or 0.
pub record Largest (Says : ℕ → Bool → Type 0) (places : List ℕ) (e n r : ℕ) : Type 0 where
  pub small : r ≤ GRPGTCNT
  pub finds : (f next : ℕ → Bool) → Linked places e f n → ((q : ℕ) (b : Bool) → 1 ≤ q → q ≤ n → Says q b → b ≡ next q) → r ≡ search (λ q. f q && next q) n

-- The row says it.
abbrev pub RowSays : List ℕ → (e u q : ℕ) → Bool → Type 0
RowSays rows e u q b = b ≡ next_bit rows e u q

-- The row and what has begun say it.
abbrev pub BothSay : (rows M begun : List ℕ) (level e u q : ℕ) → Bool → Type 0
BothSay rows M begun level e u q b = ((next_bit rows e u q ≡ false) × (b ≡ false)) ⊎ ((next_bit rows e u q ≡ true) × Follows M level e u q begun b)

-- The same from a number that is higher by `RAISE`.
pub record LargestRaised (Says : ℕ → Bool → Type 0) (places : List ℕ) (e p r : ℕ) : Type 0 where
  pub small : r ≤ GRPGTCNT
  pub finds : (n : ℕ) → p ≡ RAISE + n → n ≤ GRPGTCNT → Largest Says places e n r
