-- What the tests of stretches say, each by what is so where it holds and by what is found where it fails.
use Rattle.std.specs.Prelude.{ℕ, ◌+◌, ◌≤◌, ◌<◌, Bool, true, false, List, get_or}
use Rattle.rules.specs.Batch.{Batch, InStretch, Unfit}

-- Two stretches share no number, or they share one.
abbrev pub Apart : (from size other its : ℕ) → Bool → Type 0
Apart from size other its true = (k : ℕ) → InStretch from size k → InStretch other its k → ⊥
Apart from size other its false = (k : ℕ) × InStretch from size k × InStretch other its k

-- The first n stretches end within the room, or one of them does not.
abbrev pub AllWithin : (froms sizes : List ℕ) (room n : ℕ) → Bool → Type 0
AllWithin froms sizes room n true = (i : ℕ) → i < n → get_or froms i 0 + get_or sizes i 0 ≤ room
AllWithin froms sizes room n false = (i : ℕ) × (i < n) × (room < get_or froms i 0 + get_or sizes i 0)

-- The i-th stretch and one of the first j.
abbrev pub Shared : (froms sizes : List ℕ) (i j k : ℕ) → Type 0
Shared froms sizes i j k = InStretch (get_or froms j 0) (get_or sizes j 0) k × InStretch (get_or froms i 0) (get_or sizes i 0) k

-- The i-th stretch shares no number with the first n, or it shares one.
abbrev pub ApartFrom : (froms sizes : List ℕ) (i n : ℕ) → Bool → Type 0
ApartFrom froms sizes i n true = (j k : ℕ) → j < n → Shared froms sizes i j k → ⊥
ApartFrom froms sizes i n false = (j k : ℕ) × (j < n) × Shared froms sizes i j k

-- No two of the first n share a number, or two do.
abbrev pub AllApart : (froms sizes : List ℕ) (n : ℕ) → Bool → Type 0
AllApart froms sizes n true = (i j k : ℕ) → i < n → j < i → Shared froms sizes i j k → ⊥
AllApart froms sizes n false = (i j k : ℕ) × (i < n) × (j < i) × Shared froms sizes i j k

-- The lists are fit, or they are not.
abbrev pub batch_of : (starts lengths froms sizes : List ℕ) → Batch
batch_of starts lengths froms sizes = record { starts = starts; lengths = lengths; froms = froms; sizes = sizes }

abbrev pub Fits : (starts lengths froms sizes : List ℕ) (answers room : ℕ) → Bool → Type 0
Fits starts lengths froms sizes answers room true = Unfit (batch_of starts lengths froms sizes) answers room → ⊥
Fits starts lengths froms sizes answers room false = Unfit (batch_of starts lengths froms sizes) answers room
