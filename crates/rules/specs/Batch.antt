-- Many documents under one type in one call (paper 02, request five): "Take one byte string and a list of starts and lengths, judge the type once, and give
-- for each document its own answer".
use Rattle.std.specs.Prelude.{ℕ, ◌+◌, ◌*◌, ◌<◌, ◌≤◌, ◌≡◌, true, false, List, length, take, drop, get_or}
use Rattle.rules.specs.Settings.{Settings, is_offered}
use Rattle.rules.specs.Bytes.{type_limit}
use Rattle.rules.specs.Lent.{Lent, bytes, zeroed}
use Rattle.rules.specs.Judge.{Answer, refusal, acceptance}
use Rattle.rules.specs.Reader.{document_refusal, ReadAs}
use Rattle.rules.specs.Calls.{answer_numbers}

-- What a call is given of its documents: where each starts in the string and how long it is, and likewise of its stretch of the lent buffer. Stretches are counted
-- as the buffer is, in numbers or, called from C, in bytes.
pub record Batch : Type 0 where
  pub starts : List ℕ
  pub lengths : List ℕ
  pub froms : List ℕ
  pub sizes : List ℕ

-- "We load up to 200 documents under one type."
abbrev pub batch_limit : ℕ
batch_limit = 200

-- The six numbers of each answer.
abbrev pub answer_width : ℕ
answer_width = 6

-- So many numbers of a list, from a number on: a part of the string, a stretch of the buffer, one of the answers.
abbrev pub stretch : (from size : ℕ) → List ℕ → List ℕ
stretch from size xs = take size (drop from xs)

-- The k-th number of a list is in a stretch of it.
abbrev pub InStretch : (from size k : ℕ) → Type 0
InStretch from size k = (from ≤ k) × (k < from + size)

-- The k-th number is in the stretch of the i-th document.
abbrev pub Has : Batch → (i k : ℕ) → Type 0
Has b i k = InStretch (get_or b.froms i 0) (get_or b.sizes i 0) k

-- The lists have an entry for each document. The list of the answers, of which so many numbers are lent, is one of them: that is ours.
pub record Equal (b : Batch) (answers : ℕ) : Type 0 where
  pub lengths_equal : length b.lengths ≡ length b.starts
  pub froms_equal : length b.froms ≡ length b.starts
  pub sizes_equal : length b.sizes ≡ length b.starts
  pub answers_equal : answers ≡ answer_width * length b.starts

-- "More than 200 documents, lists of unequal length, two stretches that share a number, or one that so passes the buffer's end, refuse the whole call".
-- `room` is how long the lent buffer is.
pub data Unfit (b : Batch) (answers room : ℕ) : Type 0 where
  too_many : batch_limit < length b.starts → Unfit b answers room
  unequal : (Equal b answers → ⊥) → Unfit b answers room
  sharing : (i j k : ℕ) → i < j → j < length b.starts → Has b i k → Has b j k → Unfit b answers room
  passing : (i : ℕ) → i < length b.starts → room < get_or b.froms i 0 + get_or b.sizes i 0 → Unfit b answers room

-- "A part whose start plus length passes the string's end is number 1 for that document only": it stands
-- where the order has a document's 1, behind 24 and the type's 1. Under 24 a batch reads no part, so that the
-- first case is none of a batch: it is what a part by itself would be answered.
pub data RefusesPart (c : Settings) (s : List ℕ) (a : Answer) : Type 0 where
  not_offered : is_offered c ≡ false → a ≡ refusal 24 0 0 0 → RefusesPart c s a
  type_too_long : is_offered c ≡ true → type_limit < length s → a ≡ refusal 1 0 0 0 → RefusesPart c s a
  passes_end : is_offered c ≡ true → length s ≤ type_limit → a ≡ document_refusal 1 0 → RefusesPart c s a

-- "All other answers equal those of the single calls." What the part of the string that starts here and is so long comes to in its stretch of the buffer.
pub data PartAs (l : Lent) (c : Settings) (s string : List ℕ) (start size : ℕ) (before : List ℕ) (a : Answer) (after : List ℕ) : Type 0 where
  within : start + size ≤ length string → ReadAs l c s (stretch start size string) before a after → PartAs l c s string start size before a after
  passes : length string < start + size → RefusesPart c s a → after ≡ zeroed before
      → PartAs l c s string start size before a after

-- "Each document's own given stretch of the buffer is its lent buffer; the rest stays."
pub record AllRead (l : Lent) (c : Settings) (s string : List ℕ) (b : Batch) (before answers after : List ℕ) : Type 0 where
  pub each : (i : ℕ) → i < length b.starts → (x : Answer) × (stretch (answer_width * i) answer_width answers ≡ answer_numbers x)
      × PartAs l c s string (get_or b.starts i 0) (get_or b.lengths i 0) (stretch (get_or b.froms i 0) (get_or b.sizes i 0) before) x (stretch (get_or b.froms i 0) (get_or b.sizes i 0) after)
  pub rest : (k : ℕ) → ((i : ℕ) → i < length b.starts → Has b i k → ⊥) → get_or after k 0 ≡ get_or before k 0
  pub same_length : length after ≡ length before
  pub answers_length : length answers ≡ answer_width * length b.starts

-- What the call answers as a whole, and what the lent buffer, `before` the call, and the answers hold after
-- it. Settings that are not offered are 24, "in the type at 0, before even 23" (request six), whatever the
-- lists are. Lists that are unfit are "23, in the type at 0, the buffer zero, before anything else". Both
-- refuse the whole call, and "on refusal the whole buffer is zero and the count is 0" (paper 01); the answers
-- are then as they were: that is ours. Otherwise the whole call is accepted with so many documents, whatever
-- the answer to each is.
pub data Batched (l : Lent) (c : Settings) (s string : List ℕ) (b : Batch) (before given : List ℕ) (a : Answer)
    (answers after : List ℕ) : Type 0 where
  not_offered : is_offered c ≡ false → a ≡ refusal 24 0 0 0 → answers ≡ given → after ≡ zeroed before
      → Batched l c s string b before given a answers after
  unfit : is_offered c ≡ true → Unfit b (length given) (length before) → a ≡ refusal 23 0 0 0
      → answers ≡ given → after ≡ zeroed before → Batched l c s string b before given a answers after
  reads : is_offered c ≡ true → (Unfit b (length given) (length before) → ⊥)
      → a ≡ acceptance (length b.starts) → AllRead l c s string b before answers after
      → Batched l c s string b before given a answers after

-- The call for C returns the number of that whole answer, gives its six numbers, and leaves in the lent bytes and in the answers what goes with it.
abbrev pub BatchNumbers : Settings → (s string : List ℕ) → Batch → (before given : List ℕ) (returned : ℕ) (numbers answers after : List ℕ) → Type 0
BatchNumbers c s string b before given returned numbers answers after = (a : Answer) × (returned ≡ a.number) × (numbers ≡ answer_numbers a) × Batched bytes c s string b before given a answers after
