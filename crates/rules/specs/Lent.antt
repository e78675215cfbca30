-- What a call is lent, and how numbers are stored in it (paper 01, "What the reader takes and gives").
use Rattle.std.specs.Prelude.{ℕ, ◌/◌, ◌%◌, List, [], ◌∷◌, ◌++◌, length, drop, replicate}

-- "A lent buffer of 32-bit numbers", or, called from C, of bytes.
pub data Lent : Type 0 where
  numbers : Lent
  bytes : Lent

-- "The numbers in the lent buffer then standing as four bytes each, low byte first".
unfoldable pub bytes_of : List ℕ → List ℕ
bytes_of [] = []
bytes_of (n ∷ ns) = n % 256 ∷ n / 256 % 256 ∷ n / 65536 % 256 ∷ n / 16777216 % 256 ∷ bytes_of ns

-- Numbers as they stand in the buffer.
abbrev pub standing : Lent → List ℕ → List ℕ
standing numbers ns = ns
standing bytes ns = bytes_of ns

-- How many numbers a buffer holds: of bytes "one to three .. over at the end hold no number".
abbrev pub room : Lent → (before : List ℕ) → ℕ
room numbers before = length before
room bytes before = length before / 4

-- "What lies behind the last number written stays as it was": a buffer that held `before`, with xs at its start.
abbrev pub filled_with : (xs before : List ℕ) → List ℕ
filled_with xs before = xs ++ drop (length xs) before

-- "On refusal the whole buffer is zero": the bytes that are over "are zeroed by a refusal" too.
abbrev pub zeroed : (before : List ℕ) → List ℕ
zeroed before = replicate (length before) 0
