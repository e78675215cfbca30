-- What the functions that put words into a buffer leave there.
use Rattle.std.specs.Prelude.{ℕ, ◌+◌, ◌≤◌, ◌≡◌, List, ◌++◌, length, take}

-- The text was put behind the first `at` bytes, and ends at r.
pub record Adds (before : List ℕ) (at : ℕ) (after : List ℕ) (r : ℕ) (text : List ℕ) : Type 0 where
  pub same : length after ≡ length before
  pub ends : r ≡ at + length text
  pub within : r ≤ length before
  pub text_is : take r after ≡ take at before ++ text
