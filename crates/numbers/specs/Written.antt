-- What a buffer holds after numbers were written to it.
use Rattle.std.specs.Prelude.{ℕ, ◌+◌, ◌≤◌, ◌≡◌, true, false, List, ◌++◌, length, take, drop, leb}
use Rattle.rules.specs.Lent.{filled_with}

-- The list with the numbers xs from k on, if they fit.
unfoldable pub written : List ℕ → (k : ℕ) → (xs : List ℕ) → List ℕ
written l k xs = elim (leb (k + length xs) (length l)) [ true ↦ take k l ++ (xs ++ drop (k + length xs) l) | false ↦ l ]

-- The buffer, `before` the call, has got all of xs if they fit; what lies behind them is as it was.
abbrev pub Written : (before after xs : List ℕ) → Type 0
Written before after xs = length xs ≤ length before → after ≡ filled_with xs before
