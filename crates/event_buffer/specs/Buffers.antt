-- What a lent buffer holds after events were written.
use Rattle.std.specs.Prelude.{ℕ, ◌≡◌, List, [], ◌∷◌, ◌++◌, length}
use Rattle.rules.specs.Lent.{bytes_of}
use Rattle.rules.specs.Events.{Event}
use Rattle.rules.specs.Reader.{event_numbers}
use Rattle.numbers.specs.Written.{Written}

abbrev pub noted : (kind number offset size place : ℕ) → Event
noted kind number offset size place = record { kind = kind; number = number; offset = offset; size = size; place = place }

-- The buffers, which were these at first, have got all of the events, each if they fit there.
pub record Holds (numbers₀ bytes₀ numbers bytes : List ℕ) (ev : List Event) : Type 0 where
  pub numbers_kept : length numbers ≡ length numbers₀
  pub bytes_kept : length bytes ≡ length bytes₀
  pub numbers_hold : Written numbers₀ numbers (event_numbers ev)
  pub bytes_hold : Written bytes₀ bytes (bytes_of (event_numbers ev))

-- These events are put behind n others: whatever the buffers held, they hold with them.
pub record Puts (numbers bytes : List ℕ) (n : ℕ) (ev : List Event) (numbers' bytes' : List ℕ) : Type 0 where
  pub numbers_kept : length numbers' ≡ length numbers
  pub bytes_kept : length bytes' ≡ length bytes
  pub behind : (numbers₀ bytes₀ : List ℕ) (before : List Event) → n ≡ length before → Holds numbers₀ bytes₀ numbers bytes before → Holds numbers₀ bytes₀ numbers' bytes' (before ++ ev)

-- This event is put over the last of n + 1 others: whatever the buffers held with another event there, they hold with it.
pub record PutsOver (numbers bytes : List ℕ) (n : ℕ) (e : Event) (numbers' bytes' : List ℕ) : Type 0 where
  pub over : (numbers₀ bytes₀ : List ℕ) (before : List Event) (other : Event) → n ≡ length before → Holds numbers₀ bytes₀ numbers bytes (before ++ other ∷ []) → Holds numbers₀ bytes₀ numbers' bytes' (before ++ e ∷ [])
