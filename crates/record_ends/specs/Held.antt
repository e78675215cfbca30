-- What the code asks of record ends, in the rules' terms.
use Rattle.std.specs.Prelude.{ℕ, ◌+◌, ◌-◌, ◌≤◌, ◌<◌, ◌≡◌, Bool, true, false, ◌&&◌, List, [], ◌∷◌, ◌++◌, length, eqb, ltb}
use Rattle.rules.specs.Settings.{second_edition}
use Rattle.rules.specs.Bytes.{byte_at, RE}
use Rattle.rules.specs.Events.{Event, data_run}
use Rattle.rules.specs.Settling.{Open}
use Rattle.rules.specs.Records.{Line, is_fresh, due_run}
use Rattle.event_buffer.specs.Buffers.{Holds}

abbrev pub line_of : (since mark : ℕ) → Line
line_of since mark = record { since = since; mark = mark }

-- In edition 2 the last tag or data, which ended at `since`, ended with a byte 13, which is not known to be data yet.
abbrev pub is_held : (edition : ℕ) → (d : List ℕ) → (since : ℕ) → Bool
is_held e d since = eqb e second_edition && (ltb 0 since && eqb (byte_at d (since - 1)) RE)

-- Where the tag or the run of data up to `after` ends as it is shown: without a byte that is held.
abbrev pub shown_end : (edition : ℕ) → (d : List ℕ) → (after : ℕ) → ℕ
shown_end e d after = elim (is_held e d after) [ true ↦ after - 1 | false ↦ after ]

-- The place u is the one taken last in the open element o, 0 for none, and none is taken where neither a tag nor data came.
pub record Since (since u : ℕ) (o : Open) : Type 0 where
  pub fresh : is_fresh o ≡ eqb u 0
  pub begun : since ≡ 0 → is_fresh o ≡ true

-- The run from `from` up to `since` is put whole: whatever the n events in the buffers are, with that run but for its last byte behind them, they have the whole run
-- there then, and r is how many there are.
pub record PutsWhole (numbers bytes : List ℕ) (n from since r : ℕ) (numbers' bytes' : List ℕ) : Type 0 where
  pub numbers_kept : length numbers' ≡ length numbers
  pub bytes_kept : length bytes' ≡ length bytes
  pub few : r ≤ n + 1
  pub counted : from < since → (before : List Event) → n ≡ length (before ++ due_run from (since - from - 1)) → r ≡ length (before ++ data_run from (since - from) ∷ [])
  pub whole : from < since → (numbers₀ bytes₀ : List ℕ) (before : List Event) → n ≡ length (before ++ due_run from (since - from - 1)) → Holds numbers₀ bytes₀ numbers bytes (before ++ due_run from (since - from - 1))
      → Holds numbers₀ bytes₀ numbers' bytes' (before ++ data_run from (since - from) ∷ [])

-- Behind m events, n of them before the ends that a token infers: where there are no such ends and a run of data is held, from `from` to `since`, that is put whole,
-- else nothing is done.
pub record Frees (held : Bool) (from since n m : ℕ) (numbers bytes : List ℕ) (r : ℕ) (numbers' bytes' : List ℕ) : Type 0 where
  pub numbers_kept : length numbers' ≡ length numbers
  pub bytes_kept : length bytes' ≡ length bytes
  pub few : (k : ℕ) → m ≤ n + k → 1 ≤ k → r ≤ n + k
  pub puts : held ≡ true → m ≡ n → PutsWhole numbers bytes n from since r numbers' bytes'
  pub stays : (held ≡ true → m ≡ n → ⊥) → (r ≡ m) × (numbers' ≡ numbers) × (bytes' ≡ bytes)
