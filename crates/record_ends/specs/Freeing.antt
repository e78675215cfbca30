-- What comes of a run that is held, by whether an end came first.
use Rattle.std.specs.Prelude.{ℕ, ◌-◌, ◌≤◌, ◌<◌, ◌≡◌, Bool, true, false, List}
use Rattle.std.proofs.Common.{arith}
use Rattle.record_ends.specs.Held.{is_held, shown_end, Frees}

-- The same where the two ways of a branch come together.
pub frees_same : {held : Bool} {from since n m : ℕ} {numbers bytes : List ℕ} {r q : ℕ} {numbers' bytes' numbers'' bytes'' : List ℕ} → Frees held from since n m numbers bytes r numbers' bytes' → numbers'' ≡ numbers' → bytes'' ≡ bytes' → q ≡ r
    → Frees held from since n m numbers bytes q numbers'' bytes''
frees_same h i j e = rw (i, j, e) h

-- What is shown of a token ends behind where it begins, and no further than it.
pub shown_range : (edition : ℕ) (d : List ℕ) {at after shown : ℕ} → at < after → shown ≡ shown_end edition d after → (at ≤ shown) × (shown ≤ after)
shown_range edition d {at} {after} {shown} l e = by_held (is_held edition d after) e
  where
    by_held : (h : Bool) → shown ≡ elim h [ true ↦ after - 1 | false ↦ after ] → (at ≤ shown) × (shown ≤ after)
    by_held true e = (omega arith, omega arith)
    by_held false e = (omega arith, omega arith)
