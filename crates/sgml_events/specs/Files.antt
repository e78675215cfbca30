-- Which inputs are printed for, and that the files are read so.
use Rattle.std.specs.Prelude.{ℕ, ◌<◌, ◌≡◌, List, ◌⊎◌, length, take}
use Rattle.std.proofs.Common.{inl, inr, ⊎_elim, arith}
use Rattle.io.specs.Counts.{IsPrefixLen}

-- The input is all of a file, since the last read gave nothing, or longer than its limit.
abbrev pub Whole : (limit : ℕ) → List ℕ → (last : ℕ) → Type 0
Whole limit input last = (last ≡ 0) ⊎ (limit < length input)

-- A buffer that holds more than the limit was read into, and the input is what was read.
pub whole_of : (limit : ℕ) (buffer : List ℕ) {size last : ℕ} → IsPrefixLen size buffer → (last ≡ 0) ⊎ (size ≡ length buffer) → limit < length buffer
    → Whole limit (take size buffer) last
whole_of limit buffer (within, counted) w h = ⊎_elim inl (λ q. inr (omega arith)) w
