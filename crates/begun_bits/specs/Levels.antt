-- What the bits of a level say.
use Rattle.std.specs.Prelude.{ℕ, ◌≤◌, ◌<◌, ◌≡◌, Bool, List, length}
use Rattle.layout.specs.Sizes.{POSITIONS}
use Rattle.member_laws.specs.Members.{begun_at, Elsewhere}
use Rattle.member_bits.specs.declared.Bits.{Bits}
use Rattle.member_bits.specs.Having.{Has}

-- The members b of the level have begun, and no others.
pub record Puts (level : ℕ) (b : Bits) (before after : List ℕ) : Type 0 where
  pub whole : length after ≡ length before
  pub elsewhere : Elsewhere level before after
  pub bits : (f : ℕ → Bool) → Has b f → (n : ℕ) → 1 ≤ n → n < POSITIONS → begun_at after level n ≡ f n
