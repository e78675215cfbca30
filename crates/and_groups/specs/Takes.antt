-- What taking a place does to the bits of a level, and what these decide, in the terms of the groups.
use Rattle.std.specs.Prelude.{ℕ, ◌≤◌, ◌≡◌, Bool, true, false, ◌⊎◌, List, [], ◌∷◌, ◌++◌, length, Option, Some, None}
use Rattle.rules.specs.Walk.{Group}
use Rattle.rules.specs.Bytes.{GRPGTCNT}
use Rattle.layout.specs.declared.Place.{Place}
use Rattle.model_sets.specs.Sets.{size, Numbered, has}
use Rattle.and_laws.specs.Base.{mem}
use Rattle.and_laws.specs.Numbers.{Guarded}
use Rattle.and_laws.specs.Levels.{around, blocks_in, lone_in}
use Rattle.member_laws.specs.Members.{Told, Standing}
pub use Rattle.member_laws.specs.Members.{Elsewhere}

-- What stands for `None` of `take`, where no group blocks: no place has that number.
abbrev pub FREE : ℕ
FREE = 255

-- What `take` answers, as a number.
abbrev pub answer_of : Option Place → ℕ
answer_of (Some p) = p.0
answer_of None = FREE

-- What `take` answers of the places taken, p the last of them, as `answer_of` has it: `FREE` where no group blocks, else the place that is required in the group that does, or 0.
pub data Blocked (g : Group) (p : ℕ) (S : ℕ → Bool) (r : ℕ) : Type 0 where
  free : r ≡ FREE → blocks_in (around g p) p S ≡ false → Blocked g p S r
  held : r ≡ lone_in (around g p) S → r ≤ GRPGTCNT → blocks_in (around g p) p S ≡ true → Blocked g p S r

-- The place p of the element e is taken at the level, after the place u.
pub record Takes (M : List ℕ) (level e u p : ℕ) (before after : List ℕ) (r : ℕ) : Type 0 where
  pub whole : length after ≡ length before
  pub elsewhere : Elsewhere level before after
  pub small : (r ≡ FREE) ⊎ (r ≤ GRPGTCNT)
  pub stands : (g : Group) → Numbered g 1 → Guarded g → Told M e g → (taken : List ℕ) → Standing before level M e g u taken → has g p ≡ true → Standing after level M e g p (taken ++ p ∷ [])
  pub blocked : (g : Group) → Numbered g 1 → Guarded g → size g ≤ GRPGTCNT → Told M e g → (taken : List ℕ) → Standing before level M e g u taken → has g p ≡ true → Blocked g p (mem (taken ++ p ∷ [])) r
