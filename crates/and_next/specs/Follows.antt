-- Which place may come next, in the terms of the groups.
use Rattle.std.specs.Prelude.{ℕ, ◌≤◌, ◌≡◌, Bool, true, List}
use Rattle.rules.specs.Walk.{Group}
use Rattle.model_sets.specs.Sets.{Numbered, has}
use Rattle.and_laws.specs.Base.{mem}
use Rattle.and_laws.specs.Numbers.{Guarded}
use Rattle.and_laws.specs.Levels.{may_in}
use Rattle.and_laws.specs.Taken.{groups_at}
use Rattle.member_laws.specs.Members.{Told, Standing}

-- The place p is left by what has begun after the place u, 0 at the start.
abbrev pub Follows : (M : List ℕ) (level e u p : ℕ) (begun : List ℕ) → Bool → Type 0
Follows M level e u p begun r =
    (g : Group) → Numbered g 1 → Guarded g → Told M e g → (taken : List ℕ) → Standing begun level M e g u taken → ((1 ≤ u) → has g u ≡ true) → has g p ≡ true → r ≡ may_in (groups_at g u) u (mem taken) p
