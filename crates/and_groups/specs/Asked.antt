-- What is asked of the sets when a place is taken, in the terms of the groups around it and of the table that has them.
use Rattle.std.specs.Prelude.{ℕ, ◌-◌, ◌%◌, ◌≤◌, ◌<◌, ◌≡◌, Bool, true, false, ◌||◌, List}
use Rattle.rules.specs.Walk.{Group}
use Rattle.rules.specs.Bytes.{GRPGTCNT}
use Rattle.layout.specs.Sizes.{AND_GROUPS, ENDING}
use Rattle.model_sets.specs.Sets.{has_m}
use Rattle.and_laws.specs.Req.{required_rest}
use Rattle.and_laws.specs.Levels.{blocks_in, lone_in}
use Rattle.and_laws.specs.Ranked.{Level, groups_of, Rising}
use Rattle.member_laws.specs.Members.{group_at, is_own, AllSets, Ordered, Grouped, Chain, begun_at, Marked, AllMarked}
use Rattle.member_laws.specs.Inside.{EachLevel, IsAround}
use Rattle.member_laws.specs.Around.{is_holder}
use Rattle.member_laws.specs.Sets.{any_own}
use Rattle.member_bits.specs.declared.Bits.{Bits}
use Rattle.member_bits.specs.Having.{Has}

-- The members around the place u, from the holder on, have begun besides those that had.
pub record Enters (M : List ℕ) (e h : ℕ) (before after : Bits) : Type 0 where
  pub bits : AllSets M e → (B : ℕ → Bool) → Has before B → (u : ℕ) (ends : Bool) (x c : ℕ) (ls : List Level) → h ≡ x % ENDING → Chain M e u ends x ls → Rising 0 c ls → EachLevel (λ (l : Level). has_m l.members u ≡ true) ls → Has after (λ (n : ℕ). B n || is_holder M e u n ls)

-- The number x is that of the first member of the group l, one of the groups ls, that must come and has not begun.
pub record Awaits (M begun : List ℕ) (level e : ℕ) (ls : List Level) (l : Level) (x : ℕ) : Type 0 where
  pub own : is_own M e l.number x ≡ true
  pub unset : begun_at begun level x ≡ false
  pub before : (n : ℕ) → is_own M e l.number n ≡ true → n < x → begun_at begun level n ≡ true
  pub inside : (n : ℕ) → is_own M e l.number n ≡ true → any_own M e n ls ≡ true

-- Which of the groups around p blocks: none, or the first that lacks a member, and then r is the first that it lacks.
pub data Blocking (M begun : List ℕ) (level e : ℕ) (g : Group) (p : ℕ) (S : ℕ → Bool) (ls : List Level) (r : ℕ) : Type 0 where
  free : r ≡ 0 → blocks_in (groups_of ls) p S ≡ false → Blocking M begun level e g p S ls r
  held : 1 ≤ r → (l : Level) → Awaits M begun level e ls l r → Grouped M e l → Marked begun level M e S l → IsAround g 0 p l → blocks_in (groups_of ls) p S ≡ true → lone_in (groups_of ls) S ≡ required_rest l.members S → Blocking M begun level e g p S ls r

pub record Blocks (M : List ℕ) (e inner : ℕ) (b : Bits) (r : ℕ) : Type 0 where
  pub small : r ≤ 128
  pub ends : 1 ≤ r → ENDING < inner
  pub group : 1 ≤ r → group_at M e (inner - ENDING) ≤ AND_GROUPS
  pub says : AllSets M e → Ordered M e → (begun : List ℕ) (level : ℕ) → Has b (begun_at begun level) → (g : Group) (p : ℕ) (S : ℕ → Bool) (ls : List Level) (c : ℕ) → Chain M e p true inner ls → Rising 0 c ls → EachLevel (IsAround g 0 p) ls → AllMarked begun level M e S ls → Blocking M begun level e g p S ls r

-- The member y, or 0, is none of the group of x.
pub record Alone (M : List ℕ) (e x y : ℕ) (r : Bool) : Type 0 where
  pub yes : r ≡ true → 1 ≤ y → group_at M e y ≡ group_at M e x → ⊥
  pub no : r ≡ false → (1 ≤ y) × (group_at M e y ≡ group_at M e x)

-- The place that the member x requires, for which a group around p waits, where it is the only one of its group that has not begun, or 0.
pub record Due (M : List ℕ) (e inner x : ℕ) (b : Bits) (r : ℕ) : Type 0 where
  pub small : r ≤ GRPGTCNT
  pub says : AllSets M e → (begun : List ℕ) (level : ℕ) → Has b (begun_at begun level) → (p : ℕ) (S : ℕ → Bool) (c : ℕ) (ls : List Level) → Chain M e p true inner ls → Rising 0 c ls → EachLevel (λ (l : Level). has_m l.members p ≡ true) ls → (l : Level) → Awaits M begun level e ls l x → Grouped M e l → Marked begun level M e S l → required_rest l.members S ≤ GRPGTCNT → r ≡ required_rest l.members S
