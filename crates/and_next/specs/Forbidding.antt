-- Which members forbid a place, in the terms of the groups around it and around the last place, and of the table that has them.
use Rattle.std.specs.Prelude.{ℕ, ◌%◌, ◌≤◌, ◌<◌, ◌≡◌, Bool, true, false, ◌&&◌, ◌||◌, not, List, eqb}
use Rattle.rules.specs.Walk.{Group}
use Rattle.layout.specs.Sizes.{POSITIONS, ENDING}
use Rattle.and_laws.specs.Sets.{Good}
use Rattle.and_laws.specs.Levels.{may_in}
use Rattle.and_laws.specs.Ranked.{Level, groups_of, Rising, levels}
use Rattle.member_laws.specs.Members.{is_needed, holds_at, among_at, AllSets, Chain, begun_at, AllMarked}
use Rattle.member_laws.specs.Inside.{EachLevel, IsAround}
use Rattle.member_bits.specs.declared.Bits.{Bits}
use Rattle.member_bits.specs.Having.{Has}

-- The group n and those around it lack nothing.
pub record IsFull (M : List ℕ) (e n : ℕ) (b : Bits) (r : Bool) : Type 0 where
  pub none : r ≡ true → (B : ℕ → Bool) → Has b B → (m : ℕ) → 1 ≤ m → m < POSITIONS → (among_at M e n m && is_needed M e m) && not (B m) ≡ false
  pub some : r ≡ false → (B : ℕ → Bool) → Has b B → (m : ℕ) × (1 ≤ m) × (m < POSITIONS) × ((among_at M e n m && is_needed M e m) && not (B m) ≡ true)

-- The member m must come in a group of u, which has the members `around`, that p is not in, and has not begun; or it holds p in a group of u, not u, and has.
abbrev pub bad : (around beside needed begun hold own : ℕ → Bool) → ℕ → Bool
bad around beside needed begun hold own m = (((around m && not (beside m)) && needed m) && not (begun m)) || (((hold m && not (own m)) && around m) && begun m)

-- There is none such, where u is in the member h of the group n and p in the member i of the group q.
pub record IsLeft (M : List ℕ) (e h n i q : ℕ) (b : Bits) (r : Bool) : Type 0 where
  pub none : r ≡ true → (B : ℕ → Bool) → Has b B → (m : ℕ) → 1 ≤ m → m < POSITIONS → bad (among_at M e n) (among_at M e q) (is_needed M e) B (λ (x : ℕ). holds_at M e q x || eqb x i) (λ (x : ℕ). holds_at M e n x || eqb x h) m ≡ false
  pub some : r ≡ false → (B : ℕ → Bool) → Has b B → (m : ℕ) × (1 ≤ m) × (m < POSITIONS) × (bad (among_at M e n) (among_at M e q) (is_needed M e) B (λ (x : ℕ). holds_at M e q x || eqb x i) (λ (x : ℕ). holds_at M e n x || eqb x h) m ≡ true)

-- The last place u of a model and another, p, which the members h and i hold, and what has begun.
pub record Pair (M : List ℕ) (e h i : ℕ) (b : Bits) : Type 0 where
  pub sets : AllSets M e
  pub begun : List ℕ
  pub level : ℕ
  pub has : Has b (begun_at begun level)
  pub model : Group
  pub good : Good model
  pub u : ℕ
  pub p : ℕ
  pub S : ℕ → Bool
  pub x : ℕ
  pub y : ℕ
  pub c : ℕ
  pub d : ℕ
  pub us : List Level
  pub u_read : h ≡ x % ENDING
  pub p_read : i ≡ y % ENDING
  pub u_chain : Chain M e u true x us
  pub p_chain : Chain M e p true y (levels model 0 p)
  pub u_rising : Rising 0 c us
  pub p_rising : Rising 0 d (levels model 0 p)
  pub u_around : EachLevel (IsAround model 0 u) us
  pub p_around : EachLevel (IsAround model 0 p) (levels model 0 p)
  pub marked : AllMarked begun level M e S us

-- Whether p may come next.
pub record Comes (M : List ℕ) (e h i : ℕ) (b : Bits) (r : Bool) : Type 0 where
  pub says : (w : Pair M e h i b) → r ≡ may_in (groups_of w.us) w.u w.S w.p
