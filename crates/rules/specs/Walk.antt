-- Model groups, their walks and what begins a walk (paper 01, "Walks"; ISO 8879, 11.2.4), with "&" groups (paper 02, request twelve).
use Rattle.std.specs.Prelude.{ℕ, ◌≡◌, ◌⊎◌}
use mathlib.Core.List.{List, [], ◌∷◌, ◌++◌, Memᴰ}

-- A content model. A place is a name or a `#PCDATA` of the model, known by its number.
-- A "," or "|" group of more than two members is the group of all but the last, joined to the last. An "&" group keeps its
-- members: (A & B & C) has the walk A C B, which ((A & B) & C) does not have.
mutual
  pub data Group : Type 0 where
    place : ℕ → Group
    seq : Group → Group → Group
    alt : Group → Group → Group
    opt : Group → Group
    plus : Group → Group
    and : Members → Group

  -- The members of an "&" group: the first, or those before and one more.
  pub data Members : Type 0 where
    one : Group → Members
    also : Members → Group → Members

-- "*" is any number of walks: none, or one or more.
abbrev pub star : Group → Group
star g = opt (plus g)

-- A group without "&" groups, at any depth.
abbrev pub Plain : Group → Type 0
Plain (place n) = n ≡ n
Plain (seq g h) = Plain g × Plain h
Plain (alt g h) = Plain g × Plain h
Plain (opt g) = Plain g
Plain (plus g) = Plain g
Plain (and m) = ⊥

-- "An "&" group may not stand, at any depth, in a token or group that carries "+" or "*", nor carry one" (paper 02, request twelve).
abbrev mutual
  pub Guarded : Group → Type 0
  Guarded (place n) = n ≡ n
  Guarded (seq g h) = Guarded g × Guarded h
  Guarded (alt g h) = Guarded g × Guarded h
  Guarded (opt g) = Guarded g
  Guarded (plus g) = Plain g
  Guarded (and m) = GuardedM m

  pub GuardedM : Members → Type 0
  GuardedM (one g) = Guarded g
  GuardedM (also m g) = GuardedM m × Guarded g

-- One or more sequences of P, one after the other.
pub data Runs (P : List ℕ → Type 0) : List ℕ → Type 0 where
  once : {w : List ℕ} → P w → Runs P w
  more : {w : List ℕ} (s t : List ℕ) → w ≡ s ++ t → P s → Runs P t → Runs P w

-- Sequences one after the other.
abbrev pub joined : List (List ℕ) → List ℕ
joined [] = []
joined (w ∷ ws) = w ++ joined ws

-- "A walk is a sequence of places: through "," each member in turn; through "|" one member;
-- "?" none or one walk, "+" one or more, "*" any number"; through "&" "all members once, in any order" (paper 02, request twelve).
abbrev mutual
  pub Walk : Group → List ℕ → Type 0
  Walk (place p) w = w ≡ p ∷ []
  Walk (seq g h) w = (s : List ℕ) × (t : List ℕ) × (w ≡ s ++ t) × Walk g s × Walk h t
  Walk (alt g h) w = Walk g w ⊎ Walk h w
  Walk (opt g) w = (w ≡ []) ⊎ Walk g w
  Walk (plus g) w = Runs (Walk g) w
  Walk (and m) w = (ws : List (List ℕ)) × (w ≡ joined ws) × Orders m ws

  -- The lists of places are a walk of each member, in any order: that of the last member stands anywhere among those of the members before.
  pub Orders : Members → List (List ℕ) → Type 0
  Orders (one g) ws = (w : List ℕ) × (ws ≡ w ∷ []) × Walk g w
  Orders (also m g) ws = (a : List (List ℕ)) × (b : List (List ℕ)) × (w : List ℕ) × (ws ≡ a ++ w ∷ b) × Orders m (a ++ b) × Walk g w

-- "A sequence of places begins a walk, and is a beginning of it, if it is the first places of that walk, from none to all of them."
abbrev pub Begins : Group → List ℕ → Type 0
Begins g s = (t : List ℕ) × Walk g (s ++ t)

-- The last of the places after u, u if there is none; the last of a sequence of places, 0 if it has none.
abbrev pub last_from : ℕ → List ℕ → ℕ
last_from u [] = u
last_from u (p ∷ s) = last_from p s

abbrev pub last_or0 : List ℕ → ℕ
last_or0 s = last_from 0 s

-- "A place may come next if the places taken, with it, begin a walk."
abbrev pub MayComeNext : Group → List ℕ → ℕ → Type 0
MayComeNext g s p = Begins g (s ++ p ∷ [])

-- "Content is complete if the places taken are a walk."
abbrev pub Complete : Group → List ℕ → Type 0
Complete g s = Walk g s

-- "&" groups around a place

-- The place p is one of the group's, of a member's.
abbrev mutual
  pub HasPlace : Group → ℕ → Type 0
  HasPlace (place n) p = n ≡ p
  HasPlace (seq g h) p = HasPlace g p ⊎ HasPlace h p
  HasPlace (alt g h) p = HasPlace g p ⊎ HasPlace h p
  HasPlace (opt g) p = HasPlace g p
  HasPlace (plus g) p = HasPlace g p
  HasPlace (and m) p = SomeHasPlace m p

  pub SomeHasPlace : Members → ℕ → Type 0
  SomeHasPlace (one g) p = HasPlace g p
  SomeHasPlace (also m g) p = SomeHasPlace m p ⊎ HasPlace g p

-- The group h is a member.
abbrev pub IsMember : Members → Group → Type 0
IsMember (one g) h = h ≡ g
IsMember (also m g) h = IsMember m h ⊎ (h ≡ g)

-- The group h is another member of an "&" group, at any depth, in which a member has the place p.
abbrev mutual
  pub IsOther : Group → ℕ → Group → Type 0
  IsOther (place n) p h = ⊥
  IsOther (seq g k) p h = IsOther g p h ⊎ IsOther k p h
  IsOther (alt g k) p h = IsOther g p h ⊎ IsOther k p h
  IsOther (opt g) p h = IsOther g p h
  IsOther (plus g) p h = IsOther g p h
  IsOther (and m) p h = IsOtherOf m p h

  pub IsOtherOf : Members → ℕ → Group → Type 0
  IsOtherOf (one g) p h = IsOther g p h
  IsOtherOf (also m g) p h = (IsOtherOf m p h ⊎ IsOther g p h) ⊎ ((HasPlace g p × IsMember m h) ⊎ (SomeHasPlace m p × (h ≡ g)))

-- The group h, a member of an "&" group of g, may still begin where the places s are taken in g: none of its places was taken, and one of them
-- may come next.
abbrev pub MayBegin : Group → List ℕ → Group → Type 0
MayBegin g s h = ((p : ℕ) → HasPlace h p → Memᴰ p s → ⊥) × (q : ℕ) × HasPlace h q × MayComeNext g s q

-- "A place is required if it may come next and every walk that continues the places taken passes it from here on
-- (the places taken count as such a walk if they are one)", "and no place in a member of an "&" group is required while another member
-- may still begin" (paper 02, request twelve).
pub record Required (g : Group) (s : List ℕ) (p : ℕ) : Type 0 where
  pub next : MayComeNext g s p
  pub passed : (t : List ℕ) → Walk g (s ++ t) → Memᴰ p t
  pub alone : (h : Group) → IsOther g p h → MayBegin g s h → ⊥
