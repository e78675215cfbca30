-- What it means that what is read of a type file stands in it and keeps the quantities.
use Rattle.std.specs.Prelude.{ℕ, zero, suc, ◌+◌, ◌≤◌, ◌<◌, ◌≡◌, true, length}
use mathlib.Core.List.{List, [], ◌∷◌, ◌++◌, Memᴰ}
use Rattle.std.proofs.Common.{arith, length-append}
use Rattle.rules.specs.Bytes.{byte_at, letter, GRPGTCNT, element_limit}
use Rattle.rules.specs.TypeFile.{Place, Content, empty, model, Element}
use Rattle.rules.specs.Judge.{place_at}

-- A position in the input, its end counted in.
abbrev pub In : List ℕ → ℕ → Type 0
In s i = i ≤ length s

-- P holds of every member.
pub data All {A : Type 0} (P : A → Type 0) : List A → Type 0 where
  none : All P []
  more : {x : A} {xs : List A} → P x → All P xs → All P (x ∷ xs)

pub all_snoc : {A : Type 0} {P : A → Type 0} {xs : List A} {x : A} → All P xs → P x → All P (xs ++ x ∷ [])
all_snoc none p = more p none
all_snoc (more q a) p = more q (all_snoc a p)

pub all_mem : {A : Type 0} {P : A → Type 0} {xs : List A} {x : A} → All P xs → Memᴰ x xs → P x
all_mem none m = elim m [ ]
all_mem (more p a) (Memᴰ.head e) = rw e p
all_mem (more p a) (Memᴰ.tail m) = all_mem a m

pub record PlaceIn (s : List ℕ) (x : Place) : Type 0 where
  pub begins : x.at < length s
  pub ends : x.at + x.size ≤ length s
  pub named : 1 ≤ x.size → letter (byte_at s x.at) ≡ true

-- Past the last place it is 0.
pub place_at_in : {s : List ℕ} {ps : List Place} → All (PlaceIn s) ps → (k : ℕ) → (place_at ps k).at ≤ length s
unfolding place_at
place_at_in none k = omega arith
place_at_in (more p a) zero = omega arith
place_at_in (more p a) (suc k) = place_at_in a k

-- The places and content tokens of a model.
pub record Fits (s : List ℕ) (ps : List Place) (n : ℕ) : Type 0 where
  pub places : All (PlaceIn s) ps
  pub counted : length ps ≤ n
  pub few : n ≤ GRPGTCNT

pub fits_none : (s : List ℕ) → Fits s [] 0
fits_none s = record { places = none; counted = omega arith; few = omega arith }

-- A further content token that is a group, and one that is a place.
pub fits_group : {s : List ℕ} {ps : List Place} {n : ℕ} → Fits s ps n → n < GRPGTCNT → Fits s ps (n + 1)
fits_group f h = record { places = f.places; counted = omega arith; few = omega arith }

pub fits_place : {s : List ℕ} {ps : List Place} {n : ℕ} {x : Place} → Fits s ps n → n < GRPGTCNT → PlaceIn s x → Fits s (ps ++ x ∷ []) (n + 1)
fits_place {s} {ps} {n} {x} f h p = record { places = all_snoc f.places p; counted = omega (arith, length-append ps (x ∷ [])); few = omega arith }

abbrev pub ContentIn : List ℕ → Content → Type 0
ContentIn s empty = Unit {0}
ContentIn s (model g ps n) = Fits s ps n

-- A name at i.
pub record NameIn (s : List ℕ) (i size : ℕ) : Type 0 where
  pub some : 1 ≤ size
  pub ends : i + size ≤ length s

pub record ElementIn (s : List ℕ) (e : Element) : Type 0 where
  pub name : NameIn s e.at e.size
  pub start : e.start ≤ 1
  pub end : e.end ≤ 1
  pub content : ContentIn s e.content

pub record ElementsIn (s : List ℕ) (es : List Element) : Type 0 where
  pub few : length es ≤ element_limit
  pub each : All (ElementIn s) es
