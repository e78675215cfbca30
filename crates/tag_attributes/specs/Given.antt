-- The attributes that a start tag gives, as the code keeps them: the first ATTCNT + 1, four numbers each.
use Rattle.std.specs.Prelude.{ℕ, Result, zero, suc, ◌+◌, ◌*◌, ◌≤◌, ◌<◌, ◌≡◌, List, [], ◌∷◌, ◌++◌, get_or, take}
use Rattle.rules.specs.Bytes.{ATTCNT}
use Rattle.rules.specs.Reading.{Reading}
use Rattle.rules.specs.Document as rules
use Rattle.text.specs.declared.Fault.{Fault}
use Rattle.text.specs.Refusal.{reading}
use Rattle.layout.specs.Sizes.{WRITTEN}
use Rattle.tag_attributes.specs.declared.Written.{Written}

-- The rules' attribute that one of the code stands for.
abbrev pub written_as : Written → rules.Written
written_as w = record { at = w.name; size = w.size; quote = w.quote; width = w.width }

abbrev pub written_of : Result Written Fault → Reading rules.Written
written_of r = reading written_as r

-- The four numbers of the n-th, from 0.
abbrev pub kept_in : List ℕ → (n : ℕ) → Written
kept_in g n = record { name = get_or g (WRITTEN * n) 0; size = get_or g (WRITTEN * n + 1) 0; quote = get_or g (WRITTEN * n + 2) 0; width = get_or g (WRITTEN * n + 3) 0 }

-- Each of them fits 16 bits.
abbrev pub WrittenFits : Written → Type 0
WrittenFits w = (w.name < 65536) × (w.size < 65536) × (w.quote < 65536) × (w.width < 65536)

-- The first n, in the order in which they stand in the tag.
unfoldable pub kept_of : List ℕ → (n : ℕ) → List rules.Written
kept_of g zero = []
kept_of g (suc n) = kept_of g n ++ written_as (kept_in g n) ∷ []

-- Of the attributes ws of a tag the first ATTCNT + 1 are kept, or all.
pub record KeptAs (g : List ℕ) (n : ℕ) (ws : List rules.Written) : Type 0 where
  pub few : n ≤ ATTCNT + 1
  pub kept : kept_of g n ≡ take (ATTCNT + 1) ws

-- Name and literal of an attribute stand within so many bytes.
abbrev pub WrittenIn : (end : ℕ) → Written → Type 0
WrittenIn end w = (w.name + w.size ≤ end) × (w.quote + w.width + 1 < end)

-- Those of each that is kept.
abbrev pub GivenIn : (end : ℕ) → List ℕ → (n : ℕ) → Type 0
GivenIn end g n = (k : ℕ) → k < n → WrittenIn end (kept_in g k)

-- One more is kept, behind n others, unless ATTCNT + 1 are.
pub record Keeps (g : List ℕ) (n : ℕ) (w : Written) (g' : List ℕ) (m : ℕ) : Type 0 where
  pub more : n ≤ ATTCNT → (m ≡ n + 1) × (kept_in g' n ≡ w) × ((k : ℕ) → k < n → kept_in g' k ≡ kept_in g k)
  pub enough : ATTCNT < n → (m ≡ n) × (g' ≡ g)
