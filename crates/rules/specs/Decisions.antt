-- What walks determine about a token in an open element (paper 01, "The document").
use Rattle.std.specs.Prelude.{ℕ, ◌-◌, ◌≤◌, ◌≡◌, Bool, true, ◌↔◌, List}
use Rattle.rules.specs.Walk.{Group, Begins, MayComeNext, Complete, Required}
use Rattle.rules.specs.TypeFile.{Place, model, Element, same_name}
use Rattle.rules.specs.Judge.{place_at}
use Rattle.rules.specs.Elements.{element_at, content_of}

-- What is settled: "a start tag, or a data byte (not an ignored one)".
pub data Token : Type 0 where
  start : (number : ℕ) → Token
  pcdata : Token

-- A token's name, as that of a place: `#PCDATA` has the size 0.
abbrev pub token_name : List Element → Token → Place
token_name es (start k) = record { at = (element_at es (k - 1)).at; size = (element_at es (k - 1)).size }
token_name es pcdata = record { at = 0; size = 0 }

-- The place p has the token's name.
abbrev pub has_name : List ℕ → List Element → List Place → Token → ℕ → Bool
has_name s es ps t p = same_name s (token_name es t).at (token_name es t).size (place_at ps (p - 1)).at (place_at ps (p - 1)).size

-- The token fits as the place p, the next after the places taken.
pub record Fits (s : List ℕ) (es : List Element) (g : Group) (ps : List Place) (taken : List ℕ) (t : Token) (p : ℕ) : Type 0 where
  pub name : has_name s es ps t p ≡ true
  pub next : MayComeNext g taken p

-- n is the only place of which P holds, and 0 where there is none: places are numbered from 1.
pub record IsThe (P : ℕ → Type 0) (n : ℕ) : Type 0 where
  pub some : 1 ≤ n → P n
  pub only : (p : ℕ) → P p → n ≡ p

-- What settling asks about an open element, by its number and the places taken in it: the place as which a token fits (0: none), whether
-- its content is complete, and the place required (0: none).
pub record Decisions : Type 0 where
  pub fits : (number : ℕ) (taken : List ℕ) → Token → ℕ
  pub complete : (number : ℕ) (taken : List ℕ) → Bool
  pub required : (number : ℕ) (taken : List ℕ) → ℕ

-- What the walks of the model g say where these places are taken in the element number k, the decisions say.
pub record MeansAt (s : List ℕ) (es : List Element) (D : Decisions) (k : ℕ) (g : Group) (ps : List Place) (taken : List ℕ) : Type 0 where
  pub fits : (t : Token) → IsThe (Fits s es g ps taken t) (D.fits k taken t)
  pub complete : (D.complete k taken ≡ true) ↔ Complete g taken
  pub required : IsThe (Required g taken) (D.required k taken)

-- The decisions say what the walks say for every model, and wherever the places taken begin a walk.
pub record Means (s : List ℕ) (es : List Element) (D : Decisions) : Type 0 where
  pub walks : (k : ℕ) {g : Group} {ps : List Place} {n : ℕ} → content_of es k ≡ model g ps n → (taken : List ℕ) → Begins g taken → MeansAt s es D k g ps taken
