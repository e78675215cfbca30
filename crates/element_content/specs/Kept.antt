-- What is kept of the content of an element, in the rules' terms.
use Rattle.std.specs.Prelude.{ℕ, zero, suc, false, Option, Some, None, Result, Ok, Err, ◌≤◌, ◌≡◌, ◌&&◌, cond, List, length, ltb, refl}
use Rattle.std.proofs.Common.{arith}
use Rattle.rules.specs.Reading.{Reading, refused, got}
use Rattle.rules.specs.TypeFile.{Content, empty, model, ContentEnd, is_cut, EMPTY}
use Rattle.rules.specs.TypeFile as rules
use Rattle.rules.specs.Walk.{Group}
use Rattle.rules.specs.Bytes.{GRPGTCNT}
use Rattle.model_sets.specs.Sets.{size, Numbered}
use Rattle.layout.specs.Sizes.{CODE}
use Rattle.and_laws.specs.Sets.{Plain}
use Rattle.and_laws.specs.Numbers.{Guarded}
use Rattle.model_table.specs.Shows.{Says}
use Rattle.model_code.specs.Spelled.{codes, code_in}
use Rattle.model_names.specs.Places.{places_of}
use Rattle.text.specs.declared.Fault.{Fault}
use Rattle.element_content.specs.declared.Body.{Body}
use Rattle.element_content.specs.declared.Model.{Model}

-- Where a word from i to e that is no content makes number 4 stand.
abbrev pub wrong_word : List ℕ → (from i e : ℕ) → ℕ
wrong_word s from i e = cond (ltb from i && is_cut s i e EMPTY) (length s) i

-- The rules' position of an "&", which is 0 where there is none.
abbrev pub place : ℕ → Option ℕ
place zero = None
place (suc k) = Some (suc k)

pub place_none : (n : ℕ) → place n ≡ None → n ≡ 0
place_none zero q = refl
place_none (suc n) q = cc

pub place_some : (n : ℕ) {i : ℕ} → place n ≡ Some i → (i ≡ n) × (n ≡ 0 → ⊥)
place_some zero q = cc
place_some (suc n) q = (cc, λ e. omega arith)

-- Where no place is given there is none.
pub place_absent : (n : ℕ) → ((i : ℕ) → place n ≡ Some i → ⊥) → n ≡ 0
place_absent zero q = refl
place_absent (suc n) q = absurd (q (suc n) refl)

-- Where the first "&" of a content stands that is refused.
abbrev pub repeated_of : Option Model → Option ℕ
repeated_of None = None
repeated_of (Some m) = m.repeated

-- A model as its names and its table hold it; its places are numbered from 1. Behind the rows of the table the model is spelled. Where `and` is false the
-- model has no "&", where `repeated` is none no "&" that is refused.
pub record KeepsModel (names table : List ℕ) (m : Model) (g : Group) (ps : List rules.Place) : Type 0 where
  pub names_hold : places_of names m.places ≡ ps
  pub counted : m.places ≡ length ps
  pub says : Says g table
  pub room : m.code ≤ CODE
  pub spelled : code_in table m.code ≡ codes g
  pub plain : m.and ≡ false → Plain g
  pub guarded : m.repeated ≡ None → Guarded g
  pub numbered : Numbered g 1
  pub sized : size g ≡ m.places
  pub places_in_lem : m.places ≤ GRPGTCNT

-- The content's kind, content tokens and model.
abbrev pub KeepsContent : (names table : List ℕ) → Option Model → Content → Type 0
KeepsContent names table None empty = Unit {0}
KeepsContent names table None (model g ps n) = ⊥
KeepsContent names table (Some m) empty = ⊥
KeepsContent names table (Some m) (model g ps n) = (m.tokens ≡ n) × (n ≤ GRPGTCNT) × KeepsModel names table m g ps

-- A model has at most 96 places.
pub content_places : (names table : List ℕ) (m : Model) (c : Content) → KeepsContent names table (Some m) c → m.places ≤ GRPGTCNT
content_places names table m empty k = absurd k
content_places names table m (model g ps n) k = k.2.places_in_lem

-- What is kept of the content of an input of `end` bytes.
pub record KeepsBody (end : ℕ) (names table : List ℕ) (b : Body) (c : ContentEnd) : Type 0 where
  pub at : b.at ≡ c.at
  pub at_in : c.at ≤ end
  pub repeated_at : repeated_of b.model ≡ place c.repeated
  pub content : KeepsContent names table b.model c.content

abbrev pub MeetsBody : (end : ℕ) (names table : List ℕ) → Result Body Fault → Reading ContentEnd → Type 0
MeetsBody end names table (Ok b) (got c) = KeepsBody end names table b c
MeetsBody end names table (Ok b) (refused n k) = ⊥
MeetsBody end names table (Err f) (got c) = ⊥
MeetsBody end names table (Err f) (refused n k) = (f.number ≡ n) × (f.at ≡ k)
