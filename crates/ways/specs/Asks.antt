-- What settling asks of the current element, by counts: what the contracts cite.
use Rattle.std.specs.Prelude.{ℕ, zero, suc, ◌≤◌, ◌≡◌, refl, Bool, false, ◌&&◌, List, [], ◌∷◌, length, leb}
use Rattle.std.proofs.Common.{arith}
use Rattle.rules.specs.TypeFile.{Element}
use Rattle.rules.specs.Elements.{end_o}
use Rattle.rules.specs.Decisions.{Token, start, pcdata, Decisions}
use Rattle.rules.specs.Settling.{is_complete}
use Rattle.rules.specs.Settling as rules
use Rattle.layout.specs.Typed.{place_no}
use Rattle.document_laws.specs.Decide.{decided}
use Rattle.type_tables.specs.Tables.{name_number, Declares, Facts, Entered}
use Rattle.open_elements.specs.declared.OpenElements.{OpenElements}
use Rattle.open_elements.specs.Stands.{Stands}
use Rattle.ways.specs.declared.Way.{Way}
use Rattle.ways.specs.declared.Way.TheVariants.{Taken, Inferred, Stuck}

-- The token whose name has this number.
abbrev pub token_of : ℕ → Token
token_of zero = pcdata
token_of (suc k) = start (suc k)

pub token_of_number : (x : ℕ) → name_number (token_of x) ≡ x
token_of_number zero = refl
token_of_number (suc k) = refl

pub token_of_declared : (es : List Element) (x : ℕ) → x ≤ length es → Declares es (token_of x)
token_of_declared es zero l = tt
token_of_declared es (suc k) l = (omega arith, l)

-- Steps 1 and 2: the token fits as the place f, or else so many starts are inferred, or neither.
abbrev pub way_of : (f starts : ℕ) → Way
way_of zero zero = Stuck
way_of zero (suc n) = Inferred (suc n)
way_of (suc f) n = Taken (place_no (suc f))

module _ (s : List ℕ) (es : List Element) (D : Decisions) where
  -- How many starts the chain has, 0 if there is none.
  abbrev pub chained : Token → rules.Open → ℕ
  chained t o = length (rules.chain s es D (length es) t o)

  -- Step 3: the content is complete, the end is "O", and the parent is not the document itself.
  abbrev pub may_end : rules.Open → List rules.Open → Bool
  may_end o [] = false
  may_end o (u ∷ us) = is_complete s es D o && (end_o es o.element && leb 1 u.element)

-- The element e stands for the rules' open element o, in which the place q is required, or none where q is 0.
pub record Requires (s : List ℕ) (es : List Element) (M : List ℕ) (e q : ℕ) (o : rules.Open) : Type 0 where
  pub begun : List ℕ
  pub level : ℕ
  pub place : ℕ
  pub entered : Entered es M begun level e place o
  pub required : q ≡ rules.required_place s es (decided s es) o

-- Whether the end of the current element is inferred.
abbrev pub MayEnd : (facts : List ℕ) → OpenElements → Bool → Type 0
MayEnd facts o b =
    (s : List ℕ) (es : List Element) (raised : ℕ → Bool) → Facts s es raised facts → (M begun : List ℕ) (z : rules.State) → Stands es M begun o z → b ≡ may_end s es (decided s es) z.current z.around

-- By what was found of the current element: how many starts are inferred, the place as which the token fits at once, and the place that is
-- taken, or 0, where f is the place as which it fits after the starts.
abbrev pub starts_of : Way → ℕ
starts_of (Taken p) = 0
starts_of (Inferred n) = n
starts_of Stuck = 0

abbrev pub fit_of : Way → ℕ
fit_of (Taken p) = p.0
fit_of (Inferred n) = 0
fit_of Stuck = 0

abbrev pub place_of : (f : ℕ) → Way → ℕ
place_of f (Taken p) = p.0
place_of f (Inferred n) = f
place_of f Stuck = 0
