-- What the tables of a type say, in the rules' terms: the decisions of the walks, by the last place taken and by what has begun of "&" groups.
use Rattle.std.specs.Prelude.{ℕ, zero, suc, ◌+◌, ◌-◌, ◌*◌, ◌/◌, ◌%◌, ◌≤◌, ◌≡◌, Bool, true, false, cond, List, length, get_or, eqb, leb}
use Rattle.rules.specs.Settings.{Settings}
use Rattle.rules.specs.Walk.{Group, Begins, MayComeNext}
use Rattle.rules.specs.TypeFile.{Place, Content, empty, model, Element}
use Rattle.rules.specs.Judge.{Accepts, place_at}
use Rattle.rules.specs.Elements.{element_at, number_of, start_o, content_of, places_in, has_model}
use Rattle.rules.specs.Decisions.{Token, start, pcdata, has_name}
use Rattle.rules.specs.Settling.{Open}
use Rattle.rules.specs.Bytes.{GRPGTCNT, element_limit}
use Rattle.layout.specs.Sizes.{POSITIONS, FACT, END_OMITTED, HAS_MODEL, PCDATA, RAISE, REQUIRED, START_OMITTED, LINK}
use Rattle.model_sets.specs.Sets.{next_in, complete_in, required_in}
use Rattle.and_laws.specs.Sets.{Plain}
use Rattle.member_laws.specs.Members.{Told, Standing}
use Rattle.document_laws.specs.Decide.{search}
pub use Rattle.row_search.specs.Rows.{row_at, bit_of}

-- How many places the model of the element number e has; EMPTY has none.
abbrev pub width : List Element → ℕ → ℕ
width es e = length (places_in (content_of es e))

-- A token's name as the tables have it: the element's number, 0 for `#PCDATA`.
abbrev pub name_number : Token → ℕ
name_number (start k) = k
name_number pcdata = 0

-- A start tag's element is declared.
abbrev pub Declares : List Element → Token → Type 0
Declares es (start k) = (1 ≤ k) × (k ≤ length es)
Declares es pcdata = Unit {0}

-- The tables

-- A number that is a place, or 0: in the tables of a type no other stands where a place is kept.
abbrev pub place_or0 : ℕ → ℕ
place_or0 n = elim (leb n GRPGTCNT) [ true ↦ n | false ↦ 0 ]

-- What the row of the element e after the place u has for "complete", and for the required place.
abbrev pub complete_at : List ℕ → (e u : ℕ) → Bool
complete_at rows e u = eqb (get_or rows (row_at e u) 0 % 2) 1

abbrev pub required_at : List ℕ → (e u : ℕ) → ℕ
required_at rows e u = place_or0 (get_or rows (row_at e u + REQUIRED) 0)

-- What the rows of a model have: the place p may come next after the place u, for some beginning that ends there; the content may be complete there; the
-- place that is then required.
abbrev pub next_row : Content → (u p : ℕ) → Bool
next_row empty u p = false
next_row (model g ps n) u p = next_in g u p

abbrev pub complete_row : Content → ℕ → Bool
complete_row empty u = true
complete_row (model g ps n) u = complete_in g u

abbrev pub required_row : Content → ℕ → ℕ
required_row empty u = 0
required_row (model g ps n) u = required_in g u

-- A number of a model with an "&" is kept higher by `RAISE`: the required place after a place, and the largest place of a name.
abbrev pub raised_at : Bool → (u n : ℕ) → ℕ
raised_at b zero n = n
raised_at b (suc u) n = cond b (RAISE + n) n

abbrev pub raised_place : Bool → ℕ → ℕ
raised_place b zero = 0
raised_place b (suc p) = cond b (RAISE + suc p) (suc p)

-- The place q is what a number is which may be raised; 0 where it is none.
pub record Lowered (p q : ℕ) : Type 0 where
  pub small : q ≤ GRPGTCNT
  pub low : p ≤ GRPGTCNT → q ≡ p
  pub high : (n : ℕ) → p ≡ RAISE + n → n ≤ GRPGTCNT → q ≡ n

-- `raised` says of which elements the numbers are raised.
pub record Rows (es : List Element) (raised : ℕ → Bool) (rows : List ℕ) : Type 0 where
  pub next : (e u p : ℕ) → e ≤ length es → u ≤ width es e → 1 ≤ p → p ≤ GRPGTCNT → bit_of (get_or rows (row_at e u + p / 8) 0) (p % 8) ≡ next_row (content_of es e) u p
  pub complete : (e u : ℕ) → e ≤ length es → u ≤ width es e → complete_at rows e u ≡ complete_row (content_of es e) u
  pub required : (e u : ℕ) → e ≤ length es → u ≤ width es e → get_or rows (row_at e u + REQUIRED) 0 ≡ raised_at (raised e) u (required_row (content_of es e) u)

-- What the place p of a model names: an element, `PCDATA`, 0 if that is not declared.
abbrev pub named_by : List ℕ → List Element → List Place → ℕ → ℕ
named_by s es ps p = cond (eqb (place_at ps (p - 1)).size 0) PCDATA (number_of s es s (place_at ps (p - 1)).at (place_at ps (p - 1)).size)

pub record Places (s : List ℕ) (es : List Element) (places : List ℕ) : Type 0 where
  pub named : (e p : ℕ) → e ≤ length es → 1 ≤ p → p ≤ width es e → get_or places ((e * POSITIONS + p) * LINK) 0 ≡ named_by s es (places_in (content_of es e)) p
  pub smaller : (e p : ℕ) (t : Token) → e ≤ length es → 1 ≤ p → p ≤ width es e → Declares es t → has_name s es (places_in (content_of es e)) t p ≡ true → get_or places ((e * POSITIONS + p) * LINK + 1) 0 ≡ search (has_name s es (places_in (content_of es e)) t) (p - 1)

pub record Facts (s : List ℕ) (es : List Element) (raised : ℕ → Bool) (facts : List ℕ) : Type 0 where
  pub largest : (e : ℕ) (t : Token) → e ≤ length es → Declares es t → get_or facts (e * FACT + name_number t) 0 ≡ raised_place (raised e) (search (has_name s es (places_in (content_of es e)) t) (width es e))
  pub start : (e : ℕ) → 1 ≤ e → e ≤ length es → eqb (get_or facts (e * FACT + START_OMITTED) 0) 1 ≡ start_o es e
  pub end : (e : ℕ) → 1 ≤ e → e ≤ length es → get_or facts (e * FACT + END_OMITTED) 0 ≡ (element_at es (e - 1)).end
  pub has : (e : ℕ) → 1 ≤ e → e ≤ length es → get_or facts (e * FACT + HAS_MODEL) 0 ≡ cond (has_model (content_of es e)) 1 0

-- A model without "&", and one whose members the table M tells.
abbrev pub PlainIn : Content → Type 0
PlainIn empty = Unit {0}
PlainIn (model g ps n) = Plain g

abbrev pub ToldIn : (M : List ℕ) (e : ℕ) → Content → Type 0
ToldIn M e empty = Unit {0}
ToldIn M e (model g ps n) = Told M e g

-- The tables are those of a type that is accepted under some settings: what is asked of them does not depend on which.
pub record Tables (s : List ℕ) (es : List Element) (rows places facts M : List ℕ) : Type 0 where
  pub settings : Settings
  pub accepted : Accepts settings s es
  pub few : length es ≤ element_limit
  pub raised : ℕ → Bool
  pub rows_say : Rows es raised rows
  pub places_say : Places s es places
  pub facts_say : Facts s es raised facts
  pub plain : (e : ℕ) → e ≤ length es → raised e ≡ false → PlainIn (content_of es e)
  pub told : (e : ℕ) → e ≤ length es → raised e ≡ true → ToldIn M e (content_of es e)

-- Open elements

-- The element number e, of which u is the place that was taken last, 0 for none, stands for the rules' open element o: the places taken begin a walk, u is
-- the last of them, and the bits of the level are those of the members that have begun.
pub record Entered (es : List Element) (M begun : List ℕ) (level e u : ℕ) (o : Open) : Type 0 where
  pub number : o.element ≡ e
  pub declared : e ≤ length es
  pub place : u ≤ width es e
  pub begins : {g : Group} {ps : List Place} {n : ℕ} → content_of es e ≡ model g ps n → Begins g o.taken
  pub stands : {g : Group} {ps : List Place} {n : ℕ} → content_of es e ≡ model g ps n → Standing begun level M e g u o.taken

-- The open element o can take the place p.
pub record CanTake (es : List Element) (o : Open) (p : ℕ) : Type 0 where
  pub group : Group
  pub places : List Place
  pub tokens : ℕ
  pub content : content_of es o.element ≡ model group places tokens
  pub next : MayComeNext group o.taken p
