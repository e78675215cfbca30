-- What the small program prints (paper 01, "What the reader takes and gives"): "A small program reads `type.sgm` and `doc.sgm`, lends 16,384
-- numbers" (from request seven of paper 02 on "20,480, so printed lines stay") "and prints `events N`, then a line per event: kind, element
-- name in upper case or `-`, offset, length, one space between. On refusal it prints only `refused N in type at P` or `refused N in document at P`."
use Rattle.std.specs.Prelude.{ℕ, zero, suc, ◌+◌, ◌-◌, ◌*◌, ◌/◌, ◌%◌, ◌≤◌, ◌≡◌, true, false, ◌||◌, List, [], ◌∷◌, ◌++◌, length, eqb, leb}
use Rattle.rules.specs.Settings.{Settings, settings, first_edition}
use Rattle.rules.specs.Bytes.{byte_at, fold, MINUS, SPACE, RS}
use Rattle.rules.specs.Reading.{got}
use Rattle.rules.specs.Attributes.{attribute_at}
use Rattle.rules.specs.TypeFile.{Element}
use Rattle.rules.specs.Judge.{Answer}
use Rattle.rules.specs.Elements.{element_at}
use Rattle.rules.specs.Events.{Event, event_width}
use Rattle.rules.specs.Reader.{Reads, RefusesBoth}

-- Words

-- A number in decimal, with at most so many digits before the last.
unfoldable pub decimal_within : ℕ → ℕ → List ℕ
decimal_within zero n = (48 + n % 10) ∷ []
decimal_within (suc k) n = elim (leb 10 n) [ true ↦ decimal_within k (n / 10) ++ ((48 + n % 10) ∷ []) | false ↦ (48 + n % 10) ∷ [] ]

-- A number in decimal: as many digits before the last as the number counts are enough.
unfoldable pub decimal : ℕ → List ℕ
decimal n = decimal_within n n

-- A word and the byte after it: SPACE, or RS at the end of the line.
unfoldable pub word : List ℕ → ℕ → List ℕ
word x b = x ++ b ∷ []

-- So many bytes from a position on, "in upper case".
unfoldable pub upper : List ℕ → (at size : ℕ) → List ℕ
upper s at zero = []
upper s at (suc n) = fold (byte_at s at) ∷ upper s (at + 1) n

-- Events

-- The "element name in upper case or `-`".
abbrev pub name_text : List ℕ → List Element → ℕ → List ℕ
name_text s es zero = MINUS ∷ []
name_text s es (suc k) = upper s (element_at es k).at (element_at es k).size

-- The number of the element that starts next.
unfoldable pub starts_next : List Event → ℕ
starts_next [] = 0
starts_next (e ∷ ev) = elim (eqb e.kind 1 || eqb e.kind 2) [ true ↦ e.number | false ↦ starts_next ev ]

-- "The attribute's number in its list .. (printed as its name)": of the list of the element that starts next.
abbrev pub attribute_text : List ℕ → List Element → (k a : ℕ) → List ℕ
attribute_text s es k a = let x = attribute_at (element_at es (k - 1)).attributes (a - 1) in upper s x.at x.size

-- The name of an event, before these.
abbrev pub event_text : List ℕ → List Element → Event → List Event → List ℕ
event_text s es e ev =
    elim (eqb e.kind 7 || eqb e.kind 8) [ true ↦ attribute_text s es (starts_next ev) e.number | false ↦ name_text s es e.number ]

-- The line of an event: "kind, element name in upper case or `-`, offset, length, one space between."
unfoldable pub line : (kind : ℕ) → (name : List ℕ) → (offset size : ℕ) → List ℕ
line k x o n = word (decimal k) SPACE ++ (word x SPACE ++ (word (decimal o) SPACE ++ word (decimal n) RS))

unfoldable pub event_lines : List ℕ → List Element → List Event → List ℕ
event_lines s es [] = []
event_lines s es (e ∷ ev) = line e.kind (event_text s es e ev) e.offset e.size ++ event_lines s es ev

-- `events N`, and the lines of the events.
abbrev pub events_word : List ℕ
events_word = 101 ∷ 118 ∷ 101 ∷ 110 ∷ 116 ∷ 115 ∷ 32 ∷ []

unfoldable pub events_text : List ℕ → List Element → List Event → List ℕ
events_text s es ev = events_word ++ (word (decimal (length ev)) RS ++ event_lines s es ev)

-- A refusal

-- `refused N in type at P` and `refused N in document at P`.
abbrev pub refused_word : List ℕ
refused_word = 114 ∷ 101 ∷ 102 ∷ 117 ∷ 115 ∷ 101 ∷ 100 ∷ 32 ∷ []

abbrev pub in_type : List ℕ
in_type = 105 ∷ 110 ∷ 32 ∷ 116 ∷ 121 ∷ 112 ∷ 101 ∷ 32 ∷ 97 ∷ 116 ∷ 32 ∷ []

abbrev pub in_document : List ℕ
in_document = 105 ∷ 110 ∷ 32 ∷ 100 ∷ 111 ∷ 99 ∷ 117 ∷ 109 ∷ 101 ∷ 110 ∷ 116 ∷ 32 ∷ 97 ∷ 116 ∷ 32 ∷ []

unfoldable pub refused_text : (number : ℕ) → (input : List ℕ) → (position : ℕ) → List ℕ
refused_text n x k = refused_word ++ (word (decimal n) SPACE ++ (x ++ word (decimal k) RS))

-- "input 1 is the type, 2 the document."
abbrev pub input_text : ℕ → List ℕ
input_text k = elim (leb 2 k) [ true ↦ in_document | false ↦ in_type ]

-- The whole text

-- "The small program lends 20,480" (paper 02, request seven).
abbrev pub program_room : ℕ
program_room = 20480

-- "The small program gives 8" (paper 02, request six).
abbrev pub program_name_length : ℕ
program_name_length = 8

abbrev pub program_settings : Settings
program_settings = settings program_name_length first_edition

-- The text for the type file s and the document d, read under these settings with that many numbers lent.
pub data Prints (s d text : List ℕ) : Type 0 where
  events : (es : List Element) (ev : List Event) → Reads program_settings s d es (got ev) → event_width * length ev ≤ program_room → text ≡ events_text s es ev → Prints s d text
  refusal : (a : Answer) → RefusesBoth program_settings s d program_room a → text ≡ refused_text a.number (input_text a.input) a.position → Prints s d text
