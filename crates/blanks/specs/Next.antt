-- What comes next at a position of a document under the settings c and a type, in the rules' terms: what
-- stands there, in the element that is open.
use Rattle.std.specs.Prelude.{ℕ, ◌+◌, ◌-◌, ◌≤◌, ◌<◌, ◌≡◌, true, List}
use Rattle.rules.specs.Settings.{Settings}
use Rattle.rules.specs.Reading.{got}
use Rattle.rules.specs.TypeFile.{Element}
use Rattle.rules.specs.Document.{Written, Tag, start_tag, end_tag, skipped, blank, piece}
use Rattle.rules.specs.Document as rules
use Rattle.rules.specs.Elements.{element_at, number_of}
use Rattle.rules.specs.Decisions.{pcdata}
use Rattle.rules.specs.Settling.{Open, fitting}
use Rattle.rules.specs.Records.{Line}
use Rattle.rules.specs.Reader.{piece_under}
use Rattle.document_laws.specs.Decide.{decided}
use Rattle.rules_laws.specs.Runs.{is_run, run_end}
use Rattle.rules.specs.Bytes.{element_limit}
use Rattle.attribute_marks.specs.Marks.{Marked}
use Rattle.blanks.specs.declared.Next.{Next}
use Rattle.blanks.specs.declared.Next.TheVariants as next

-- A tag at `at`, up to `after`, that names the element x; 0 if none is declared so. The attributes that it
-- gives are those of the element's list.
pub record Names (c : Settings) (s : List ℕ) (es : List Element) (d : List ℕ) (l : Line) (o : Open) (kind : Tag → rules.Piece) (at x after : ℕ) : Type 0 where
  pub name : ℕ
  pub size : ℕ
  pub written : List Written
  pub there : piece_under c s es d at l o ≡ got (kind (record { name = name; size = size; after = after; written = written }))
  pub number : number_of s es d name size ≡ x

-- What is ignored at `at`, up to `after`, in the open element o behind the line l.
pub data Ignored (c : Settings) (s : List ℕ) (es : List Element) (d : List ℕ) (l : Line) (o : Open) (at after : ℕ) : Type 0 where
  skips : piece_under c s es d at l o ≡ got (skipped after) → Ignored c s es d l o at after
  separates : piece_under c s es d at l o ≡ got blank → fitting s es (decided s es) o pcdata ≡ 0 → after ≡ at + 1 → Ignored c s es d l o at after

-- A run of data at `at`, up to `after`: a blank begins one only where data may come next.
pub record Runs (c : Settings) (s : List ℕ) (es : List Element) (d : List ℕ) (l : Line) (o : Open) (at after : ℕ) : Type 0 where
  pub run : is_run (piece_under c s es d at l o) ≡ true
  pub fits : piece_under c s es d at l o ≡ got blank → 1 ≤ fitting s es (decided s es) o pcdata
  pub ends : after ≡ run_end d (at + 1)

-- What is to be settled at `at`, up to `after`: the start tag of the element x, or a run of data for 0.
pub data ToSettle (c : Settings) (s : List ℕ) (es : List Element) (d : List ℕ) (l : Line) (o : Open) (at x after : ℕ) : Type 0 where
  runs : x ≡ 0 → Runs c s es d l o at after → ToSettle c s es d l o at x after
  starts : 1 ≤ x → Names c s es d l o start_tag at x after → ToSettle c s es d l o at x after

-- What comes next at `at` of d, where the current element is o and l is the line.
abbrev pub Follows : Settings → (s : List ℕ) (es : List Element) (d : List ℕ) (l : Line) (o : Open) (at : ℕ) → Next → Type 0
Follows c s es d l o at (next.Token x after) = ToSettle c s es d l o at x.0 after
Follows c s es d l o at (next.End x after) = Names c s es d l o end_tag at x.0 after × (1 ≤ x.0)
Follows c s es d l o at (next.Passed after) = Ignored c s es d l o at after

-- Where it is a start tag of the element x, each attribute of that is marked as the tag gives it.
abbrev pub MarksOf : Settings → (s : List ℕ) (es : List Element) (d : List ℕ) (at : ℕ) → Next → (marks : List ℕ) → Type 0
MarksOf c s es d at (next.Token x after) marks = 1 ≤ x.0 → (t : Tag) → piece c.name_length d at ≡ got (start_tag t) → Marked s (element_at es (x.0 - 1)).attributes d t.written marks
MarksOf c s es d at (next.End x after) marks = Unit {0}
MarksOf c s es d at (next.Passed after) marks = Unit {0}

-- What comes next ends further on, within the document, which is `len` bytes long, and names an element that
-- the tables have room for, whatever they hold.
abbrev pub Ahead : (len at : ℕ) → Next → Type 0
Ahead len at (next.Token x after) = (x.0 ≤ element_limit) × (at < after) × (after ≤ len)
Ahead len at (next.End x after) = (x.0 ≤ element_limit) × (at < after) × (after ≤ len)
Ahead len at (next.Passed after) = (at < after) × (after ≤ len)
