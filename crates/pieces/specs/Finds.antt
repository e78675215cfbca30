-- What stands at a position of a document under a type, in the rules' terms, whatever is open.
use Rattle.std.specs.Prelude.{ℕ, Result, Ok, Err, ◌-◌, ◌≤◌, ◌<◌, ◌≡◌, List}
use Rattle.rules.specs.Bytes.{element_limit}
use Rattle.rules.specs.Reading.{refused, got}
use Rattle.rules.specs.TypeFile.{Element}
use Rattle.rules.specs.Document.{Written, Tag, Piece, start_tag, end_tag, skipped, blank, data_byte, piece}
use Rattle.rules.specs.Elements.{element_at, number_of}
use Rattle.rules.specs.Given.{piece_attributed}
use Rattle.text.specs.declared.Fault.{Fault}
use Rattle.text.specs.declared.Refusal.TheVariants.{Undeclared}
use Rattle.text.specs.Refusal.{fault_at}
use Rattle.layout.specs.declared.ElementNo.{ElementNo}
use Rattle.attribute_marks.specs.Marks.{Marked}
use Rattle.pieces.specs.declared.Found.{Found}
use Rattle.pieces.specs.declared.Found.TheVariants as found

-- A tag at `at`, up to `after`, that names the element x; 0 if none is declared so. The attributes that it
-- gives are those of the element's list.
pub record Named (long : ℕ) (s : List ℕ) (es : List Element) (d : List ℕ) (kind : Tag → Piece) (at x after : ℕ) : Type 0 where
  pub name : ℕ
  pub size : ℕ
  pub written : List Written
  pub there : piece long d at ≡ got (kind (record { name = name; size = size; after = after; written = written }))
  pub listed : piece_attributed long s es d at (kind (record { name = name; size = size; after = after; written = written })) ≡ got tt
  pub number : number_of s es d name size ≡ x

-- What is refused at `at`: the piece, the attributes of a start tag, or a name that is not declared.
pub data Unread (long : ℕ) (s : List ℕ) (es : List Element) (d : List ℕ) (at number position : ℕ) : Type 0 where
  malformed : piece long d at ≡ refused number position → Unread long s es d at number position
  misgiven : {p : Piece} → piece long d at ≡ got p → piece_attributed long s es d at p ≡ refused number position → Unread long s es d at number position
  undeclared_start : {after : ℕ} → Named long s es d start_tag at 0 after → number ≡ 10 → position ≡ at → Unread long s es d at number position
  undeclared_end : {after : ℕ} → Named long s es d end_tag at 0 after → number ≡ 10 → position ≡ at → Unread long s es d at number position

-- The start tag at `at` is of the element x, and each attribute of that is marked as the tag gives it.
pub record Starts (long : ℕ) (s : List ℕ) (es : List Element) (d : List ℕ) (at x after : ℕ) (marks : List ℕ) : Type 0 where
  pub some : 1 ≤ x
  pub tag : Named long s es d start_tag at x after
  pub marked : (t : Tag) → piece long d at ≡ got (start_tag t) → Marked s (element_at es (x - 1)).attributes d t.written marks

-- What the code finds at `at` of d.
abbrev pub Stands : (long : ℕ) (s : List ℕ) (es : List Element) (d : List ℕ) (at : ℕ) → Found → (marks : List ℕ) → Type 0
Stands long s es d at (found.Start x after) marks = Starts long s es d at x.0 after marks
Stands long s es d at (found.End x after) marks = Named long s es d end_tag at x.0 after × (1 ≤ x.0)
Stands long s es d at (found.Passed after) marks = piece long d at ≡ got (skipped after)
Stands long s es d at found.Blank marks = piece long d at ≡ got blank
Stands long s es d at found.Data marks = piece long d at ≡ got data_byte

abbrev pub Finds : (long : ℕ) (s : List ℕ) (es : List Element) (d : List ℕ) (at : ℕ) → Result Found Fault → (marks : List ℕ) → Type 0
Finds long s es d at (Ok p) marks = Stands long s es d at p marks
Finds long s es d at (Err f) marks = Unread long s es d at f.number f.at

-- What is found moves on and stays within the document, which is `len` bytes long, and names an element that
-- the tables have room for, whatever they hold.
abbrev pub MovesOn : (len at : ℕ) → Found → Type 0
MovesOn len at (found.Start x after) = (x.0 ≤ element_limit) × (at < after) × (after ≤ len)
MovesOn len at (found.End x after) = (x.0 ≤ element_limit) × (at < after) × (after ≤ len)
MovesOn len at (found.Passed after) = (at < after) × (after ≤ len)
MovesOn len at found.Blank = at < len
MovesOn len at found.Data = at < len

abbrev pub Onward : (len at : ℕ) → Result Found Fault → Type 0
Onward len at (Ok p) = MovesOn len at p
Onward len at (Err f) = Unit {0}

-- The element that the tag at `at` names, whose number is n, or 0; and that whatever the tables hold.
abbrev pub Numbered : (at : ℕ) → Result ElementNo Fault → (n : ℕ) → Type 0
Numbered at (Ok x) n = x.0 ≡ n
Numbered at (Err f) n = (n ≡ 0) × (f ≡ fault_at Undeclared at)

abbrev pub Ranged : Result ElementNo Fault → Type 0
Ranged (Ok x) = (1 ≤ x.0) × (x.0 ≤ element_limit)
Ranged (Err f) = Unit {0}
