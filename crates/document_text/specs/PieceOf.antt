-- The rules' reading that an answer of the code stands for.
use Rattle.std.specs.Prelude.{ℕ, Result, Ok, Err, ◌≡◌, List}
use Rattle.rules.specs.Reading.{Reading, got, and_then}
use Rattle.rules.specs.Document.{Piece, start_tag, end_tag, skipped, blank, data_byte, Written}
use Rattle.rules.specs.Document as rules
use Rattle.text.specs.declared.Fault.{Fault}
use Rattle.text.specs.Refusal.{refusal_of, reading}
use Rattle.tags.specs.Tags.{tag_with, tag_in}
use Rattle.tags.specs.Given.{ReadAs}
use Rattle.document_text.specs.declared.Piece as code
use Rattle.document_text.specs.declared.Piece.TheVariants as token

-- Of a start tag: one that gives no attributes.
abbrev pub piece_in : code.Piece → Piece
piece_in (token.StartTag t) = start_tag (tag_in t)
piece_in (token.EndTag t) = end_tag (tag_in t)
piece_in (token.Skipped i) = skipped i
piece_in token.Blank = blank
piece_in token.Data = data_byte

abbrev pub piece_of : Result code.Piece Fault → Reading Piece
piece_of r = reading piece_in r

-- What the rules read in a text of so many bytes, where g has what is kept of the attributes of a start tag.
abbrev pub Stands : (end : ℕ) → (g : List ℕ) → code.Piece → Reading Piece → Type 0
Stands end g (token.StartTag t) x = (ws : List Written) × (x ≡ got (start_tag (tag_with ws t))) × ReadAs end g t.given ws
Stands end g (token.EndTag t) x = x ≡ got (end_tag (tag_in t))
Stands end g (token.Skipped i) x = x ≡ got (skipped i)
Stands end g token.Blank x = x ≡ got blank
Stands end g token.Data x = x ≡ got data_byte

abbrev pub MeetsPiece : (end : ℕ) → (g : List ℕ) → Result code.Piece Fault → Reading Piece → Type 0
MeetsPiece end g (Ok p) x = Stands end g p x
MeetsPiece end g (Err f) x = x ≡ refusal_of f

-- What was read, as a piece.
abbrev pub as_start_tag : Reading rules.Tag → Reading Piece
as_start_tag r = and_then r λ t. got (start_tag t)

abbrev pub as_end_tag : Reading rules.Tag → Reading Piece
as_end_tag r = and_then r λ t. got (end_tag t)

abbrev pub as_skipped : Reading ℕ → Reading Piece
as_skipped r = and_then r λ e. got (skipped e)
