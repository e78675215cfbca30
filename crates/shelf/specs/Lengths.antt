-- Names as long as the caller says (paper 02, request six): type files, and tags, with names at the given length and one longer, each as one statement over a list.
use Rattle.std.specs.Prelude.{ℕ, ◌≡◌, refl, List, [], ◌∷◌, length}
use Prim.Native.String.{String}
use Rattle.rules.specs.Bytes.{separator, letter, fold, name_byte, span, name_end, separators_end, same_text}
use Rattle.rules.specs.Reading.{Reading, refused, got, and_then}
use Rattle.rules.specs.TypeFile.{before_dashes, gap_within, gap, occurrence, name_token, data_token, token, further, members, group}
use Rattle.rules.specs.TypeFile.{declared_from, element_name, omission, words, head, content_word, content_model, content, close, rest, element}
use Rattle.rules.specs.TypeFile.{comment_declaration, keyword, markup, declaration, declarations_within, attributes_of, listed, type_file}
use Rattle.rules.specs.Document.{Piece, start_tag, end_tag, tag, specifications, start_tag_at, markup_piece, piece}
use Rattle.rules_laws.specs.In.{All, none, more}
use Rattle.document_laws.specs.Ascii.{ascii}

-- A type file under a length, and how many elements it declares or how it is refused.
pub record TypeExample : Type 0 where
  pub long : ℕ
  pub text : List ℕ
  pub gives : Reading ℕ

abbrev pub DeclaresSo : TypeExample → Type 0
DeclaresSo x = and_then (type_file x.long x.text) (λ es. got (length es)) ≡ x.gives

pub under : ℕ → String → Reading ℕ → TypeExample
under n t r = record { long = n; text = ascii t; gives = r }

pub types : List TypeExample
types =
    -- the name of an element
    under 8 "<!ELEMENT CATALOGS O O (#PCDATA)>" (got 1) ∷
    under 8 "<!ELEMENT CATALOGUE O O (#PCDATA)>" (refused 3 10) ∷
    under 9 "<!ELEMENT CATALOGUE O O (#PCDATA)>" (got 1) ∷
    under 32 "<!ELEMENT A-NAME-OF-THIRTY-AND-TWO-LETTERS O O (#PCDATA)>" (got 1) ∷
    under 31 "<!ELEMENT A-NAME-OF-THIRTY-AND-TWO-LETTERS O O (#PCDATA)>" (refused 3 10) ∷
    -- the name in a model
    under 8 "<!ELEMENT LIST O O (CATALOGUE)>" (refused 3 20) ∷
    under 9 "<!ELEMENT LIST O O (CATALOGUE)>" (got 1) ∷
    -- another declaration's name is number 5, one that is too long number 3
    under 8 "<!ELEMENTAL LIST O O (#PCDATA)>" (refused 3 2) ∷
    under 9 "<!ELEMENTAL LIST O O (#PCDATA)>" (refused 5 0) ∷
    []

pub types_right : All DeclaresSo types
unfolding ascii under types separator letter fold name_byte span name_end separators_end same_text before_dashes gap_within gap occurrence name_token data_token token further members group declared_from element_name omission words head content_word content_model content close rest element comment_declaration keyword markup declaration declarations_within attributes_of listed type_file
types_right = more refl (more refl (more refl (more refl (more refl (more refl (more refl (more refl (more refl none))))))))

-- A tag at the beginning of a document, under a length.
pub record TagExample : Type 0 where
  pub long : ℕ
  pub text : List ℕ
  pub gives : Reading Piece

abbrev pub TagSo : TagExample → Type 0
TagSo x = piece x.long x.text 0 ≡ x.gives

pub tags : List TagExample
tags =
    record { long = 8; text = ascii "<CATALOGUE>"; gives = refused 3 1 } ∷
    record { long = 9; text = ascii "<CATALOGUE>"; gives = got (start_tag (record { name = 1; size = 9; after = 11; written = [] })) } ∷
    record { long = 8; text = ascii "</CATALOGUE>"; gives = refused 3 2 } ∷
    record { long = 9; text = ascii "</CATALOGUE >"; gives = got (end_tag (record { name = 2; size = 9; after = 13; written = [] })) } ∷
    []

pub tags_right : All TagSo tags
unfolding ascii tags separator letter name_byte span name_end separators_end tag specifications start_tag_at markup_piece piece
tags_right = more refl (more refl (more refl (more refl none)))
