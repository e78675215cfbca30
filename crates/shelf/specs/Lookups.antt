-- Names looked up under the shelf's type T and one more element: the number that is found and how many names are compared (paper 02, request
-- three), in one statement.
use Rattle.std.specs.Prelude.{ℕ, ◌≡◌, refl, Bool, true, ◌&&◌, List, [], ◌∷◌, length, eqb}
use Prim.Native.String.{String}
use Rattle.std.proofs.Common.{eqb-true}
use Rattle.rules.specs.Bytes.{separator, letter, fold, name_byte, span, name_end, separators_end, same_text}
use Rattle.rules.specs.Reading.{got}
use Rattle.rules.specs.TypeFile.{before_dashes, gap_within, gap, occurrence, name_token, data_token, token, further, members, group}
use Rattle.rules.specs.TypeFile.{declared_from, element_name, omission, words, head, content_word, content_model, content, close, rest, element}
use Rattle.rules.specs.TypeFile.{comment_declaration, keyword, markup, declaration, declarations_within, Element, attributes_of, listed, type_file}
use Rattle.rules.specs.Judge.{place_at}
use Rattle.rules.specs.Elements.{number_from, number_of}
use Rattle.rules.specs.Lookup.{compared}
use Rattle.basic_laws.specs.Truth.{and_left, and_right}
use Rattle.document_laws.specs.Ascii.{ascii}
use Rattle.document_laws.specs.Shelf.{eight}
use Rattle.document_laws.specs.Check.{Right, passes, all_pass, all_right}
use Rattle.rules_laws.specs.In.{All}

-- A type file, a name, and what looking it up must give.
pub record Example : Type 0 where
  pub type : List ℕ
  pub name : List ℕ
  pub number : ℕ
  pub count : ℕ

-- The rules give that number and that count.
pub record LooksUp (x : Example) (es : List Element) : Type 0 where
  pub numbered : number_of x.type es x.name 0 (length x.name) ≡ x.number
  pub counted : compared x.type es x.name 0 (length x.name) ≡ x.count

unfoldable pub reads_as : Example → List Element → Bool
reads_as x es =
    eqb (number_of x.type es x.name 0 (length x.name)) x.number && eqb (compared x.type es x.name 0 (length x.name)) x.count

pub looks_up : (long : ℕ) (x : Example) (es : List Element) → type_file long x.type ≡ got es → reads_as x es ≡ true → LooksUp x es
unfolding reads_as
looks_up long x es is u =
    record { numbered = eqb-true _ _ (and_left _ _ u); counted = eqb-true _ _ (and_right (eqb (number_of x.type es x.name 0 (length x.name)) x.number) _ u) }

-- Type T with NOTE, which is as long as NAME and begins with the same letter: LIST, ITEM, NAME, QTY, NOTE.
pub T+ : List ℕ
T+ =
    ascii "<!ELEMENT LIST O O (ITEM+)><!ELEMENT ITEM O O (NAME,QTY?)><!ELEMENT NAME O O (#PCDATA)><!ELEMENT QTY - O (#PCDATA)><!ELEMENT NOTE O O (#PCDATA)>"

pub named : String → (number count : ℕ) → Example
named n k c = record { type = T+; name = ascii n; number = k; count = c }

pub lookups : List Example
lookups =
    -- found as the first that is alike; names before it are passed over
    named "QTY" 4 1 ∷
    named "name" 3 1 ∷
    -- found as the second
    named "Note" 5 2 ∷
    -- none is alike: another length, another first letter
    named "NAMES" 0 0 ∷
    named "TAPE" 0 0 ∷
    -- all that are alike, and none is found
    named "NUTS" 0 2 ∷
    named "LAMP" 0 1 ∷
    []

pub lookups_right : All (Right eight (λ (x : Example). x.type) LooksUp) lookups
unfolding ascii T+ named lookups all_pass passes reads_as number_from number_of compared place_at separator letter fold name_byte span name_end separators_end same_text before_dashes gap_within gap occurrence name_token data_token token further members group declared_from element_name omission words head content_word content_model content close rest element comment_declaration keyword markup declaration declarations_within attributes_of listed type_file
lookups_right = all_right eight (λ (x : Example). x.type) reads_as (looks_up eight.name_length) lookups refl
