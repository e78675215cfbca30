-- Paper 01's shelf: the models marked (p), judged by the rules as the paper says, in one statement.
use Rattle.std.specs.Prelude.{ℕ, refl, List, [], ◌∷◌, ◌++◌}
use Rattle.rules.specs.Bytes.{separator, letter, fold, name_byte, span, name_end, separators_end, same_text}
use Rattle.rules.specs.TypeFile.{before_dashes, gap_within, gap, occurrence, name_token, data_token, token, further, members, group}
use Rattle.rules.specs.TypeFile.{declared_from, element_name, omission, words, head, content_word, content_model, content, close, rest, element}
use Rattle.rules.specs.TypeFile.{comment_declaration, keyword, markup, declaration, declarations_within, attributes_of, listed, type_file}
use Rattle.rules.specs.Judge.{place_at, first_repeated}
use Rattle.rules_laws.specs.In.{All}
use Rattle.shelf.specs.Check.{Example, NamedSo, named_so, reads_as, of_content, is_pair}
use Rattle.document_laws.specs.Shelf.{eight}
use Rattle.document_laws.specs.Check.{is_numbered, are_numbered, Right, passes, all_pass, all_right}

-- `<!ELEMENT X O O ` and `>` around a model
pub declared : List ℕ → List ℕ
declared m = 60 ∷ 33 ∷ 69 ∷ 76 ∷ 69 ∷ 77 ∷ 69 ∷ 78 ∷ 84 ∷ 32 ∷ 88 ∷ 32 ∷ 79 ∷ 32 ∷ 79 ∷ 32 ∷ (m ++ 62 ∷ [])

pub shelf : List Example
shelf =
    -- (A?,A)
    record { text = declared (40 ∷ 65 ∷ 63 ∷ 44 ∷ 65 ∷ 41 ∷ []); first = 1; second = 2 } ∷
    -- ((A,B)|(A,C))
    record { text = declared (40 ∷ 40 ∷ 65 ∷ 44 ∷ 66 ∷ 41 ∷ 124 ∷ 40 ∷ 65 ∷ 44 ∷ 67 ∷ 41 ∷ 41 ∷ []); first = 1; second = 3 } ∷
    -- ((A|B)*,A)
    record { text = declared (40 ∷ 40 ∷ 65 ∷ 124 ∷ 66 ∷ 41 ∷ 42 ∷ 44 ∷ 65 ∷ 41 ∷ []); first = 1; second = 3 } ∷
    -- (A,B?,B)
    record { text = declared (40 ∷ 65 ∷ 44 ∷ 66 ∷ 63 ∷ 44 ∷ 66 ∷ 41 ∷ []); first = 2; second = 3 } ∷
    -- (A?,B,A)
    record { text = declared (40 ∷ 65 ∷ 63 ∷ 44 ∷ 66 ∷ 44 ∷ 65 ∷ 41 ∷ []); first = 0; second = 0 } ∷
    -- ((A*)*)
    record { text = declared (40 ∷ 40 ∷ 65 ∷ 42 ∷ 41 ∷ 42 ∷ 41 ∷ []); first = 0; second = 0 } ∷
    -- (#PCDATA,(#PCDATA|A)*)
    record { text = declared (40 ∷ 35 ∷ 80 ∷ 67 ∷ 68 ∷ 65 ∷ 84 ∷ 65 ∷ 44 ∷ 40 ∷ 35 ∷ 80 ∷ 67 ∷ 68 ∷ 65 ∷ 84 ∷ 65 ∷ 124 ∷ 65 ∷ 41 ∷ 42 ∷ 41 ∷ []); first = 1; second = 2 } ∷
    -- ((A&B?),B)
    record { text = declared (40 ∷ 40 ∷ 65 ∷ 38 ∷ 66 ∷ 63 ∷ 41 ∷ 44 ∷ 66 ∷ 41 ∷ []); first = 2; second = 3 } ∷
    -- ((A&B),A)
    record { text = declared (40 ∷ 40 ∷ 65 ∷ 38 ∷ 66 ∷ 41 ∷ 44 ∷ 65 ∷ 41 ∷ []); first = 0; second = 0 } ∷
    -- ((A,B)&(A,C))
    record { text = declared (40 ∷ 40 ∷ 65 ∷ 44 ∷ 66 ∷ 41 ∷ 38 ∷ 40 ∷ 65 ∷ 44 ∷ 67 ∷ 41 ∷ 41 ∷ []); first = 1; second = 3 } ∷
    []

pub shelf_right : All (Right eight (λ (x : Example). x.text) NamedSo) shelf
unfolding shelf declared all_pass passes reads_as of_content is_pair is_numbered are_numbered first_repeated place_at separator letter fold name_byte span name_end separators_end same_text before_dashes gap_within gap occurrence name_token data_token token further members group declared_from element_name omission words head content_word content_model content close rest element comment_declaration keyword markup declaration declarations_within attributes_of listed type_file
shelf_right = all_right eight (λ (x : Example). x.text) reads_as (named_so eight.name_length) shelf refl
