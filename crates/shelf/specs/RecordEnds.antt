-- Record ends in edition 2 (paper 02, request eight): documents read by the rules, in one statement.
use Rattle.std.specs.Prelude.{ℕ, refl, true, false, List, [], ◌∷◌, eqb}
use Prim.Native.String.{String}
use Rattle.rules.specs.Settings.{Settings, settings, second_edition, is_offered}
use Rattle.rules.specs.Bytes.{allowed, separator, letter, fold, name_byte, span, name_end, separators_end, same_text, RS, RE}
use Rattle.rules.specs.Reading.{got}
use Rattle.rules.specs.TypeFile.{before_dashes, gap_within, gap, occurrence, name_token, data_token, token, further, members, group}
use Rattle.rules.specs.TypeFile.{declared_from, element_name, omission, words, head, content_word, content_model, content, close, rest, element}
use Rattle.rules.specs.Attributes.{needs_tag}
use Rattle.rules.specs.TypeFile.{comment_declaration, keyword, markup, declaration, declarations_within, attributes_of, listed, type_file}
use Rattle.rules.specs.Judge.{place_at, first_repeated}
use Rattle.rules.specs.Document.{tag, specifications, start_tag_at, declaration_piece, markup_piece, byte_piece, piece}
use Rattle.rules.specs.Elements.{element_at, number_from, number_of}
use Rattle.rules.specs.Events.{Event, start_written, end_written, end_inferred, data_run, end_of_empty, with_data}
use Rattle.rules.specs.Given.{all_listed, all_fit, none_missing, attributed, piece_attributed, attribute_events, attributes_before, with_attributes}
use Rattle.rules.specs.Settling.{limited, is_open, inferable, chain, infer_starts, inward, settle_from, settle, start_element, take_data, take_blank, end_left_out, close_from, end_element, end_from, end_document}
use Rattle.rules.specs.Records.{at_once, is_ignored, record_ends, line_after, cut, cut_before_ends, records_settled}
use Rattle.rules.specs.Reader.{tagged, settle_piece, piece_under, pieces_within, document}
use Rattle.rules_laws.specs.In.{All}
use Rattle.document_laws.specs.Ascii.{ascii}
use Rattle.document_laws.specs.Decide.{search, fits_in, is_complete_in, required_for}
use Rattle.document_laws.specs.Check.{Example, ReadSo, reads_so, Right, all_right, all_pass, passes, reads_as, is_legible, all_fair, is_fair, is_numbered, are_numbered, same_reading, same_events, same_event}

abbrev second : Settings
second = settings 8 second_edition

-- A text where "^" stands for a byte 13 and "_" for a byte 10.
unfoldable with_records : List ℕ → List ℕ
with_records [] = []
with_records (b ∷ r) = elim (eqb b 94) [ true ↦ RE | false ↦ elim (eqb b 95) [ true ↦ RS | false ↦ b ] ] ∷ with_records r

pub paragraph : List ℕ
paragraph = ascii "<!ELEMENT P - O (#PCDATA|Q|E)*><!ELEMENT Q - O (#PCDATA)><!ELEMENT E - O EMPTY>"

pub division : List ℕ
division = ascii "<!ELEMENT D - O (R|E)*><!ELEMENT R - O (E?,#PCDATA)><!ELEMENT E - O EMPTY>"

pub under : List ℕ → String → List Event → Example
under s d ev = record { type = s; text = with_records (ascii d); gives = got ev }

abbrev P : ℕ
P = 1

abbrev Q : ℕ
Q = 2

abbrev D : ℕ
D = 1

abbrev R : ℕ
R = 2

abbrev E : ℕ
E = 3

pub records : List Example
records =
    -- "the first in its element and no byte 10, data or subelement came before"
    under paragraph "<P>^text" (start_written P 0 3 0 ∷ data_run 4 4 ∷ end_inferred P 8 ∷ []) ∷
    under paragraph "<P>_^text" (start_written P 0 3 0 ∷ data_run 4 5 ∷ end_inferred P 9 ∷ []) ∷
    -- "the last and no data or subelement follows"
    under paragraph "<P>text^</P>" (start_written P 0 3 0 ∷ data_run 3 4 ∷ end_written P 8 12 ∷ []) ∷
    under paragraph "<P>text^<!--c--></P>" (start_written P 0 3 0 ∷ data_run 3 4 ∷ end_written P 16 20 ∷ []) ∷
    under paragraph "<P>a<Q>b</Q>^</P>" (start_written P 0 3 0 ∷ data_run 3 1 ∷ start_written Q 4 7 2 ∷ data_run 7 1 ∷ end_written Q 8 12 ∷ end_written P 13 17 ∷ []) ∷
    under paragraph "<P>text^<Q>b</Q></P>" (start_written P 0 3 0 ∷ data_run 3 5 ∷ start_written Q 8 11 2 ∷ data_run 11 1 ∷ end_written Q 12 16 ∷ end_written P 16 20 ∷ []) ∷
    -- the second is ignored after markup, so that the first is the last of those that are left
    under paragraph "<P>x^<!--c-->^</P>" (start_written P 0 3 0 ∷ data_run 3 1 ∷ end_written P 14 18 ∷ []) ∷
    -- "it doesn't stand directly after a byte 10 or 13 and nothing but markup came since the last of these"
    under paragraph "<P>a^_<!--c-->^_b" (start_written P 0 3 0 ∷ data_run 3 2 ∷ data_run 16 1 ∷ end_inferred P 17 ∷ []) ∷
    under paragraph "<P>a_^b" (start_written P 0 3 0 ∷ data_run 3 1 ∷ data_run 5 2 ∷ end_inferred P 7 ∷ []) ∷
    -- "bytes 10 and 13 within markup don't count"
    under paragraph "<P>a_<!--^-->^b" (start_written P 0 3 0 ∷ data_run 3 1 ∷ data_run 14 1 ∷ end_inferred P 15 ∷ []) ∷
    -- "a byte ignored only as the last has still taken its `#PCDATA`; the other two kinds take no place"
    under division "<D><R>^<E>" (start_written D 0 3 0 ∷ start_written R 3 6 1 ∷ start_written E 7 10 1 ∷ end_of_empty E 10 ∷ end_inferred R 10 ∷ end_inferred D 10 ∷ []) ∷
    under division "<D><R><E>^<E>"
    (start_written D 0 3 0 ∷ start_written R 3 6 1 ∷ start_written E 6 9 1 ∷ end_of_empty E 9 ∷ end_inferred R 10 ∷ start_written E 10 13 2 ∷ end_of_empty E 13 ∷ end_inferred D 13 ∷ []) ∷
    []

pub records_right : All (Right second (λ (x : Example). x.type) (ReadSo second)) records
unfolding is_offered ascii with_records paragraph division under records at_once is_ignored record_ends line_after cut cut_before_ends records_settled all_pass passes reads_as is_legible all_fair is_fair is_numbered are_numbered first_repeated same_reading same_events same_event search fits_in is_complete_in required_for tagged settle_piece all_listed all_fit none_missing attributed piece_attributed attribute_events attributes_before with_attributes piece_under pieces_within document element_at number_from number_of with_data limited is_open inferable chain infer_starts inward settle_from settle start_element take_data take_blank end_left_out close_from end_element end_from end_document tag specifications start_tag_at declaration_piece markup_piece byte_piece piece place_at allowed separator letter fold name_byte span name_end separators_end same_text before_dashes gap_within gap occurrence name_token data_token token further members group declared_from element_name omission words head content_word content_model content close rest element comment_declaration keyword markup declaration declarations_within needs_tag attributes_of listed type_file
records_right = all_right second (λ (x : Example). x.type) (reads_as second) (reads_so second) records refl
