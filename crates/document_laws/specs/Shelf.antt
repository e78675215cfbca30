-- Paper 01's shelf: the documents marked (p), read by the rules as the paper says, in one statement.
use Rattle.std.specs.Prelude.{ℕ, refl, List, [], ◌∷◌, ◌++◌}
use Prim.Native.String.{String}
use Rattle.rules.specs.Settings.{Settings, settings, first_edition, is_offered}
use Rattle.rules.specs.Bytes.{allowed, separator, letter, fold, name_byte, span, name_end, separators_end, same_text}
use Rattle.rules.specs.Reading.{Reading, refused, got}
use Rattle.rules.specs.TypeFile.{before_dashes, gap_within, gap, occurrence, name_token, data_token, token, further, members, group}
use Rattle.rules.specs.TypeFile.{declared_from, element_name, omission, words, head, content_word, content_model, content, close, rest, element}
use Rattle.rules.specs.Attributes.{needs_tag}
use Rattle.rules.specs.TypeFile.{comment_declaration, keyword, markup, declaration, declarations_within, attributes_of, listed, type_file}
use Rattle.rules.specs.Judge.{place_at, first_repeated}
use Rattle.rules.specs.Document.{tag, specifications, start_tag_at, declaration_piece, markup_piece, byte_piece, piece}
use Rattle.rules.specs.Elements.{element_at, number_from, number_of}
use Rattle.rules.specs.Events.{Event, start_written, start_inferred, end_inferred, data_run, with_data}
use Rattle.rules.specs.Given.{all_listed, all_fit, none_missing, attributed, piece_attributed, attribute_events, attributes_before, with_attributes}
use Rattle.rules.specs.Settling.{limited, is_open, inferable, chain, infer_starts, inward, settle_from, settle, start_element, take_data, take_blank, end_left_out, close_from, end_element, end_from, end_document}
use Rattle.rules.specs.Records.{at_once, is_ignored, record_ends, line_after, cut, cut_before_ends, records_settled}
use Rattle.rules.specs.Reader.{tagged, settle_piece, piece_under, pieces_within, document}
use Rattle.rules_laws.specs.In.{All}
use Rattle.document_laws.specs.Ascii.{ascii}
use Rattle.document_laws.specs.Decide.{search, fits_in, is_complete_in, required_for}
use Rattle.document_laws.specs.Check.{Example, ReadSo, reads_so, Right, all_right, all_pass, passes, reads_as, is_legible, all_fair, is_fair, is_numbered, are_numbered, same_reading, same_events, same_event}

-- Paper 01's names have at most 8 bytes.
abbrev pub eight : Settings
eight = settings 8 first_edition

-- Type T behind its first word of LIST.
pub rest_of_t : List ℕ
rest_of_t = ascii " O (ITEM+)><!ELEMENT ITEM O O (NAME,QTY?)><!ELEMENT NAME O O (#PCDATA)><!ELEMENT QTY - O (#PCDATA)>"

pub T : List ℕ
T = ascii "<!ELEMENT LIST O" ++ rest_of_t

-- "With LIST declared "- O"."
pub T- : List ℕ
T- = ascii "<!ELEMENT LIST -" ++ rest_of_t

pub under : List ℕ → String → Reading (List Event) → Example
under s d r = record { type = s; text = ascii d; gives = r }

abbrev LIST : ℕ
LIST = 1

abbrev ITEM : ℕ
ITEM = 2

abbrev NAME : ℕ
NAME = 3

abbrev QTY : ℕ
QTY = 4

-- "Document `clamp<QTY>40<ITEM>tape` (p) prints, whole", with the place that each start took.
pub whole : List Event
whole =
    start_inferred LIST 0 0 ∷
    start_inferred ITEM 0 1 ∷
    start_inferred NAME 0 1 ∷
    data_run 0 5 ∷
    end_inferred NAME 5 ∷
    start_written QTY 5 10 2 ∷
    data_run 10 2 ∷
    end_inferred QTY 12 ∷
    end_inferred ITEM 12 ∷
    start_written ITEM 12 18 1 ∷
    start_inferred NAME 18 1 ∷
    data_run 18 4 ∷
    end_inferred NAME 22 ∷
    end_inferred ITEM 22 ∷
    end_inferred LIST 22 ∷
    []

pub shelf : List Example
shelf =
    under T "clamp<QTY>40<ITEM>tape" (got whole) ∷
    under T "" (refused 18 0) ∷
    under T "</LIST>" (refused 11 0) ∷
    under T "<LIST></LIST>" (refused 13 6) ∷
    under T "<ITEM>" (refused 13 6) ∷
    under T- "<ITEM>" (refused 12 0) ∷
    []

pub shelf_right : All (Right eight (λ (x : Example). x.type) (ReadSo eight)) shelf
unfolding is_offered ascii rest_of_t T T- under whole shelf all_pass passes reads_as is_legible all_fair is_fair is_numbered are_numbered first_repeated same_reading same_events same_event search fits_in is_complete_in required_for tagged settle_piece all_listed all_fit none_missing attributed piece_attributed attribute_events attributes_before with_attributes at_once is_ignored record_ends line_after cut cut_before_ends records_settled piece_under pieces_within document element_at number_from number_of with_data limited is_open inferable chain infer_starts inward settle_from settle start_element take_data take_blank end_left_out close_from end_element end_from end_document tag specifications start_tag_at declaration_piece markup_piece byte_piece piece place_at allowed separator letter fold name_byte span name_end separators_end same_text before_dashes gap_within gap occurrence name_token data_token token further members group declared_from element_name omission words head content_word content_model content close rest element comment_declaration keyword markup declaration declarations_within needs_tag attributes_of listed type_file
shelf_right = all_right eight (λ (x : Example). x.type) (reads_as eight) (reads_so eight) shelf refl
