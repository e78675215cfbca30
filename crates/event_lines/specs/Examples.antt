-- The printed text, worked out: numbers, and the text of a document with one element.
use Rattle.std.specs.Prelude.{ℕ, ◌≡◌, refl, List, [], ◌∷◌}
use Rattle.rules.specs.Bytes.{fold}
use Rattle.rules.specs.Attributes.{number, required, attribute_at}
use Rattle.rules.specs.TypeFile.{Element, empty}
use Rattle.rules.specs.Elements.{element_at}
use Rattle.rules.specs.Events.{Event, attribute_written}
use Rattle.rules.specs.Printed.{decimal_within, decimal, word, upper, starts_next, line, event_lines, events_text, in_type, refused_text}

decimals : (decimal 0 ≡ 48 ∷ []) × (decimal 10 ≡ 49 ∷ 48 ∷ []) × (decimal 65535 ≡ 54 ∷ 53 ∷ 53 ∷ 51 ∷ 53 ∷ [])
unfolding decimal decimal_within
decimals = (refl, refl, refl)

-- `Qty`, declared EMPTY, and its events in the document `<Qty>`.
abbrev type_text : List ℕ
type_text = 81 ∷ 116 ∷ 121 ∷ []

abbrev declared : Element
declared = record { at = 0; size = 3; start = 1; end = 1; content = empty; repeated = 0; attributes = [] }

abbrev written : Event
written = record { kind = 1; number = 1; offset = 0; size = 5; place = 0 }

abbrev ended : Event
ended = record { kind = 6; number = 1; offset = 5; size = 0; place = 0 }

-- `events 2`, `1 QTY 0 5`, `6 QTY 5 0`.
lines : events_text type_text (declared ∷ []) (written ∷ ended ∷ [])
    ≡ 101 ∷ 118 ∷ 101 ∷ 110 ∷ 116 ∷ 115 ∷ 32 ∷ 50 ∷ 10 ∷ 49 ∷ 32 ∷ 81 ∷ 84 ∷ 89 ∷ 32 ∷ 48 ∷ 32 ∷ 53 ∷ 10 ∷ 54 ∷ 32 ∷ 81 ∷ 84 ∷ 89 ∷ 32 ∷ 53 ∷ 32 ∷ 48 ∷ 10 ∷ []
unfolding events_text event_lines line word upper decimal decimal_within element_at fold
lines = refl

-- `Qty` with the attribute `Par`, and the events before `<Qty Par="40">`.
abbrev text_with : List ℕ
text_with = 81 ∷ 116 ∷ 121 ∷ 80 ∷ 97 ∷ 114 ∷ []

abbrev declared_with : Element
declared_with = record { at = 0; size = 3; start = 1; end = 1; content = empty; repeated = 0; attributes = record { at = 3; size = 3; value = number; default = required } ∷ [] }

abbrev given : Event
given = attribute_written 1 10 2

-- `events 2`, `7 PAR 10 2`, `1 QTY 0 5`.
attribute_lines : events_text text_with (declared_with ∷ []) (given ∷ written ∷ [])
    ≡ 101 ∷ 118 ∷ 101 ∷ 110 ∷ 116 ∷ 115 ∷ 32 ∷ 50 ∷ 10 ∷ 55 ∷ 32 ∷ 80 ∷ 65 ∷ 82 ∷ 32 ∷ 49 ∷ 48 ∷ 32 ∷ 50 ∷ 10 ∷ 49 ∷ 32 ∷ 81 ∷ 84 ∷ 89 ∷ 32 ∷ 48 ∷ 32 ∷ 53 ∷ 10 ∷ []
unfolding events_text event_lines starts_next attribute_at line word upper decimal decimal_within element_at fold
attribute_lines = refl

-- `refused 9 in type at 19`.
refused : refused_text 9 in_type 19
    ≡ 114 ∷ 101 ∷ 102 ∷ 117 ∷ 115 ∷ 101 ∷ 100 ∷ 32 ∷ 57 ∷ 32 ∷ 105 ∷ 110 ∷ 32 ∷ 116 ∷ 121 ∷ 112 ∷ 101 ∷ 32 ∷ 97 ∷ 116 ∷ 32 ∷ 49 ∷ 57 ∷ 10 ∷ []
unfolding refused_text word decimal decimal_within
refused = refl
