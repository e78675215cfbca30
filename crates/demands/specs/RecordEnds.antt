-- Record ends in edition 2 and in edition 1 (paper 02, request eight), for every document that is read, and
-- so for the events that every accepted call of the reader returns (`ReaderKeeps` of Demands has
-- `acceptance_whole`). The terms are in RecordEnds of the rules: what came in each element, and the three
-- cases by what precedes and follows a byte 13 there. The line by which reading decides them from left to
-- right (Records of the rules) is proved equivalent, and need not be believed.
use Rattle.std.specs.Prelude.{ℕ, ◌+◌, ◌≤◌, ◌≡◌, true, false, ◌⊎◌, ◌↔◌, List, [], ◌∷◌, ◌++◌}
use Rattle.std.proofs.Common.{sym, ◌∙◌}
use Rattle.rules.specs.Settings.{Settings, settings, first_edition, second_edition, is_second}
use Rattle.rules.specs.Bytes.{byte_at, RE}
use Rattle.rules.specs.Lent.{Lent}
use Rattle.rules.specs.Reading.{Reading, got}
use Rattle.rules.specs.TypeFile.{Element}
use Rattle.rules.specs.Judge.{Answer, Judged}
use Rattle.rules.specs.Document.{skipped, blank}
use Rattle.rules.specs.Decisions.{pcdata, Decisions}
use Rattle.rules.specs.Events.{Event}
use Rattle.rules.specs.Settling.{Open, State, fitting}
use Rattle.rules.specs.Records.{Line, at_once}
use Rattle.rules.specs.Reader.{Reached, settle_piece, piece_under, Reads, ReadAs}
use Rattle.rules.specs.Acts.{Passes}
use Rattle.rules.specs.PlainReading.{plain_document}
use Rattle.rules.specs.RecordEnds.{Contents, TakesNoPlace, Fills, SecondEdition}
use Rattle.rules_laws.specs.Holds.{Gives}
use Rattle.record_laws.specs.Passed as passed
use Rattle.record_laws.specs.AtOnce as before
use Rattle.record_laws.specs.WhoTakes as places
use Rattle.record_laws.specs.FirstEdition as first
use Rattle.record_laws.specs.EveryDocument as every
use Rattle.answer_laws.specs.Reader.{given_one}
use Rattle.demands.specs.Words.{ReaderAcceptance, NoRecordEnd}
use Rattle.demands.specs.Editions as editions

-- "In edition 2 a byte 13 that would be data is ignored in three cases": such a byte lies in a data event exactly if none of them holds of it in its element; every
-- other data byte lies in one; nothing else does; and no such byte is left out of the elements (`SecondEdition`, `ByThreeCases`, `Ignored`).
pub record_ends_lem : (c : Settings) (s d : List ℕ) (es : List Element) (ev : List Event) (x : Reads c s d es (got ev)) → is_second c ≡ true → SecondEdition c s es x.decisions d ev
record_ends_lem = every.record_ends_lem

-- So it is of the events that a call writes: those of `ReaderAcceptance`, which every accepted call gives.
pub record_ends_written : (l : Lent) (c : Settings) (s d lent : List ℕ) (a : Answer) (left : List ℕ) (w : ReaderAcceptance l c s d lent a left) → is_second c ≡ true
    → SecondEdition c s w.elements w.read.decisions d w.events
record_ends_written l c s d lent a left w = every.record_ends_lem c s d w.elements w.events w.read

-- "Older catalogues keep 01's rule, edition 1": what is read there is what is read with no word of record ends (`plain_document`), be it refused or not.
pub older_catalogues : (c : Settings) (s d : List ℕ) (es : List Element) (r : Reading (List Event)) (x : Reads c s d es r) → is_second c ≡ false → plain_document c.name_length s es x.decisions d ≡ r
older_catalogues c s d es r x e = sym (first.first_edition_lem c s es x.decisions d e) ∙ x.reading

-- "The record rule the only difference": at each position, whatever has been read before it, what is found
-- there in edition 2 is what is found in edition 1, be it refused or not, but that a byte 13 outside tags and
-- comments is passed over where the line says so. Where `#PCDATA` may come next the line says what the paper
-- does (`line_decides`); where it may not, the byte is ignored in both editions. How the two go on from what
-- is found is one definition (`settle_piece` of the rules), and which events are cut then is
-- `record_ends_lem`.
pub only_difference : (long : ℕ) (s : List ℕ) (es : List Element) (d : List ℕ) (at : ℕ) (l : Line) (o : Open)
    → (piece_under (settings long first_edition) s es d at l o
    ≡ piece_under (settings long second_edition) s es d at l o)
    ⊎ ((byte_at d at ≡ RE) × (at_once d at l o ≡ true)
    × (piece_under (settings long first_edition) s es d at l o ≡ got blank)
    × (piece_under (settings long second_edition) s es d at l o ≡ got (skipped (at + 1))))
only_difference long s es d at l o = editions.pieces_differ long d at l o s es

-- The type judge gives the same answer in both editions and leaves the same in the lent buffer, whatever the
-- type file and however long names may be.
pub verdicts_alike : (l : Lent) (long : ℕ) (s before : List ℕ) (a : Answer) (after : List ℕ)
    → Judged l (settings long first_edition) s before a after
    ↔ Judged l (settings long second_edition) s before a after
verdicts_alike l long s before a after =
    let same = editions.both_offered long in (
      editions.verdicts_alike long 1 2 same s l before a after,
      editions.verdicts_alike long 2 1 (sym same) s l before a after,
    )

-- Where no byte is 13 there is no difference: such a document is read alike in both editions, be it
-- refused or not, whatever type file comes with it.
pub reads_alike : (long : ℕ) (s d : List ℕ) (es : List Element) (r : Reading (List Event)) → NoRecordEnd d
    → Reads (settings long first_edition) s d es r ↔ Reads (settings long second_edition) s d es r
reads_alike long s d es r none =
    let same = editions.both_offered long in
    (editions.reads_alike long 1 2 same s d none es r, editions.reads_alike long 2 1 (sym same) s d none es r)

-- So the reader gives the same answer to it in both editions and leaves the same in the lent buffer.
pub answers_alike : (l : Lent) (long : ℕ) (s d before : List ℕ) (a : Answer) (after : List ℕ) → NoRecordEnd d
    → ReadAs l (settings long first_edition) s d before a after
    ↔ ReadAs l (settings long second_edition) s d before a after
answers_alike l long s d before a after none =
    let same = editions.both_offered long in (
      editions.answers_alike long 1 2 same s d none l before a after,
      editions.answers_alike long 2 1 (sym same) s d none l before a after,
    )

-- What two calls give that differ in the edition alone.
pub calls_alike : (l : Lent) (long : ℕ) (s d before : List ℕ) (a b : Answer) (after left : List ℕ)
    → NoRecordEnd d
    → ReadAs l (settings long first_edition) s d before a after
    → ReadAs l (settings long second_edition) s d before b left → (a ≡ b) × (after ≡ left)
calls_alike l long s d before a b after left none p q =
    given_one l (settings long second_edition) s d before a b after left
    ((answers_alike l long s d before a after none).0 p) q

-- What came is there wherever reading comes to: it leaves no reading out.
pub what_came : (c : Settings) (s : List ℕ) (es : List Element) (D : Decisions) (d : List ℕ) (at : ℕ) (l : Line) (z : State) → Passes c s es D d at l z → (k : Contents) × Fills c s es D d at l z k
what_came c s es D d at l z = passed.passes_fills

-- Wherever reading comes to, in either edition, the line says of a byte 13 that would be data whether it is the first in its element or stands after markup.
pub line_decides : (c : Settings) (s : List ℕ) (es : List Element) (D : Decisions) (d : List ℕ) (at : ℕ) (l : Line) (z : State) (k : Contents) → Fills c s es D d at l z k → 1 ≤ fitting s es D z.current pcdata → (at_once d at l z.current ≡ true) ↔ TakesNoPlace k.current
line_decides c s es D d at l z k = before.at_once_lem c s es D d

-- "A byte ignored only as the last has still taken its `#PCDATA`; the other two kinds take no place."
pub takes_no_place : (c : Settings) (s : List ℕ) (es : List Element) (D : Decisions) (d : List ℕ) (at : ℕ) (l : Line) (z : State) (k : Contents) → is_second c ≡ true → Fills c s es D d at l z k → byte_at d at ≡ RE → 1 ≤ fitting s es D z.current pcdata
    → TakesNoPlace k.current → (piece_under c s es d at l z.current ≡ got (skipped (at + 1))) × (settle_piece s es D d (skipped (at + 1)) at z ≡ got (record { at = at + 1; state = z }))
takes_no_place c s es D d at l z k second = places.takes_no_place c s es D d second

-- Here the byte has its place, unless the document is refused at it.
pub takes_its_place : (c : Settings) (s : List ℕ) (es : List Element) (D : Decisions) (d : List ℕ) (at : ℕ) (l : Line) (z : State) (k : Contents) → is_second c ≡ true → Fills c s es D d at l z k → byte_at d at ≡ RE → 1 ≤ fitting s es D z.current pcdata
    → ¬ (TakesNoPlace k.current) → (piece_under c s es d at l z.current ≡ got blank) × Gives (λ (r : Reached). r.state.current.taken ≡ z.current.taken ++ fitting s es D z.current pcdata ∷ []) (settle_piece s es D d blank at z)
takes_its_place c s es D d at l z k second = places.takes_its_place c s es D d second
