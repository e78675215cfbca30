-- What the events of a document are, and what the loop over its tokens leaves, in the rules' terms.
use Rattle.std.specs.Prelude.{ℕ, ◌+◌, ◌*◌, ◌≤◌, ◌<◌, ◌≡◌, List, length, Result, Ok, Err}
use Rattle.rules.specs.Settings.{Settings}
use Rattle.rules.specs.Reading.{refused, got}
use Rattle.rules.specs.TypeFile.{Element}
use Rattle.rules.specs.Lent.{bytes_of}
use Rattle.rules.specs.Events.{Event}
use Rattle.rules.specs.Given.{with_attributes}
use Rattle.rules.specs.Settling.{State}
use Rattle.rules.specs.Reader.{document, event_numbers}
use Rattle.layout.specs.Sizes.{MOST_EVENTS}
use Rattle.numbers.specs.Written.{Written}
use Rattle.text.specs.declared.Refusal.{Refusal}
use Rattle.text.specs.declared.Fault.{Fault}
use Rattle.text.specs.Refusal.{number_of}
use Rattle.document_laws.specs.Decide.{decided}
use Rattle.record_due.specs.Due.{due}
use Rattle.turn_laws.specs.Turns.{Reaches}
use Rattle.turn_laws.specs.Latest.{Latest}
use Rattle.record_ends.specs.Held.{line_of}
use Rattle.element_index.specs.Indexed.{Indexed}
use Rattle.list_table.specs.Lists.{Lists}
use Rattle.type_tables.specs.Tables.{Tables}
use Rattle.token_due.specs.Freed.{Has}
use Rattle.open_elements.specs.declared.OpenElements.{OpenElements}
use Rattle.open_elements.specs.declared.Outcome.{Outcome}
use Rattle.open_elements.specs.Stands.{Ranged, Stands}
use Rattle.open_elements.specs.Becomes.{StandsWith}

-- The document d under the settings c and the elements es is refused, or gives so many events, which both buffers have got as far as they fit.
abbrev pub EventsOf : Settings → (s : List ℕ) (es : List Element) (d numbers numbers_after bytes bytes_after : List ℕ) → Result ℕ Fault → Type 0
EventsOf c s es d numbers numbers_after bytes bytes_after (Ok n) =
    (ev : List Event) × (document c s es (decided s es) d ≡ got ev) × (n ≡ length ev) × Written numbers numbers_after (event_numbers ev) ×
    Written bytes bytes_after (bytes_of (event_numbers ev)) × (n < 4294967296)
EventsOf c s es d numbers numbers_after bytes bytes_after (Err f) = document c s es (decided s es) d ≡ refused f.number f.at

-- Whatever the tables hold: where it is not refused there are so many events at most. A token takes at least
-- a byte, and brings at most 1050 events.
abbrev pub Counted : (d : List ℕ) → Result ℕ Fault → Type 0
Counted d (Ok n) = n ≤ MOST_EVENTS * (length d + 1)
Counted d (Err f) = Unit {0}

-- What a token that stands at `at`, up to `after`, has come to: reading goes on behind it with a state for which the open elements stand, by what has begun, and
-- which has these events, or the document is refused there. The last run of data began at `from`, and where a byte 10 or 13 was ignored before is marked.
abbrev pub Turned : (c : Settings) (s : List ℕ) (es : List Element) (d M begun : List ℕ) (at after mark from : ℕ) (events : List Event) → Result Outcome Refusal → Type 0
Turned c s es d M begun at after mark from events (Ok r) = (y : State) × StandsWith es M begun r.open events y × Reaches c s es d after (line_of after mark) y × Latest c d after from y.events
Turned c s es d M begun at after mark from events (Err f) = document c s es (decided s es) d ≡ refused (number_of f) at

-- Reading has come to `at` with these elements open; the last tag or data ended at `since`, the last byte 10 or 13 that was ignored at `mark`, and the last run of data
-- began at `from`. The events so far are in the buffers as far as they fit, with attribute events before each start, as they are if the current element ended here.
pub record Comes (c : Settings) (s : List ℕ) (es : List Element) (d M begun numbers numbers_now bytes bytes_now : List ℕ) (n at since mark from : ℕ) (o : OpenElements) : Type 0 where
  pub state : State
  pub reaches : Reaches c s es d at (line_of since mark) state
  pub latest : Latest c d since from state.events
  pub stands : Stands es M begun o state
  pub has : Has numbers bytes n numbers_now bytes_now (with_attributes c.name_length s es d (due c d state.events))

-- The same for any elements of which the index, the tables and the lists are. Whatever these hold, the numbers are in range: a token takes at least a
-- byte and brings at most 1050 events.
pub record Going (c : Settings) (s elements index rows places facts M lists d begun numbers numbers_now bytes bytes_now : List ℕ) (n at since mark from : ℕ) (o : OpenElements) : Type 0 where
  pub inside : at ≤ length d
  pub since_inside : since ≤ at
  pub from_inside : from ≤ since
  pub few : n ≤ MOST_EVENTS * at
  pub ranged : Ranged o
  pub numbers_same : length numbers_now ≡ length numbers
  pub bytes_same : length bytes_now ≡ length bytes
  pub any : (es : List Element) → Indexed s es elements index → Tables s es rows places facts M → Lists c.name_length s es lists → Comes c s es d M begun numbers numbers_now bytes bytes_now n at since mark from o
