-- "At every moment both must equal what 01's definition says of the places taken." (paper 02, request four): the marks that are kept with
-- each open element, in the loop over a document's tokens.
use Rattle.std.specs.Prelude.{ℕ, ◌≡◌, List, Ok}
use Rattle.rules.specs.Settings.{Settings}
use Rattle.rules.specs.TypeFile.{Element}
use Rattle.rules.specs.Judge.{Accepts}
use Rattle.rules.specs.Decisions.{Decisions, Means}
use Rattle.rules.specs.Events.{Event}
use Rattle.rules.specs.Settling.{State}
use Rattle.rules.specs.Records.{Line}
use Rattle.document_laws.specs.Decide.{decided}
use Rattle.document_laws.specs.OneReading.{accepted_decided}
use Rattle.document_laws.specs.Same.{Passes, passes_same}
use Rattle.turn_laws.specs.Turns.{Reaches}
use Rattle.element_index.specs.Indexed.{Indexed}
use Rattle.list_table.specs.Lists.{Lists}
use Rattle.type_tables.specs.Tables.{Tables}
use Rattle.open_elements.specs.declared.OpenElements.{OpenElements}
use Rattle.open_elements.specs.declared.Outcome.{Outcome}
use Rattle.open_elements.specs.Stands.{Stands}
use Rattle.open_elements.specs.Marks.{MarksSay, marks_say}
use Rattle.document_events.specs.Loop.{Turned, Going}

-- Reading the document d, under any settings, has come to `at`, and the rules, by whatever decisions mean the walks, come there with the state z, of which the
-- marks say what the walks say.
pub record AtMoment (s : List ℕ) (es : List Element) (given : Settings) (d : List ℕ) (at : ℕ) (o : OpenElements) : Type 0 where
  pub line : Line
  pub state : State
  pub passes : (D : Decisions) → Means s es D → Passes given s es D d at line state
  pub marks : MarksSay es o state

-- `Reaches` and `Stands` hold before the first token (`reaches_start`, `stands_fresh`), and by the steps of a start tag or data (`Settles` of settling)
-- and the contract of `closing::end_tag` after each that is not refused: `Going` and `Turned` have both.
pub at_every_moment : {c : Settings} (s : List ℕ) (es : List Element) → Accepts c s es → {given : Settings} {d M begun : List ℕ} {at : ℕ} {l : Line} {o : OpenElements} {z : State} → Stands es M begun o z → Reaches given s es d at l z → AtMoment s es given d at o
at_every_moment s es accepted {d = d} {l = l} {z = z} h r =
    record {
      line = l;
      state = z;
      passes = λ D x. passes_same s es (decided s es) D (accepted_decided s es accepted) x d r.passes;
      marks = marks_say s es accepted h;
    }

-- At the start of each turn of the loop, the first one too.
pub marks_going : {c : Settings} {s elements index rows places facts M lists d begun numbers numbers_now bytes bytes_now : List ℕ} {n at since mark from : ℕ} {o : OpenElements}
    → Going c s elements index rows places facts M lists d begun numbers numbers_now bytes bytes_now n at since mark from o
    → (es : List Element) → Indexed s es elements index → Tables s es rows places facts M → Lists c.name_length s es lists → AtMoment s es c d at o
marks_going {s = s} g es i t l =
    let came = g.any es i t l in
    at_every_moment s es t.accepted came.stands came.reaches

-- After each token that is settled and not refused.
pub marks_turned : {c e : Settings} {s : List ℕ} {es : List Element} → Accepts e s es → {d M begun : List ℕ} (at : ℕ) {after mark from : ℕ} {events : List Event} (r : Outcome)
    → Turned c s es d M begun at after mark from events (Ok r) → AtMoment s es c d after r.open
marks_turned {s = s} {es} a at r (y, came, reach, last) = at_every_moment s es a came.0 reach
