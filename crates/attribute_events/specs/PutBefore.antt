-- The attribute events before a start event, as they are put.
use Rattle.std.specs.Prelude.{ℕ, ◌+◌, ◌*◌, ◌-◌, ◌≤◌, ◌<◌, ◌≡◌, List, [], ◌∷◌, length, take}
use Rattle.rules.specs.Bytes.{ATTCNT}
use Rattle.rules.specs.Attributes.{Attribute, attribute_at}
use Rattle.rules.specs.Document.{Written}
use Rattle.rules.specs.Events.{Event}
use Rattle.rules.specs.Given.{attribute_event, attribute_events}
use Rattle.layout.specs.Sizes.{LIST}
use Rattle.event_buffer.specs.Buffers.{Puts}
use Rattle.list_table.specs.Lists.{ListAt}
use Rattle.attribute_marks.specs.Marks.{Marked}

-- At most so many events are put behind n others, whatever the tables hold, and none for data, for which e is 0.
pub record PutsFew (most e n : ℕ) (numbers bytes : List ℕ) (r : ℕ) (numbers' bytes' : List ℕ) (events : List Event) : Type 0 where
  pub puts : Puts numbers bytes n events numbers' bytes'
  pub counted : r ≡ n + length events
  pub few : length events ≤ most
  pub nothing : e ≡ 0 → events ≡ []

-- Those of a tag of the element e, marked: by the list of its attributes they are the rules' events.
pub record PutsWritten (lists marks : List ℕ) (e n : ℕ) (numbers bytes : List ℕ) (r : ℕ) (numbers' bytes' : List ℕ) : Type 0 where
  pub events : List Event
  pub few : PutsFew ATTCNT e n numbers bytes r numbers' bytes' events
  pub are : (long : ℕ) (s d : List ℕ) (xs : List Attribute) (ws : List Written) → 1 ≤ e → ListAt long s lists (LIST * (e - 1)) xs → Marked s xs d ws marks → events ≡ attribute_events 1 s xs d ws

-- Those of a start of the element e that is inferred: a tag that gives nothing.
pub record PutsDefaults (lists : List ℕ) (e n : ℕ) (numbers bytes : List ℕ) (r : ℕ) (numbers' bytes' : List ℕ) : Type 0 where
  pub events : List Event
  pub few : PutsFew ATTCNT e n numbers bytes r numbers' bytes' events
  pub are : (long : ℕ) (s d : List ℕ) (xs : List Attribute) → 1 ≤ e → ListAt long s lists (LIST * (e - 1)) xs → events ≡ attribute_events 1 s xs d []

-- The two marks of an attribute say that a tag gives it so: at 0 it is not written, since a value never begins there.
abbrev pub MarkedWith : (at size : ℕ) → List Written → Type 0
MarkedWith at size [] = at ≡ 0
MarkedWith at size (w ∷ ws) = (at ≡ w.quote + 1) × (size ≡ w.width)

-- That of the attribute k of the element e, from 0, of which the marks are these two numbers.
pub record PutsOne (lists : List ℕ) (e k at size n : ℕ) (numbers bytes : List ℕ) (r : ℕ) (numbers' bytes' : List ℕ) : Type 0 where
  pub events : List Event
  pub few : PutsFew 1 e n numbers bytes r numbers' bytes' events
  pub are : (long : ℕ) (s : List ℕ) (xs : List Attribute) (ws : List Written) → ListAt long s lists (LIST * (e - 1)) xs → k < length xs → MarkedWith at size ws → events ≡ attribute_event (k + 1) (attribute_at xs k).default ws

-- Those of the first k attributes of the element e, with these marks.
pub record PutsFirst (lists marks : List ℕ) (e k n : ℕ) (numbers bytes : List ℕ) (r : ℕ) (numbers' bytes' : List ℕ) : Type 0 where
  pub events : List Event
  pub few : PutsFew k e n numbers bytes r numbers' bytes' events
  pub are : (long : ℕ) (s d : List ℕ) (xs : List Attribute) (ws : List Written) → 1 ≤ e → ListAt long s lists (LIST * (e - 1)) xs → Marked s xs d ws marks → k ≤ length xs → events ≡ attribute_events 1 s (take k xs) d ws
