-- What has become of a token, in the rules' terms, once all its steps were taken.
use Rattle.std.specs.Prelude.{ℕ, zero, suc, ◌+◌, ◌-◌, ◌*◌, ◌≤◌, ◌<◌, ◌≡◌, refl, Bool, List, ◌++◌, length}
use Rattle.rules.specs.Reading.{Reading, refused, got}
use Rattle.rules.specs.TypeFile.{Element}
use Rattle.rules.specs.Document.{Tag, start_tag_at}
use Rattle.rules.specs.Elements.{element_at}
use Rattle.rules.specs.Events.{Event}
use Rattle.rules.specs.Given.{with_attributes}
use Rattle.rules.specs.Settling.{State, start_element}
use Rattle.rules.specs.Bytes.{TAGLVL, ATTCNT}
use Rattle.document_laws.specs.Decide.{decided}
use Rattle.turn_laws.specs.RunAtOnce.{take_run}
use Rattle.list_table.specs.Lists.{Lists}
use Rattle.attribute_marks.specs.Marks.{Marked}
use Rattle.type_tables.specs.Tables.{Tables}
use Rattle.open_elements.specs.declared.OpenElements.{OpenElements}
use Rattle.open_elements.specs.declared.Outcome.{Outcome}
use Rattle.open_elements.specs.Stands.{Ranged, Stands}
use Rattle.open_elements.specs.Becomes.{Got, StandsWith}
use Rattle.event_buffer.specs.Buffers.{Puts}
use Rattle.inferring.specs.Inferring.{EndsAt, StartsAt}
use Rattle.placing.specs.Noting.{written_of, shown_of}
use Rattle.std.proofs.Common.{arith}

-- What the rules make of a start tag of the element x, or of a run of data for 0, from `at` to `after`.
abbrev pub takes : List ℕ → List Element → (x at after : ℕ) → State → Reading State
takes s es zero at after z = take_run s es (decided s es) at (after - at) z
takes s es (suc k) at after z = start_element s es (decided s es) (suc k) at after z

module _ (s : List ℕ) (es : List Element) (at after : ℕ) (z : State) where
  pub takes_start : (x : ℕ) → 1 ≤ x → takes s es x at after z ≡ start_element s es (decided s es) x at after z
  takes_start zero l = absurd (omega arith)
  takes_start (suc k) l = refl

  pub takes_run : (x : ℕ) → x ≡ 0 → takes s es x at after z ≡ take_run s es (decided s es) at (after - at) z
  takes_run zero l = refl
  takes_run (suc k) l = absurd (omega arith)

-- What the start tag of the element x at `at` gives is marked.
pub record Gives (long : ℕ) (s : List ℕ) (es : List Element) (d : List ℕ) (x at : ℕ) (marks : List ℕ) : Type 0 where
  pub tag : Tag
  pub there : start_tag_at long d (at + 1) ≡ got tag
  pub marked : Marked s (element_at es (x - 1)).attributes d tag.written marks

-- By the tables of a type the rules refuse the token by this number, wherever the open elements stand for a state of the rules, up to whatever `after` a run of data
-- reaches; a tag ends at `shown`.
abbrev pub RefusesToken : (rows places facts M : List ℕ) (x at shown : ℕ) (o : OpenElements) (begun : List ℕ) (number : ℕ) → Type 0
RefusesToken rows places facts M x at shown o begun number =
    (s : List ℕ) (es : List Element) → Tables s es rows places facts M → (z : State) → Stands es M begun o z → x ≤ length es → (after : ℕ) → (1 ≤ x → after ≡ shown)
    → takes s es x at after z ≡ refused number at

-- The token is not refused. Whatever the tables hold, the state stays in range. `ends` are the events of the ends that were inferred first; what is put behind m events, of
-- the starts that are inferred then and of the token itself, are at most 1026. By the tables of a type the events of the token are what the rules make of it, wherever the
-- open elements stand for a state of the rules, up to whatever `after` a run of data reaches; a tag ends at `shown`. By the lists of the type what is put are the events of
-- the starts and what is shown of the token's own, with the attribute events before each start, those of a tag by its marks. The m events need not be those behind the
-- ends: the buffers may change between.
pub record Settles (rows places facts M lists marks : List ℕ) (x at shown : ℕ) (o : OpenElements) (begun : List ℕ) (ends : List Event) (m : ℕ) (numbers bytes : List ℕ) (r : Outcome) (begun' numbers' bytes' : List ℕ) : Type 0 where
  pub ranged : Ranged r.open
  pub whole : length begun' ≡ length begun
  pub ended : EndsAt at ends
  pub starts : List Event
  pub started : StartsAt at starts
  -- Whether the element opens, and the place that it shows.
  pub opens : Bool
  pub taken : ℕ
  pub written : List Event
  pub puts : Puts numbers bytes m written numbers' bytes'
  pub counted : r.events ≡ m + length written
  pub few : length written ≤ TAGLVL * (ATTCNT + 1) + ATTCNT + 2
  pub settles : (s : List ℕ) (es : List Element) → Tables s es rows places facts M → (z : State) → Stands es M begun o z → x ≤ length es → (after : ℕ) → (1 ≤ x → after ≡ shown)
      → Got (StandsWith es M begun' r.open (((z.events ++ ends) ++ starts) ++ written_of x opens taken at after)) (takes s es x at after z)
  pub adds : (s : List ℕ) (es : List Element) → Tables s es rows places facts M → (z : State) → Stands es M begun o z → x ≤ length es
      → (long : ℕ) (d : List ℕ) → Lists long s es lists → (1 ≤ x → Gives long s es d x at marks) → written ≡ with_attributes long s es d (starts ++ shown_of x opens taken at shown)
