-- What each event does to the open elements (paper 01, "The document"): the acts of which a reading consists, one after another, with the
-- states between, and what the marks of an open element say of the places taken in it (paper 02, request four). What holds of every state that
-- the acts of a reading pass holds at every moment of it.
use Rattle.std.specs.Prelude.{ℕ, zero, suc, ◌≤◌, ◌<◌, ◌≡◌, Bool, true, false, ◌⊎◌, ◌↔◌, List, [], ◌∷◌, ◌++◌, length}
use Rattle.rules.specs.Settings.{Settings}
use Rattle.rules.specs.Bytes.{TAGLVL}
use Rattle.rules.specs.Reading.{got}
use Rattle.rules.specs.Walk.{Group, Begins, Complete, Required}
use Rattle.rules.specs.TypeFile.{Place, model, Element}
use Rattle.rules.specs.Document.{Piece}
use Rattle.rules.specs.Elements.{content_of, has_model, end_o}
use Rattle.rules.specs.Decisions.{start, pcdata, Fits, Decisions}
use Rattle.rules.specs.Events.{Event, start_written, start_inferred, end_written, end_inferred, data_run, end_of_empty, with_data}
use Rattle.rules.specs.Settling.{Open, State, nothing_open, take_place, place_taken, enter, note, fitting, is_complete, required_place, inferable, take_token}
use Rattle.rules.specs.Records.{Line, new_line, line_after}
use Rattle.rules.specs.Reader.{Reached, piece_under, settle_piece}

-- Acts

-- The number is that of an element of the type.
abbrev pub Declared : List Element → ℕ → Type 0
Declared es k = (1 ≤ k) × (k ≤ length es)

-- One act, from the state z to another.
pub data Act (s : List ℕ) (es : List Element) (D : Decisions) (z : State) : State → Type 0 where
  -- A start tag "fits as the next place", which it takes, and its element, which has a model, is opened.
  starts : (k at after : ℕ) → Declared es k → 1 ≤ fitting s es D z.current (start k) → has_model (content_of es k) ≡ true
      → Act s es D z (note (start_written k at after (place_taken (take_token s es D (start k) z).current)) (enter k (take_token s es D (start k) z)))
  -- "An EMPTY element is open for an instant and counts toward 24": it has taken its place, and what is open stays.
  empties : (k at after : ℕ) → Declared es k → 1 ≤ fitting s es D z.current (start k) → has_model (content_of es k) ≡ false → length z.around < TAGLVL
      → Act s es D z (note (end_of_empty k after) (note (start_written k at after (place_taken (take_token s es D (start k) z).current)) (take_token s es D (start k) z)))
  -- A start is inferred: the required place is taken, and its element opened.
  infers : (k at : ℕ) → inferable s es D z.current ≡ k → 1 ≤ k
      → Act s es D z (note (start_inferred k at (place_taken (take_place (required_place s es D z.current) z).current)) (enter k (take_place (required_place s es D z.current) z)))
  -- A data byte takes the place as which it fits.
  data_byte_lem : (at : ℕ) → 1 ≤ fitting s es D z.current pcdata
      → Act s es D z (record { current = (take_token s es D pcdata z).current; around = z.around; events = with_data at z.events })
  -- An end is inferred: the content is complete and the end is "O". The parent u is the current element again.
  infers_end : (u : Open) (us : List Open) (at : ℕ) → z.around ≡ u ∷ us → is_complete s es D z.current ≡ true → end_o es z.current.element ≡ true
      → Act s es D z (record { current = u; around = us; events = z.events ++ end_inferred z.current.element at ∷ [] })
  -- An end tag closes its element, whose content is complete.
  ends : (u : Open) (us : List Open) (at after : ℕ) → z.around ≡ u ∷ us → is_complete s es D z.current ≡ true
      → Act s es D z (record { current = u; around = us; events = z.events ++ end_written z.current.element at after ∷ [] })

-- Acts one after another, where P holds of each state that is passed, the first and the last among them.
pub data Acts (s : List ℕ) (es : List Element) (D : Decisions) (P : State → Type 0) : State → State → Type 0 where
  still : {z : State} → P z → Acts s es D P z z
  next : {z y x : State} → P z → Act s es D z y → Acts s es D P y x → Acts s es D P z x

-- What each event did

-- n data bytes one after another, each of which takes the place as which it fits.
abbrev pub data_taken : List ℕ → List Element → Decisions → (n : ℕ) → State → State
data_taken s es D zero z = z
data_taken s es D (suc n) z = take_token s es D pcdata (data_taken s es D n z)

-- What one event did to the open elements, from the state z to another, which has that event last; both events of an EMPTY element are one deed.
pub data Deed (s : List ℕ) (es : List Element) (D : Decisions) (z : State) : State → Type 0 where
  -- A start tag took the place as which it fits, and opened its element.
  opened : (k at after : ℕ) → Declared es k → 1 ≤ fitting s es D z.current (start k) → has_model (content_of es k) ≡ true
      → Deed s es D z (note (start_written k at after (place_taken (take_token s es D (start k) z).current)) (enter k (take_token s es D (start k) z)))
  -- The start tag of an EMPTY element took the place as which it fits, and its end comes right behind it: what is open stays.
  passed : (k at after : ℕ) → Declared es k → 1 ≤ fitting s es D z.current (start k) → has_model (content_of es k) ≡ false → length z.around < TAGLVL
      → Deed s es D z (note (end_of_empty k after) (note (start_written k at after (place_taken (take_token s es D (start k) z).current)) (take_token s es D (start k) z)))
  -- A start that is inferred took the required place, and opened the element that is named there.
  inferred : (k at : ℕ) → inferable s es D z.current ≡ k → 1 ≤ k
      → Deed s es D z (note (start_inferred k at (place_taken (take_place (required_place s es D z.current) z).current)) (enter k (take_place (required_place s es D z.current) z)))
  -- Each byte of a run of data fitted, and took its place.
  fitted : (at size : ℕ) → 1 ≤ size → ((k : ℕ) → k < size → 1 ≤ fitting s es D (data_taken s es D k z).current pcdata) → Deed s es D z (note (data_run at size) (data_taken s es D size z))
  -- An end that is inferred closed an element that was complete and whose end is "O".
  inferred_end : (u : Open) (us : List Open) (at : ℕ) → z.around ≡ u ∷ us → is_complete s es D z.current ≡ true → end_o es z.current.element ≡ true
      → Deed s es D z (record { current = u; around = us; events = z.events ++ end_inferred z.current.element at ∷ [] })
  -- An end tag closed an element that was complete.
  closed : (u : Open) (us : List Open) (at after : ℕ) → z.around ≡ u ∷ us → is_complete s es D z.current ≡ true
      → Deed s es D z (record { current = u; around = us; events = z.events ++ end_written z.current.element at after ∷ [] })

-- The state z is what its events did, one after another, from nothing open on.
pub data Deeds (s : List ℕ) (es : List Element) (D : Decisions) : State → Type 0 where
  nothing : Deeds s es D nothing_open
  then : {z y : State} → Deeds s es D z → Deed s es D z y → Deeds s es D y

-- Places taken

-- Kind 1, "start tag written", or 2, "start tag inferred".
abbrev pub IsStart : Event → Type 0
IsStart e = (e.kind ≡ 1) ⊎ (e.kind ≡ 2)

-- "Start events get a fifth number: the place they took in their parent's model, 0 for the document element". The parent, where places were taken before,
-- is the document itself, and the element is the first that is declared; or it is an element whose model has that place: it has the name of the start's
-- element, it could come next after the places taken, and every place of that name that could come next is this one.
pub data Took (s : List ℕ) (es : List Element) (parent : Open) (e : Event) : Type 0 where
  document_element : parent.element ≡ 0 → e.number ≡ 1 → e.place ≡ 0 → Took s es parent e
  in_model : (g : Group) (ps : List Place) (n : ℕ) → 1 ≤ parent.element → content_of es parent.element ≡ model g ps n → Begins g parent.taken
      → (1 ≤ e.place) × (e.place ≤ length ps) → Fits s es g ps parent.taken (start e.number) e.place
      → ((q : ℕ) → Fits s es g ps parent.taken (start e.number) q → q ≡ e.place) → Took s es parent e

-- The states that reading comes to between pieces, and how many are open

-- Reading the document d under the settings c, piece by piece, comes to `at` with the state z.
pub data Passes (c : Settings) (s : List ℕ) (es : List Element) (D : Decisions) (d : List ℕ) : ℕ → Line → State → Type 0 where
  begins : Passes c s es D d 0 new_line nothing_open
  goes : {at : ℕ} {l : Line} {z : State} {p : Piece} (r : Reached) → Passes c s es D d at l z → at < length d → piece_under c s es d at l z.current ≡ got p → settle_piece s es D d p at z ≡ got r
      → Passes c s es D d r.at (line_after s es D d p at l z) r.state

-- "TAGLVL 24 open elements": at most 24 stand around the current one, which is how many are open, since the outermost of them is the document itself.
abbrev pub Few : State → Type 0
Few z = length z.around ≤ TAGLVL

-- Marks

-- "Store the mark, and the required place if there is one, with each open element. At every moment both must equal what 01's definition says of
-- the places taken": the mark is true exactly where the places taken in the model g are a walk, and the place is p exactly where p is required,
-- 0 where none is.
pub record MarksMean (mark : Bool) (place : ℕ) (g : Group) (taken : List ℕ) : Type 0 where
  pub complete : (mark ≡ true) ↔ Complete g taken
  pub required : (p : ℕ) → 1 ≤ p → (place ≡ p) ↔ Required g taken p
  pub none : (place ≡ 0) ↔ ((p : ℕ) → Required g taken p → ⊥)
