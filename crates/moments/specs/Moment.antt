-- The open elements of the program beside the state of the rules, act by act.
use Rattle.std.specs.Prelude.{ℕ, ◌≤◌, ◌<◌, ◌≡◌, true, List, length, get_or}
use Rattle.rules.specs.TypeFile.{Element}
use Rattle.rules.specs.Decisions.{start, pcdata, Decisions}
use Rattle.rules.specs.Settling.{State, fitting}
use Rattle.rules.specs.Acts.{Act, starts, empties, infers, data_byte_lem, infers_end, ends, Acts, Few}
use Rattle.rules.specs.Acts as act
use Rattle.rules.specs.Bytes.{GRPGTCNT, TAGLVL, element_limit}
use Rattle.document_laws.specs.Same.{AllBegun}
use Rattle.open_elements.specs.declared.OpenElements.{OpenElements}
use Rattle.open_elements.specs.Stands.{none, opening, ended, Ranged, Stands, Taking, Starting}
use Rattle.open_elements.specs.Marks.{MarksSay}

-- One moment: z is the state of the rules, with all places taken, o are the open elements of the program, and `bits` is what it keeps of the members of "&"
-- groups that have begun, where M is the table of members.
pub record Moment (es : List Element) (M bits : List ℕ) (z : State) (o : OpenElements) : Type 0 where
  -- As many are open in the one as in the other, 0 to 24, and all numbers are in range.
  pub many : o.count ≡ length z.around
  pub ranged : Ranged o
  -- The program has the last place of each open element and the members that have begun, and stands for the rules' state.
  pub stands : Stands es M bits o z
  -- The places taken begin walks, and the marks say what the walks say of them.
  pub begun : AllBegun es z
  pub marks : MarksSay es o z

module _ (s : List ℕ) (es : List Element) (D : Decisions) (rows M : List ℕ) where
  -- What the methods of the open elements make of an act, by what they promise: a start takes its place and opens its element, an EMPTY element and a data byte
  -- take their place, an end makes the parent the current element again.
  abbrev pub Does : {z y : State} → Act s es D z y → (o : OpenElements) (bits : List ℕ) (q : OpenElements) (bits' : List ℕ) → Type 0
  Does {z} (starts k at after d f m) o b q b' = (r : OpenElements) × Taking rows M b (fitting s es D z.current (start k)) o r b' × (q ≡ opening rows k r)
  Does {z} (empties k at after d f m l) o b q b' = Taking rows M b (fitting s es D z.current (start k)) o q b'
  Does {z} (infers k at e l) o b q b' = Starting rows M b k o q b'
  Does {z} (data_byte_lem at f) o b q b' = Taking rows M b (fitting s es D z.current pcdata) o q b'
  Does {z} (infers_end u us at e c l) o b q b' = (q ≡ ended o) × (b' ≡ b)
  Does {z} (ends u us at after e c) o b q b' = (q ≡ ended o) × (b' ≡ b)

  -- What they ask for, so that they may be called.
  abbrev pub Asks : {z y : State} → Act s es D z y → OpenElements → Type 0
  Asks {z} (starts k at after d f m) o = Ranged o × (fitting s es D z.current (start k) ≤ GRPGTCNT) × (o.count < TAGLVL) × (k ≤ element_limit)
  Asks {z} (empties k at after d f m l) o = Ranged o × (fitting s es D z.current (start k) ≤ GRPGTCNT)
  Asks {z} (infers k at e l) o = Ranged o × (o.count < TAGLVL) × (k ≤ element_limit)
  Asks {z} (data_byte_lem at f) o = Ranged o × (fitting s es D z.current pcdata ≤ GRPGTCNT)
  Asks {z} (infers_end u us at e c l) o = Ranged o × (1 ≤ o.count) × (o.complete ≡ true)
  Asks {z} (ends u us at after e c) o = Ranged o × (1 ≤ o.count)

  -- Along these acts there is a moment before and after each: the methods may be called, and whatever they then make of the act, the moments go on from that.
  abbrev pub Along : {z y : State} → Acts s es D Few z y → OpenElements → (bits : List ℕ) → Type 0
  Along {z} (act.still f) o b = Moment es M b z o
  Along {z} (act.next f a r) o b = Moment es M b z o × Asks a o × ((v : OpenElements) (b' : List ℕ) → Does a o b v b' → Along r v b')

-- Acts one after another, from z to x in the rules, and beside them the methods of the program from o on, a moment before and after each.
pub record Beside (s : List ℕ) (es : List Element) (D : Decisions) (rows M : List ℕ) (z : State) (o : OpenElements) (bits : List ℕ) (x : State) : Type 0 where
  pub acts : Acts s es D Few z x
  pub moments : Along s es D rows M acts o bits

-- The open elements of the program are the same in all that is ever read of them: entries of the array that are not open are not.
pub record Alike (o q : OpenElements) : Type 0 where
  pub count : o.count ≡ q.count
  pub element : o.element.0 ≡ q.element.0
  pub place : o.place.0 ≡ q.place.0
  pub complete : o.complete ≡ q.complete
  pub required : o.required.0 ≡ q.required.0
  pub around : (k : ℕ) → k < o.count → get_or o.around k none ≡ get_or q.around k none

-- From the moment at which the rules have z and the program o, acts lead to the rules' state y, and whatever open elements the methods lead to beside it are
-- alike to r. There is a moment again with r itself, from which what comes next may lead on.
pub record Leads (s : List ℕ) (es : List Element) (D : Decisions) (rows M : List ℕ) (z : State) (o : OpenElements) (bits : List ℕ) (y : State) (r : OpenElements) (bits' : List ℕ) : Type 0 where
  pub beside : Beside s es D rows M z o bits y
  pub alike : (q : OpenElements) (other : List ℕ) → Moment es M other y q → Alike r q
  pub there : Moment es M bits' y r
