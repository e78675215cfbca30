-- What the open elements of the code stand for, in the rules' terms.
use Rattle.std.specs.Prelude.{ℕ, zero, suc, ◌+◌, ◌-◌, ◌≤◌, ◌<◌, ◌≡◌, Bool, false, List, [], ◌∷◌, ◌++◌, length, get_or, set, replicate}
use Rattle.rules.specs.TypeFile.{Element}
use Rattle.rules.specs.Elements.{content_of}
use Rattle.rules.specs.Settling.{State, take_place}
use Rattle.rules.specs.Settling as rules
use Rattle.rules.specs.Bytes.{GRPGTCNT, TAGLVL, element_limit}
use Rattle.layout.specs.Sizes.{RAISE}
use Rattle.layout.specs.Typed.{place_no, element_no}
use Rattle.document_laws.specs.Decide.{is_complete_in, required_for}
use Rattle.document_laws.specs.Moves as moves
use Rattle.type_tables.specs.Tables.{complete_at, required_at, Tables, Entered, CanTake}
use Rattle.type_tables.specs.Marks.{taking}
use Rattle.and_groups.specs.Takes.{Elsewhere, FREE}
use Rattle.open_elements.specs.declared.Entry.{Entry}
use Rattle.open_elements.specs.declared.OpenElements.{OpenElements}

-- What the methods do

-- What is kept of an open element.
abbrev pub entry : (element place : ℕ) (complete : Bool) (required : ℕ) → Entry
entry e p c q = record { element = e; place = p; complete = c; required = q }

abbrev pub none : Entry
none = entry 0 0 false 0

abbrev pub fresh : OpenElements
fresh = record { around = replicate TAGLVL none; count = 0; element = element_no 0; place = place_no 0; complete = false; required = place_no 1 }

-- What is kept of the current element where another is opened in it.
abbrev pub covered : OpenElements → Entry
covered o = entry o.element.0 o.place.0 o.complete o.required.0

abbrev pub opening : (rows : List ℕ) → ℕ → OpenElements → OpenElements
opening rows k o =
    record {
      around = set o.around o.count (covered o);
      count = o.count + 1;
      element = element_no k;
      place = place_no 0;
      complete = complete_at rows k 0;
      required = place_no (required_at rows k 0);
    }

-- The innermost of those around the current element.
abbrev pub parent_of : OpenElements → Entry
parent_of o = get_or o.around (o.count - 1) none

-- The parent is the current element again, as it was kept.
abbrev pub ended : OpenElements → OpenElements
ended o =
    record {
      around = o.around;
      count = o.count - 1;
      element = element_no (parent_of o).element;
      place = place_no (parent_of o).place;
      complete = (parent_of o).complete;
      required = place_no (parent_of o).required;
    }

-- The elements that are open, the innermost first, and the document last: by their numbers alone.
abbrev pub around_of : List Entry → ℕ → List rules.Open
around_of a zero = []
around_of a (suc n) = moves.fresh (get_or a n none).element ∷ around_of a n

abbrev pub bare : OpenElements → List rules.Open
bare o = moves.fresh o.element.0 ∷ around_of o.around o.count

-- What holds of the numbers, whatever the tables hold

-- The numbers of an open element are ones that the tables have room for.
pub record Within (x : Entry) : Type 0 where
  pub element : x.element ≤ element_limit
  pub place : x.place ≤ GRPGTCNT
  pub required : x.required ≤ GRPGTCNT

-- At most 24 are open, for which the array has room, and all their numbers are such.
pub record Ranged (o : OpenElements) : Type 0 where
  pub whole : length o.around ≡ TAGLVL
  pub few : o.count ≤ TAGLVL
  pub element : o.element.0 ≤ element_limit
  pub place : o.place.0 ≤ GRPGTCNT
  pub required : o.required.0 ≤ GRPGTCNT
  pub kept : (k : ℕ) → k < o.count → Within (get_or o.around k none)

-- What holds from token to token, by the tables of a type

-- What is kept of an open element at the level is that of the rules' open element o: the last of the places taken, the members that have begun, and the
-- marks, which are what the definition says of the places taken. The document itself, and it alone, has the level 0.
pub record Kept (es : List Element) (M begun : List ℕ) (level : ℕ) (x : Entry) (o : rules.Open) : Type 0 where
  pub entered : Entered es M begun level x.element x.place o
  pub complete : x.complete ≡ is_complete_in (content_of es x.element) o.taken
  pub required : x.required ≡ required_for (content_of es x.element) o.taken
  pub document : level ≡ 0 → x.element ≡ 0
  pub inner : 1 ≤ level → 1 ≤ x.element

-- So are the first n entries, the last of them innermost, of the open elements from the innermost outwards.
abbrev pub AllKept : List Element → (M begun : List ℕ) → List Entry → ℕ → List rules.Open → Type 0
AllKept es M begun a zero [] = Unit {0}
AllKept es M begun a zero (o ∷ os) = ⊥
AllKept es M begun a (suc n) [] = ⊥
AllKept es M begun a (suc n) (o ∷ os) = Kept es M begun n (get_or a n none) o × AllKept es M begun a n os

-- The open elements of the code, with the bits of what has begun, stand for the state z of the rules, which has all places taken. At most 24 are open, and the
-- array has room for as many.
pub record Stands (es : List Element) (M begun : List ℕ) (o : OpenElements) (z : State) : Type 0 where
  pub whole : length o.around ≡ TAGLVL
  pub few : o.count ≤ TAGLVL
  pub current : Kept es M begun o.count (covered o) z.current
  pub around : AllKept es M begun o.around o.count z.around

-- The marks that are left of those of a row, by what the groups around the place answer: `FREE` where none lacks a member.
pub record Weighs (m : ℕ) (row : Bool) (kept : ℕ) (complete : Bool) (required : ℕ) : Type 0 where
  pub held : (m ≡ FREE → ⊥) → (complete ≡ false) × (required ≡ m)
  pub free : m ≡ FREE → (complete ≡ row) × (required ≤ GRPGTCNT) × (GRPGTCNT < kept → kept ≤ RAISE + GRPGTCNT → required ≡ kept - RAISE)

-- The place p is taken at the level in the element e, after the place u, and these are its marks. The bits of the other levels are as they were; by the tables
-- of a type the marks are what the definition says of the places taken.
pub record Marking (rows M before : List ℕ) (level e u p : ℕ) (after : List ℕ) (complete : Bool) (required : ℕ) : Type 0 where
  pub small : required ≤ GRPGTCNT
  pub whole : length after ≡ length before
  pub elsewhere : Elsewhere level before after
  pub marks : (s : List ℕ) (es : List Element) (places facts : List ℕ) → Tables s es rows places facts M → (o : rules.Open) → Entered es M before level e u o → CanTake es o p
      → Entered es M after level e p (taking p o) × (complete ≡ is_complete_in (content_of es e) (o.taken ++ p ∷ [])) × (required ≡ required_for (content_of es e) (o.taken ++ p ∷ []))

-- The place p is taken in the current element: the state is as it was but for the place and its marks, and the bits but for those of this level. By the
-- tables of a type it then stands for the rules' state with this place taken.
pub record Taking (rows M before : List ℕ) (p : ℕ) (o r : OpenElements) (after : List ℕ) : Type 0 where
  pub around : r.around ≡ o.around
  pub count : r.count ≡ o.count
  pub element : r.element ≡ o.element
  pub place : r.place.0 ≡ p
  pub small : r.required.0 ≤ GRPGTCNT
  pub whole : length after ≡ length before
  pub elsewhere : Elsewhere o.count before after
  pub stands : (s : List ℕ) (es : List Element) (places facts : List ℕ) → Tables s es rows places facts M → (z : State) → Stands es M before o z → CanTake es z.current p → Stands es M after r (take_place p z)

-- The required place is taken, and the element k opened there.
pub record Starting (rows M before : List ℕ) (k : ℕ) (o r : OpenElements) (after : List ℕ) : Type 0 where
  pub taken : OpenElements
  pub taking : Taking rows M before o.required.0 o taken after
  pub opens : r ≡ opening rows k taken
