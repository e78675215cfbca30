-- What stands at a position: what the code finds there, from the token, and where reading goes on.
use Rattle.std.specs.Prelude.{ℕ, Result, Ok, Err, ◌+◌, ◌*◌, ◌-◌, ◌≤◌, ◌<◌, ◌≡◌, refl, List, [], ◌∷◌, length}
use Rattle.std.proofs.Common.{sym, ◌∙◌, subst, arith}
use Rattle.std.proofs.Math.ListN.{get_or-eq_default}
use borrow.Author.Tests.{le-leb, lt-leb}
use Rattle.rules.specs.Settings.{most_name_length}
use Rattle.rules.specs.Bytes.{element_limit}
use Rattle.rules.specs.Reading.{got}
use Rattle.rules.specs.Attributes.{Attribute}
use Rattle.rules.specs.TypeFile.{Element}
use Rattle.rules.specs.Document.{Written, Tag, start_tag, end_tag, skipped, piece}
use Rattle.rules.specs.Elements.{element_at, number_of}
use Rattle.rules.specs.Given.{all_listed, all_fit, none_missing, attributed, piece_attributed}
use Rattle.layout.specs.declared.ElementNo.{ElementNo}
use Rattle.type_laws.specs.Names.{number_of_range}
use Rattle.text.specs.declared.Fault.{Fault}
use Rattle.text.specs.declared.Refusal.TheVariants.{Undeclared}
use Rattle.text.specs.Refusal.{fault_at, refusal_of}
use Rattle.layout.specs.Sizes.{LIST}
use Rattle.rules_laws.specs.Holds.{got_so}
use Rattle.rules_laws.specs.Pieces.{TagRead, piece_read, piece_short}
use Rattle.tag_attributes.specs.Given.{kept_of, KeptAs}
use Rattle.element_index.specs.Indexed.{Indexed}
use Rattle.list_table.specs.Lists.{ListAt, Lists}
use Rattle.attribute_marks.specs.Differ.{NamesDiffer, lists_differ}
use Rattle.attribute_marks.specs.Marks.{Marked, Attributed}
use Rattle.pieces.specs.declared.Found.{Found}
use Rattle.pieces.specs.declared.Found.TheVariants as found
use Rattle.pieces.specs.Finds.{Named, Unread, misgiven, undeclared_start, undeclared_end, Starts, Finds, MovesOn, Onward}

-- From the token

-- What the index asks of a tag's name.
abbrev pub NameAsked : List ℕ → Tag → Type 0
NameAsked d t = (1 ≤ t.size) × (t.size ≤ most_name_length) × (t.name + t.size ≤ length d)

module _ (long : ℕ) (most : long ≤ most_name_length) (d : List ℕ) (at : ℕ) (h : at < length d) {t : Tag} where
  asked : TagRead d at t → t.size ≤ long → NameAsked d t
  asked r l = (r.some, omega arith, omega (arith, r.ends, r.inside))

  pub start_tag_asked : piece long d at ≡ got (start_tag t) → NameAsked d t
  start_tag_asked e = asked (got_so (piece_read long d at h) e) (got_so (piece_short long d at) e)

  pub end_tag_asked : piece long d at ≡ got (end_tag t) → NameAsked d t
  end_tag_asked e = asked (got_so (piece_read long d at h) e) (got_so (piece_short long d at) e)

-- A refusal that is passed on as r: by its number and position, and it moves on nowhere.
pub refused_as : (long : ℕ) (s : List ℕ) (es : List Element) (d : List ℕ) (at : ℕ) {r : Result Found Fault} {f : Fault} (marks : List ℕ)
    → r ≡ Err f → Unread long s es d at f.number f.at → Finds long s es d at r marks
refused_as long s es d at marks w u = rw w u

pub onward_refused : (len at : ℕ) {r : Result Found Fault} {f : Fault} → r ≡ Err f → Onward len at r
onward_refused len at w = rw w tt

-- A tag whose element is x, or 0.
module _ (long : ℕ) (s : List ℕ) (es : List Element) (d : List ℕ) (at : ℕ) {t : Tag} {x : ℕ} (q : x ≡ number_of s es d t.name t.size) where
  end_named : piece long d at ≡ got (end_tag t) → Named long s es d end_tag at x t.after
  unfolding piece_attributed
  end_named p = record { name = t.name; size = t.size; written = t.written; there = p; listed = refl; number = sym q }

  start_named : piece long d at ≡ got (start_tag t) → piece_attributed long s es d at (start_tag t) ≡ got tt
      → Named long s es d start_tag at x t.after
  start_named p i = record { name = t.name; size = t.size; written = t.written; there = p; listed = i; number = sym q }

  pub finds_end : piece long d at ≡ got (end_tag t) → 1 ≤ x → Named long s es d end_tag at x t.after × (1 ≤ x)
  finds_end p some = (end_named p, some)

  -- The attributes of a tag whose name is not declared are held against no list.
  none_listed : x ≡ 0 → piece long d at ≡ got (start_tag t) → piece_attributed long s es d at (start_tag t) ≡ got tt
  unfolding piece_attributed
  none_listed z p = rw (lt-leb 1 (number_of s es d t.name t.size) (omega (arith, q)), piece_attributed)

  -- A start tag, whose attributes are held against the list of the element: r is what the code says of them.
  module _ (e : piece long d at ≡ got (start_tag t)) (some : 1 ≤ x) where
    held_so : piece_attributed long s es d at (start_tag t) ≡ attributed long s (element_at es (x - 1)).attributes d at t.written
    unfolding piece_attributed
    held_so = rw (sym q, piece_attributed, le-leb 1 x some, sym q)

    -- Its list is in the table, and the names in it differ, as in every type.
    pub list_held : (elements index lists given : List ℕ) (n : ℕ) → Indexed s es elements index → Lists long s es lists → KeptAs given n t.written
        → (marks : List ℕ) (r : Result (Unit {0}) Fault)
        → ((xs : List Attribute) (ws : List Written) → ListAt long s lists (LIST * (x - 1)) xs → NamesDiffer s xs → KeptAs given n ws → Attributed s xs d ws marks r (attributed long s xs d at ws))
        → Attributed s (element_at es (x - 1)).attributes d t.written marks r (attributed long s (element_at es (x - 1)).attributes d at t.written)
    list_held elements index lists given n i l k marks r said =
        let declared : x - 1 < length es = omega (arith, q, number_of_range s es d t.name t.size) in
        said (element_at es (x - 1)).attributes t.written (l (x - 1) declared) (lists_differ i.settings.name_length s es i.accepted.elements (x - 1) declared) k

    pub finds_misgiven : {f : Fault} → attributed long s (element_at es (x - 1)).attributes d at t.written ≡ refusal_of f → Unread long s es d at f.number f.at
    finds_misgiven a = misgiven e (held_so ∙ a)

    pub finds_start : (marks : List ℕ) → attributed long s (element_at es (x - 1)).attributes d at t.written ≡ got tt
        → Marked s (element_at es (x - 1)).attributes d t.written marks → Starts long s es d at x t.after marks
    finds_start marks a m = record { some = some; tag = start_named e (held_so ∙ a); marked = marked }
      where
        marked : (u : Tag) → piece long d at ≡ got (start_tag u) → Marked s (element_at es (x - 1)).attributes d u.written marks
        marked u p = let same : t ≡ u = cc in subst (λ (v : Tag). Marked s (element_at es (x - 1)).attributes d v.written marks) same m

-- A tag of a name that is not declared.
module _ (long : ℕ) (s : List ℕ) (es : List Element) (d : List ℕ) (at : ℕ) {t : Tag} {f : Fault}
    (u : (number_of s es d t.name t.size ≡ 0) × (f ≡ fault_at Undeclared at)) where
  pub finds_undeclared_start : piece long d at ≡ got (start_tag t) → Unread long s es d at f.number f.at
  finds_undeclared_start p = rw u.1 (undeclared_start (start_named long s es d at (sym u.0) p (none_listed long s es d at (sym u.0) refl p)) refl refl)

  pub finds_undeclared_end : piece long d at ≡ got (end_tag t) → Unread long s es d at f.number f.at
  finds_undeclared_end p = rw u.1 (undeclared_end (end_named long s es d at (sym u.0) p) refl refl)

-- Where no element has a list and none is given there is nothing to hold.
nothing_given : (given : List ℕ) (ws : List Written) → KeptAs given 0 ws → ws ≡ []
unfolding kept_of
nothing_given given [] k = refl
nothing_given given (w ∷ ws) k = let z : ◌≡◌ {A = ℕ} 0 1 = cc k.kept in absurd (omega arith)

none_held : (long : ℕ) (s : List ℕ) (xs : List Attribute) (d : List ℕ) (at : ℕ) (ws : List Written) → length xs ≡ 0 → ws ≡ [] → attributed long s xs d at ws ≡ got tt
unfolding attributed all_listed all_fit none_missing
none_held long s [] d at [] h e = refl
none_held long s [] d at (w ∷ ws) h e = let z : ◌≡◌ {A = ℕ} 0 1 = cc in absurd (omega arith)
none_held long s (a ∷ xs) d at ws h e = absurd (omega (arith, h))

pub attributed_none : (long : ℕ) (s lists d given marks : List ℕ) (at b n : ℕ) → n ≡ 0 → length lists ≡ 0 → (xs : List Attribute) (ws : List Written) → ListAt long s lists b xs → KeptAs given n ws
    → Attributed s xs d ws marks (Ok tt) (attributed long s xs d at ws)
attributed_none long s lists d given marks at b n z h xs ws l k =
    let few : length xs ≡ 0 = sym l.counted ∙ get_or-eq_default lists 0 (omega arith) in
    (none_held long s xs d at ws few (nothing_given given ws (rw z at k)), λ j i. absurd (omega (arith, i, few)))

-- Where reading goes on

module _ (d : List ℕ) (at : ℕ) (h : at < length d) where
  module _ {t : Tag} {x : ElementNo} (few : x.0 ≤ element_limit) where
    onward_tag : TagRead d at t → (x.0 ≤ element_limit) × (at < t.after) × (t.after ≤ length d)
    onward_tag r = (few, omega (arith, r.behind, r.ends), r.inside)

    pub onward_start : (long : ℕ) → piece long d at ≡ got (start_tag t) → MovesOn (length d) at (found.Start x t.after)
    onward_start long e = onward_tag (got_so (piece_read long d at h) e)

    pub onward_end : (long : ℕ) → piece long d at ≡ got (end_tag t) → MovesOn (length d) at (found.End x t.after)
    onward_end long e = onward_tag (got_so (piece_read long d at h) e)

  pub onward_skipped : (long : ℕ) {after : ℕ} → piece long d at ≡ got (skipped after) → MovesOn (length d) at (found.Passed after)
  onward_skipped long e = omega (arith, got_so (piece_read long d at h) e)
