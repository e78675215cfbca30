-- The terms of the demands: what a refusal and an acceptance are, and demand 3's terms about models.
use Rattle.std.specs.Prelude.{ℕ, ◌+◌, ◌-◌, ◌*◌, ◌<◌, ◌≤◌, ◌≡◌, true, ◌⊎◌, ◌↔◌, length}
use mathlib.Core.List.{List, [], ◌∷◌, ◌++◌, Memᴰ}
use Rattle.rules.specs.Settings.{Settings}
use Rattle.rules.specs.Bytes.{byte_at, letter, name_end, separators_end, RE, LIT, RNI, AND, LITA, GRPO, GRPC, REP, PLUS, OPT}
use Rattle.rules.specs.Lent.{Lent, standing, room, filled_with, zeroed}
use Rattle.rules.specs.Reading.{got}
use Rattle.rules.specs.Walk.{Group, opt, plus, star, Guarded, Begins}
use Rattle.rules.specs.Ambiguity.{SpellSame, Ambiguous, FirstPair}
use Rattle.rules.specs.Attributes.{required, Attribute}
use Rattle.rules.specs.TypeFile.{is_word, PCDATA, Place, new_place, is_connector, join, model, Element, type_file}
use Rattle.rules.specs.Judge.{place_at, same_place, Answer, acceptance, records, Accepts, record_width}
use Rattle.rules.specs.Events.{Event, event_width}
use Rattle.rules.specs.Reader.{event_numbers, Reads}

-- The type judge

-- The numbers of a type file: 10, 20 and 22 are of attribute lists, 24 and 25 are paper 02's, requests six and twelve.
abbrev pub TypeNumber : ℕ → Type 0
TypeNumber n = ((1 ≤ n) × (n ≤ 10)) ⊎ ((n ≡ 20) ⊎ ((n ≡ 22) ⊎ ((24 ≤ n) × (n ≤ 25))))

-- Demand 1: a refusal gives a number, which input and a byte position. "Input 1 is the type"; "the two places are 0 except under 9";
-- "on refusal the whole buffer is zero and the count is 0".
pub record Refusal (s before : List ℕ) (a : Answer) (after : List ℕ) : Type 0 where
  pub number : (a.number ≡ 19) ⊎ TypeNumber a.number
  pub input : a.input ≡ 1
  pub position : a.position ≤ length s
  pub places : (a.number ≡ 9 → ⊥) → (a.first ≡ 0) × (a.second ≡ 0)
  pub count : a.count ≡ 0
  pub zeroed : after ≡ zeroed before

-- "An accepted call gives 0 for number, input and position, and how many records it wrote": those of the elements that the rules accept.
pub record Acceptance (l : Lent) (c : Settings) (s before : List ℕ) (a : Answer) (after : List ℕ) : Type 0 where
  pub elements : List Element
  pub accepted : Accepts c s elements
  pub fits : record_width * length elements ≤ room l before
  pub answer : a ≡ acceptance (length elements)
  pub written : after ≡ filled_with (standing l (records elements)) before

-- An element of es has the content model g, with the places ps.
abbrev pub ModelOf : List Element → Group → List Place → Type 0
ModelOf es g ps = (e : Element) × (n : ℕ) × Memᴰ e es × (e.content ≡ model g ps n)

-- Paper 02, request twelve: in some content model an "&" group stands "at any depth, in a token or group that carries "+" or "*"", or carries one.
abbrev pub SomeRepeated : List Element → Type 0
SomeRepeated es = (g : Group) × (ps : List Place) × ModelOf es g ps × (Guarded g → ⊥)

-- What may stand in a content model: a name or a group, without its indicator; a content token, with it; or
-- the first content tokens of a group, so many of them, joined by this connector (0 where there is only one).
pub data Form : Type 0 where
  bare : Form
  whole : Form
  several : (count connector : ℕ) → Form

-- How a content model is written in the type file s: from i up to j stands what is read as g, in this form,
-- behind the places ps, and qs are those with its own; `join` of the rules is the group of tokens joined by a
-- connector. "A group holds content tokens joined by one kind of connector"; a token is "a name, a name with
-- an indicator, `#PCDATA`, or a group with or without an indicator"; "the indicator ("?", "+", "*") follows
-- at once"; "`#PCDATA` counts as "*"".
pub data Stands (s : List ℕ) : Form → (ps : List Place) (i : ℕ) → Group → (qs : List Place) (j : ℕ)
    → Type 0 where
  name : {ps : List Place} {i : ℕ} → letter (byte_at s i) ≡ true
      → Stands s bare ps i (new_place ps) (ps ++ record { at = i; size = name_end s i - i } ∷ [])
      (name_end s i)
  group : {ps qs : List Place} {i j k b : ℕ} {g : Group} → byte_at s i ≡ GRPO
      → Stands s (several k b) ps (i + 1) g qs j → byte_at s (separators_end s j) ≡ GRPC
      → Stands s bare ps i g qs (separators_end s j + 1)
  pcdata : {ps : List Place} {i : ℕ} → byte_at s i ≡ RNI
      → is_word s (i + 1) (name_end s (i + 1)) PCDATA ≡ true
      → Stands s whole ps i (star (new_place ps)) (ps ++ record { at = i; size = 0 } ∷ [])
      (name_end s (i + 1))
  alone : {ps qs : List Place} {i j : ℕ} {g : Group} → Stands s bare ps i g qs j → Stands s whole ps i g qs j
  optional : {ps qs : List Place} {i j : ℕ} {g : Group} → Stands s bare ps i g qs j → byte_at s j ≡ OPT
      → Stands s whole ps i (opt g) qs (j + 1)
  repeated : {ps qs : List Place} {i j : ℕ} {g : Group} → Stands s bare ps i g qs j → byte_at s j ≡ PLUS
      → Stands s whole ps i (plus g) qs (j + 1)
  any : {ps qs : List Place} {i j : ℕ} {g : Group} → Stands s bare ps i g qs j → byte_at s j ≡ REP
      → Stands s whole ps i (star g) qs (j + 1)
  first : {ps qs : List Place} {i j : ℕ} {g : Group} → Stands s whole ps (separators_end s i) g qs j
      → Stands s (several 1 0) ps i g qs j
  more : {ps qs rs : List Place} {i j k c l : ℕ} {g h : Group} (b : ℕ) → Stands s (several k c) ps i g qs j
      → (c ≡ 0) ⊎ (c ≡ b) → byte_at s (separators_end s j) ≡ b → is_connector b ≡ true
      → Stands s whole qs (separators_end s (separators_end s j + 1)) h rs l
      → Stands s (several (k + 1) b) ps i (join k b g h) rs l

-- The byte at p is an "&" that joins content tokens there, at any depth.
abbrev pub Joins : {s : List ℕ} {f : Form} {ps qs : List Place} {i j : ℕ} {g : Group} → Stands s f ps i g qs j
    → ℕ → Type 0
Joins (name h) p = ⊥
Joins (group o t c) p = Joins t p
Joins (pcdata h w) p = ⊥
Joins (alone t) p = Joins t p
Joins (optional t h) p = Joins t p
Joins (repeated t h) p = Joins t p
Joins (any t h) p = Joins t p
Joins (first t) p = Joins t p
Joins {s} (more {j = j} b t o e c u) p = Joins t p ⊎ (((b ≡ AND) × (p ≡ separators_end s j)) ⊎ Joins u p)

-- Paper 02, request twelve: "An "&" group may not stand, at any depth, in a token or group that carries "+"
-- or "*", nor carry one". The byte at p is an "&" by which one does: it joins content tokens, at any depth,
-- of what carries "+" or "*".
abbrev pub Repeats : {s : List ℕ} {f : Form} {ps qs : List Place} {i j : ℕ} {g : Group}
    → Stands s f ps i g qs j → ℕ → Type 0
Repeats (name h) p = ⊥
Repeats (group o t c) p = Repeats t p
Repeats (pcdata h w) p = ⊥
Repeats (alone t) p = Repeats t p
Repeats (optional t h) p = Repeats t p
Repeats (repeated t h) p = Joins t p
Repeats (any t h) p = Joins t p
Repeats (first t) p = Repeats t p
Repeats (more b t o e c u) p = Repeats t p ⊎ Repeats u p

-- Each model of es is written so that no such "&" stands in it.
abbrev pub NoneRepeats : List ℕ → List Element → Type 0
NoneRepeats s es = (g : Group) (ps : List Place) → ModelOf es g ps
    → (i : ℕ) × (j : ℕ) × (w : Stands s whole [] i g ps j) × ((p : ℕ) → Repeats w p → ⊥)

-- Paper 02: "that is number 25 at the first such "&"". It stands in the model of one element, as that model
-- is written, and none stands before it there; the models of the elements declared before have none; the
-- elements declared after stand behind it. The places have their positions in the type file, so that
-- `written` is of this element's model and of no other. Where such an "&" stands the group is not `Guarded`,
-- as `SomeRepeated` has it.
pub record RepeatsFirst (c : Settings) (s : List ℕ) (a : Answer) : Type 0 where
  pub earlier : List Element
  pub element : Element
  pub later : List Element
  pub read : type_file c.name_length s ≡ got (earlier ++ element ∷ later)
  pub unrepeated : SomeRepeated earlier → ⊥
  pub none_before : NoneRepeats s earlier
  pub group : Group
  pub places : List Place
  pub tokens : ℕ
  pub content : element.content ≡ model group places tokens
  pub begins : ℕ
  pub ends : ℕ
  pub written : Stands s whole [] begins group places ends
  pub such : Repeats written a.position
  pub first : (p : ℕ) → Repeats written p → a.position ≤ p
  pub unguarded : (p : ℕ) → Repeats written p → Guarded group → ⊥
  pub behind : (e : Element) → Memᴰ e later → a.position < e.at
  pub ampersand : byte_at s a.position ≡ AND

-- "Some content model in it has two different sequences of places, of whatever length, each the beginning of some walk, that spell the same
-- names."
abbrev pub SomeAmbiguous : List ℕ → List Element → Type 0
SomeAmbiguous s es = (g : Group) × (ps : List Place) × ModelOf es g ps × Ambiguous (same_place s ps) g

-- "The refusal names the first such model, and in it the first pair of different places that can follow one shared beginning under one name:
-- every other such pair there has a larger first place, or the same first place and a larger second." The elements before that of the model
-- have no such model. Both places are places of the model, which are numbered from 1 (`same_place` reads place 0 as place 1), and the refusal
-- stands where the second does.
pub record NamesFirst (c : Settings) (s : List ℕ) (a : Answer) : Type 0 where
  pub earlier : List Element
  pub element : Element
  pub later : List Element
  pub read : type_file c.name_length s ≡ got (earlier ++ element ∷ later)
  pub unambiguous : SomeAmbiguous s earlier → ⊥
  pub group : Group
  pub places : List Place
  pub tokens : ℕ
  pub content : element.content ≡ model group places tokens
  pub ambiguous : Ambiguous (same_place s places) group
  pub pair : FirstPair (same_place s places) group a.first a.second
  pub from_one : 1 ≤ a.first
  pub in_order : a.first < a.second
  pub counted : a.second ≤ length places
  pub stands : a.position ≡ (place_at places (a.second - 1)).at

-- "The names alone decide the places in every model: two beginnings of walks that spell the same names are equal."
abbrev pub NamesDecide : List ℕ → List Element → Type 0
NamesDecide s es = (g : Group) (ps : List Place) → ModelOf es g ps → (u v : List ℕ) → Begins g u → Begins g v → SpellSame (same_place s ps) u v → u ≡ v

-- The document reader

-- "Input 1 is the type, 2 the document": each has its numbers, and the position stands in it.
abbrev pub InType : (s : List ℕ) → Answer → Type 0
InType s a = (a.input ≡ 1) × (a.position ≤ length s) × TypeNumber a.number

abbrev pub InDocument : (d : List ℕ) → Answer → Type 0
InDocument d a = (a.input ≡ 2) × (a.position ≤ length d) × (((1 ≤ a.number) × (a.number ≤ 5)) ⊎ ((10 ≤ a.number) × (a.number ≤ 22)))

-- Demand 1, as for the judge.
pub record ReaderRefusal (s d before : List ℕ) (a : Answer) (after : List ℕ) : Type 0 where
  pub stands : InType s a ⊎ InDocument d a
  pub places : (a.number ≡ 9 → ⊥) → (a.first ≡ 0) × (a.second ≡ 0)
  pub count : a.count ≡ 0
  pub zeroed : after ≡ zeroed before

-- An accepted call gives the events of the one reading that the rules have of the document, and how many.
pub record ReaderAcceptance (l : Lent) (c : Settings) (s d before : List ℕ) (a : Answer) (after : List ℕ) : Type 0 where
  pub elements : List Element
  pub events : List Event
  pub read : Reads c s d elements (got events)
  pub fits : event_width * length events ≤ room l before
  pub answer : a ≡ acceptance (length events)
  pub written : after ≡ filled_with (standing l (event_numbers events)) before

-- Paper 02, request one: "Written values are literals in either quote", and what is handed on is "the value
-- without quotes": of the text t the part from `at` on, of this size. Directly before and behind it stand two
-- quotes of one kind, both in the text, and it has none of that kind in it. This says where a value lies, and
-- not of which attribute it is.
pub record Quoted (t : List ℕ) (at size : ℕ) : Type 0 where
  pub quote : ℕ
  pub either : (quote ≡ LIT) ⊎ (quote ≡ LITA)
  pub behind : 1 ≤ at
  pub opens : byte_at t (at - 1) ≡ quote
  pub inside : at + size < length t
  pub closes : byte_at t (at + size) ≡ quote
  pub none : (i : ℕ) → at ≤ i → i < at + size → byte_at t i ≡ quote → ⊥

-- "An element with a required attribute": it has one exactly if this does not hold.
abbrev pub NoneRequired : Element → Type 0
NoneRequired e = (a : Attribute) → Memᴰ a e.attributes → a.default ≡ required → ⊥

-- No byte of the document is 13, a record end.
abbrev pub NoRecordEnd : List ℕ → Type 0
NoRecordEnd d = (i : ℕ) → i < length d → byte_at d i ≡ RE → ⊥

-- The reader "judges the type afresh", and as the judge does, whose answer is a: where the type is at fault, b is the same answer.
pub record SameVerdict (a b : Answer) : Type 0 where
  pub ambiguous : (a.number ≡ 9) ↔ (b.number ≡ 9)
  pub same : 1 ≤ a.number → (a.number ≡ 19 → ⊥) → a ≡ b
