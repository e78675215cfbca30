-- The type judge's answer and what its lent buffer holds afterwards (paper 01, "What the reader takes and
-- gives", "Refusal numbers", order).
use Rattle.std.specs.Prelude.{ℕ, zero, suc, ◌-◌, ◌*◌, ◌<◌, ◌≤◌, ◌≡◌, Bool, true, false, List, [], ◌∷◌, ◌++◌, length, eqb}
use Rattle.rules.specs.Settings.{Settings, is_offered}
use Rattle.rules.specs.Bytes.{allowed, span, type_limit}
use Rattle.rules.specs.Lent.{Lent, standing, room, filled_with, zeroed}
use Rattle.rules.specs.Reading.{refused, got}
use Rattle.rules.specs.Ambiguity.{PairAtFault, FirstPair}
use Rattle.rules.specs.TypeFile.{Place, Content, empty, model, Element, same_name, type_file}

-- The k-th place of a model, from 0.
unfoldable pub place_at : List Place → ℕ → Place
place_at [] k = record { at = 0; size = 0 }
place_at (x ∷ ps) zero = x
place_at (x ∷ ps) (suc k) = place_at ps k

-- "Two places have the same name if they are the same name folded, or both `#PCDATA`", which has the size 0.
abbrev pub same_place : List ℕ → List Place → ℕ → ℕ → Bool
same_place s ps p q = same_name s (place_at ps (p - 1)).at (place_at ps (p - 1)).size (place_at ps (q - 1)).at (place_at ps (q - 1)).size

-- The answer of a call.
pub record Answer : Type 0 where
  pub number : ℕ
  pub input : ℕ
  pub position : ℕ
  pub first : ℕ
  pub second : ℕ
  pub count : ℕ

-- "Input 1 is the type"; "the two places are 0 except under 9"; on refusal "the count is 0".
abbrev pub refusal : (number position first second : ℕ) → Answer
refusal n k p q = record { number = n; input = 1; position = k; first = p; second = q; count = 0 }

-- "An accepted call gives 0 for number, input and position, and how many records it wrote".
abbrev pub acceptance : (count : ℕ) → Answer
acceptance n = record { number = 0; input = 0; position = 0; first = 0; second = 0; count = n }

-- The element has no pair at fault: it is EMPTY, or its model has none.
abbrev pub Unambiguous : List ℕ → Content → Type 0
Unambiguous s empty = Unit {0}
Unambiguous s (model g ps n) = (p q : ℕ) → PairAtFault (same_place s ps) g p q → ⊥

abbrev pub AllUnambiguous : List ℕ → List Element → Type 0
AllUnambiguous s [] = Unit {0}
AllUnambiguous s (e ∷ es) = Unambiguous s e.content × AllUnambiguous s es

-- The model's first pair is p, q, and the second place stands at k.
abbrev pub PairStandsAt : List ℕ → Content → (k p q : ℕ) → Type 0
PairStandsAt s empty k p q = ⊥
PairStandsAt s (model g ps n) k p q = FirstPair (same_place s ps) g p q × (k ≡ (place_at ps (q - 1)).at)

-- "Number 9 stands for the first model in the type file that has such a pair, at the first byte of the pair's second place."
pub data FirstAmbiguous (s : List ℕ) (k p q : ℕ) : List Element → Type 0 where
  here : {e : Element} {es : List Element} → PairStandsAt s e.content k p q → FirstAmbiguous s k p q (e ∷ es)
  later : {e : Element} {es : List Element} → Unambiguous s e.content → FirstAmbiguous s k p q es → FirstAmbiguous s k p q (e ∷ es)

-- Paper 02, request twelve: "that is number 25 at the first such "&"", which is in the first model that has one. There is none where it is 0.
unfoldable pub first_repeated : List Element → ℕ
first_repeated [] = 0
first_repeated (e ∷ es) = elim (eqb e.repeated 0) [ true ↦ first_repeated es | false ↦ e.repeated ]

-- "Six numbers per element, in declaration order: offset of its name, length of it, start tag (0 for "-", 1 for "O"),
-- end tag likewise, content (0 EMPTY, 1 model), number of content tokens (0 for EMPTY)."
abbrev pub content_numbers : Content → List ℕ
content_numbers empty = 0 ∷ 0 ∷ []
content_numbers (model g ps n) = 1 ∷ n ∷ []

-- How many numbers an element has there.
abbrev pub record_width : ℕ
record_width = 6

unfoldable pub records : List Element → List ℕ
records [] = []
records (e ∷ es) = e.at ∷ e.size ∷ e.start ∷ e.end ∷ (content_numbers e.content ++ records es)

-- The settings are among those that a call takes, and the type is neither too long nor has a byte that is not allowed.
pub record Legible (c : Settings) (s : List ℕ) : Type 0 where
  pub offered : is_offered c ≡ true
  pub short : length s ≤ type_limit
  pub clean : span allowed s ≡ length s

-- The refusal that the order picks: "1 type, .. 2 type, ..; the type file's 3 to 8 ..; 9; ..; 19 only where nothing else is wrong,
-- and exactly if the numbers don't fit"; 25 is "looked for after 3 to 8 and before 9" (paper 02, request twelve); before all of it 24,
-- "in the type at 0, before even 23" (paper 02, request six), which request eight has for other editions too. `room` is how many numbers the lent buffer holds.
pub data Refuses (c : Settings) (s : List ℕ) (room : ℕ) (a : Answer) : Type 0 where
  not_offered : is_offered c ≡ false → a ≡ refusal 24 0 0 0 → Refuses c s room a
  too_long : is_offered c ≡ true → type_limit < length s → a ≡ refusal 1 0 0 0 → Refuses c s room a
  not_allowed : is_offered c ≡ true → length s ≤ type_limit → span allowed s < length s → a ≡ refusal 2 (span allowed s) 0 0 → Refuses c s room a
  malformed : Legible c s → (n k : ℕ) → type_file c.name_length s ≡ refused n k → a ≡ refusal n k 0 0 → Refuses c s room a
  repeated : Legible c s → (es : List Element) → type_file c.name_length s ≡ got es → 1 ≤ first_repeated es → a ≡ refusal 25 (first_repeated es) 0 0 → Refuses c s room a
  ambiguous : Legible c s → (es : List Element) → type_file c.name_length s ≡ got es → first_repeated es ≡ 0 → (k p q : ℕ) → FirstAmbiguous s k p q es → a ≡ refusal 9 k p q → Refuses c s room a
  no_room : Legible c s → (es : List Element) → type_file c.name_length s ≡ got es → first_repeated es ≡ 0 → AllUnambiguous s es → room < record_width * length es → a ≡ refusal 19 0 0 0 → Refuses c s room a

-- The type is accepted with these elements.
pub record Accepts (c : Settings) (s : List ℕ) (es : List Element) : Type 0 where
  pub legible : Legible c s
  pub elements : type_file c.name_length s ≡ got es
  pub unrepeated : first_repeated es ≡ 0
  pub unambiguous : AllUnambiguous s es

-- What the judge answers to a type file under the settings c and what the lent buffer, `before` the call, holds after it.
-- "What lies behind the last number written stays as it was; on refusal the whole buffer is zero and the count is 0."
pub data Judged (l : Lent) (c : Settings) (s before : List ℕ) (a : Answer) (after : List ℕ) : Type 0 where
  refuses : Refuses c s (room l before) a → after ≡ zeroed before → Judged l c s before a after
  accepts : (es : List Element) → Accepts c s es → record_width * length es ≤ room l before → a ≡ acceptance (length es) → after ≡ filled_with (standing l (records es)) before → Judged l c s before a after
