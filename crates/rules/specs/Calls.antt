-- The calls as C sees them: numbers and byte slices (paper 01, "What the reader takes and gives").
use Rattle.std.specs.Prelude.{ℕ, ◌≡◌, List, [], ◌∷◌}
use Rattle.rules.specs.Settings.{Settings}
use Rattle.rules.specs.Lent.{bytes}
use Rattle.rules.specs.Judge.{Answer, Judged}
use Rattle.rules.specs.Listing.{Lists}
use Rattle.rules.specs.Reader.{ReadAs}

-- "An accepted call gives 0 for number, input and position, and how many records it wrote; input 1 is the type, 2 the document. The two
-- places are 0 except under 9." The six numbers of an answer are these, in this order: number, input, position, the two places, and how many.
-- The paper names no order: this one is ours, and that the number is also returned.
abbrev pub answer_numbers : Answer → List ℕ
answer_numbers a = a.number ∷ a.input ∷ a.position ∷ a.first ∷ a.second ∷ a.count ∷ []

-- The main program is in C; "both calls are reachable from it through numbers and byte slices". The judge returns the number of an answer to the type
-- file s under the settings c, gives the answer's six numbers, and leaves in the lent bytes, `before` the call, what goes with that answer.
abbrev pub JudgedNumbers : Settings → (s before : List ℕ) (returned : ℕ) (numbers after : List ℕ) → Type 0
JudgedNumbers c s before returned numbers after = (a : Answer) × (returned ≡ a.number) × (numbers ≡ answer_numbers a) × Judged bytes c s before a after

-- The reader returns the number of an answer to the type file s and the document d under the settings c, gives its six numbers, and leaves in
-- the lent bytes what goes with it.
abbrev pub ReadNumbers : Settings → (s d before : List ℕ) (returned : ℕ) (numbers after : List ℕ) → Type 0
ReadNumbers c s d before returned numbers after = (a : Answer) × (returned ≡ a.number) × (numbers ≡ answer_numbers a) × ReadAs bytes c s d before a after

-- The attributes of a type (paper 02, request one): the call returns the number of an answer to the type file s under the settings c, gives its six
-- numbers, and leaves in the lent bytes what goes with it.
abbrev pub ListedNumbers : Settings → (s before : List ℕ) (returned : ℕ) (numbers after : List ℕ) → Type 0
ListedNumbers c s before returned numbers after = (a : Answer) × (returned ≡ a.number) × (numbers ≡ answer_numbers a) × Lists bytes c s before a after
