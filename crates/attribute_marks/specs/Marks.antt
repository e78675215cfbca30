-- The attributes that a start tag gives as the code marks them: of each attribute of the element two numbers.
use Rattle.std.specs.Prelude.{ℕ, Result, Ok, Err, ◌+◌, ◌*◌, ◌<◌, ◌≡◌, List, [], ◌∷◌, length, get_or}
use Rattle.rules.specs.Reading.{Reading, got}
use Rattle.rules.specs.Attributes.{Attribute, attribute_at}
use Rattle.rules.specs.Document.{Written}
use Rattle.rules.specs.Given.{given_for}
use Rattle.text.specs.declared.Fault.{Fault}
use Rattle.text.specs.Refusal.{refusal_of}

-- The k-th attribute, from 0, is marked as a tag gives it: 0 where it does not, else where the value begins, which is never 0, and how long it is.
abbrev pub MarkedAs : (marks : List ℕ) (k : ℕ) → List Written → Type 0
MarkedAs marks k [] = get_or marks (2 * k) 0 ≡ 0
MarkedAs marks k (w ∷ ws) = (get_or marks (2 * k) 0 ≡ w.quote + 1) × (get_or marks (2 * k + 1) 0 ≡ w.width)

-- Each attribute of the list xs is marked as a tag gives it that gives ws.
abbrev pub Marked : (s : List ℕ) → List Attribute → (d : List ℕ) → List Written → (marks : List ℕ) → Type 0
Marked s xs d ws marks = (k : ℕ) → k < length xs → MarkedAs marks k (given_for s (attribute_at xs k) d ws)

-- What the code says of a tag that gives ws is what the rules say, x; where they pass, its attributes are marked.
abbrev pub Attributed : (s : List ℕ) → List Attribute → (d : List ℕ) → List Written → (marks : List ℕ) → Result (Unit {0}) Fault → Reading (Unit {0}) → Type 0
Attributed s xs d ws marks (Ok _) x = (x ≡ got tt) × Marked s xs d ws marks
Attributed s xs d ws marks (Err f) x = x ≡ refusal_of f
