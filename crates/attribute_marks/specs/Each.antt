-- What the functions below `check` answer, one attribute after the other.
use Rattle.std.specs.Prelude.{ℕ, Result, Ok, Err, ◌-◌, ◌≤◌, ◌≡◌, Bool, true, false, not, ◌&&◌, ◌⊎◌, List, [], ◌∷◌, ◌++◌, leb}
use Rattle.rules.specs.Reading.{refused, got}
use Rattle.rules.specs.Attributes.{Attribute, attribute_of, attribute_at, bytes_in, fits}
use Rattle.rules.specs.Document.{Written}
use Rattle.rules.specs.Given.{value_part, is_given_in, all_listed, all_fit}
use Rattle.text.specs.declared.Fault.{Fault}
use Rattle.text.specs.declared.Refusal.{Refusal}
use Rattle.text.specs.declared.Refusal.TheVariants as refusal
use Rattle.text.specs.Refusal.{fault_at}
use Rattle.attribute_marks.specs.Marks.{Marked}

-- Behind those before, w is one of the list, and for the first time.
abbrev pub is_new : (s : List ℕ) → List Attribute → (d : List ℕ) → (before : List Written) → Written → Bool
is_new s xs d before w = leb 1 (attribute_of s xs d w.at w.size) && not (is_given_in d before w)

-- The value of w fits.
abbrev pub is_fitting : ℕ → (s : List ℕ) → List Attribute → (d : List ℕ) → Written → Bool
is_fitting long s xs d w = fits long s (attribute_at xs (attribute_of s xs d w.at w.size - 1)).value (bytes_in d (value_part w))

-- One more attribute w, behind those that were marked: 20 where it is none of the list or one of those again; else it is marked too, and 22 says that its value does not fit.
pub data Marks (long : ℕ) (s : List ℕ) (xs : List Attribute) (d : List ℕ) (before : List Written) (w : Written) (marks : List ℕ) : Result (Unit {0}) Refusal → Type 0 where
  unlisted : is_new s xs d before w ≡ false → Marks long s xs d before w marks (Err refusal.Attribute)
  unfitting : is_new s xs d before w ≡ true → Marked s xs d (before ++ w ∷ []) marks → is_fitting long s xs d w ≡ false → Marks long s xs d before w marks (Err refusal.Value)
  fitting : is_new s xs d before w ≡ true → Marked s xs d (before ++ w ∷ []) marks → is_fitting long s xs d w ≡ true → Marks long s xs d before w marks (Ok tt)

-- The attributes ws, one after the other: the first 20, else the first 22, else they are marked.
pub data Given (long : ℕ) (s : List ℕ) (xs : List Attribute) (d : List ℕ) (ws : List Written) (marks : List ℕ) : Result (Unit {0}) Fault → Type 0 where
  unlisted : (at : ℕ) → all_listed s xs d [] ws ≡ refused 20 at → Given long s xs d ws marks (Err (fault_at refusal.Attribute at))
  unfitting : (at : ℕ) → all_listed s xs d [] ws ≡ got tt → all_fit long s xs d ws ≡ refused 22 at → Given long s xs d ws marks (Err (fault_at refusal.Value at))
  fitting : all_listed s xs d [] ws ≡ got tt → all_fit long s xs d ws ≡ got tt → Marked s xs d ws marks → Given long s xs d ws marks (Ok tt)

-- Whatever the table of lists holds: what is refused of the attributes of a tag is 20 or 22, within so many
-- bytes.
abbrev pub GivenFits : (end : ℕ) → Result (Unit {0}) Fault → Type 0
GivenFits end (Ok _) = Unit {0}
GivenFits end (Err f) = (f.at ≤ end) × ((f.number ≡ 20) ⊎ (f.number ≡ 22))

-- The same of the tag at `from`, where 21 may be refused too.
abbrev pub CheckFits : (end from : ℕ) → Result (Unit {0}) Fault → Type 0
CheckFits end from (Ok _) = Unit {0}
CheckFits end from (Err f) = ((f.at ≤ end) × ((f.number ≡ 20) ⊎ (f.number ≡ 22))) ⊎ (f ≡ fault_at refusal.AttributeMissing from)
