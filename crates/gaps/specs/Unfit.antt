-- Where a byte that fits nowhere between parameters makes number 4 stand.
use Rattle.std.specs.Prelude.{ℕ, ◌+◌, ◌≡◌, ◌&&◌, cond, List, length, eqb, leb}
use Rattle.rules.specs.Bytes.{byte_at, MINUS}
use Rattle.rules.specs.TypeFile.{unfit}
use Rattle.text.specs.Refusal.{refusal_of}
use Rattle.text.specs.Words.{cut_or}
use Rattle.text.specs.declared.Fault.{Fault}

abbrev pub unfit_at : List ℕ → ℕ → Fault
unfit_at s i = record { number = 4; at = cond (eqb (byte_at s i) MINUS && leb (length s) (i + 1)) (length s) i }

-- What the code says of such a byte is the rules' refusal.
pub unfit_is : {A : Type 0} (s : List ℕ) (i : ℕ) → refusal_of {A = A} (unfit_at s i) ≡ unfit s i
unfit_is s i = cut_or (eqb (byte_at s i) MINUS && leb (length s) (i + 1)) (length s) i
