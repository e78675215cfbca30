-- Where a run of data ends, and laws of it.
use Rattle.std.specs.Prelude.{ℕ, zero, suc, ◌+◌, ◌-◌, ◌≤◌, ◌<◌, ◌≡◌, Bool, true, false, ◌&&◌, List, length, eqb}
use Rattle.std.proofs.Math.Path.{refl, sym}
use Rattle.std.proofs.Common.{◌∙◌, arith, add-zero, not-suc-le-zero}
use Rattle.rules.specs.Settings.{least_name_length}
use Rattle.rules.specs.Bytes.{byte_at, letter, SOLIDUS, STAGO}
use Rattle.rules.specs.Reading.{Reading, refused, got, and_then}
use Rattle.rules.specs.Document.{Tag, Piece, start_tag, end_tag, skipped, blank, data_byte, tag, start_tag_at, markup_piece, piece}

-- Whether a piece goes on a run of data.
abbrev pub is_run : Reading Piece → Bool
is_run (refused n k) = false
is_run (got (start_tag t)) = false
is_run (got (end_tag t)) = false
is_run (got (skipped i)) = false
is_run (got blank) = true
is_run (got data_byte) = true

-- What stands at i, however long a name may be: whether it goes on a run is the same for all lengths (`run_any`).
abbrev pub any_piece : List ℕ → ℕ → Reading Piece
any_piece d i = piece least_name_length d i

-- How many of the n positions from i on stand in one run of data.
unfoldable pub runs : ℕ → List ℕ → ℕ → ℕ
runs zero d i = 0
runs (suc n) d i = elim (is_run (any_piece d i)) [ true ↦ suc (runs n d (i + 1)) | false ↦ 0 ]

-- Where the run of data from `at` on ends.
abbrev pub run_end : List ℕ → ℕ → ℕ
run_end d at = at + runs (length d - at) d at

-- A run goes on, or ends.
pub runs_more : (n : ℕ) (s : List ℕ) (i : ℕ) → is_run (any_piece s i) ≡ true → runs (suc n) s i ≡ suc (runs n s (i + 1))
unfolding runs
runs_more n s i e = rw (runs, e)

pub runs_none : (n : ℕ) (s : List ℕ) (i : ℕ) → is_run (any_piece s i) ≡ false → runs n s i ≡ 0
unfolding runs
runs_none zero s i e = refl
runs_none (suc n) s i e = rw (runs, e)

-- A run stays within the positions that are left, and each of them stands in it.
pub runs_le : (n : ℕ) (s : List ℕ) (i : ℕ) → runs n s i ≤ n
unfolding runs
runs_le zero s i = omega arith
runs_le (suc n) s i = by_test (is_run (any_piece s i)) refl (runs_le n s (i + 1))
  where
    by_test : (b : Bool) → is_run (any_piece s i) ≡ b → runs n s (i + 1) ≤ n → runs (suc n) s i ≤ suc n
    by_test true e h = omega (arith, runs_more n s i e)
    by_test false e h = omega (arith, runs_none (suc n) s i e)

pub run_end_in : (s : List ℕ) (at : ℕ) → at ≤ length s → (at ≤ run_end s at) × (run_end s at ≤ length s)
run_end_in s at h = (omega arith, omega (arith, runs_le (length s - at) s at))

pub runs_each : (n : ℕ) (s : List ℕ) (i k : ℕ) → k < runs n s i → is_run (any_piece s (i + k)) ≡ true
unfolding runs
runs_each zero s i k h = absurd (not-suc-le-zero h)
runs_each (suc n) s i k h = by_test (is_run (any_piece s i)) refl k h (runs_each n s (i + 1))
  where
    by_test : (b : Bool) → is_run (any_piece s i) ≡ b → (k : ℕ) → k < runs (suc n) s i → ((j : ℕ) → j < runs n s (i + 1) → is_run (any_piece s (i + 1 + j)) ≡ true) → is_run (any_piece s (i + k)) ≡ true
    by_test true e zero h ih = rw (add-zero i) e
    by_test true e (suc k) h ih =
        let l : i + suc k ≡ i + 1 + k = omega arith in
        rw l (ih k (omega (arith, runs_more n s i e)))
    by_test false e k h ih = absurd (not-suc-le-zero (rw (runs_none (suc n) s i e) at h))

-- No tag goes on a run, however long its name may be.
pub start_stops : (r : Reading Tag) → is_run (and_then r (λ t. got (start_tag t))) ≡ false
start_stops (refused n k) = refl
start_stops (got t) = refl

pub end_stops : (r : Reading Tag) → is_run (and_then r (λ t. got (end_tag t))) ≡ false
end_stops (refused n k) = refl
end_stops (got t) = refl

-- Two pieces go on a run alike.
record Alike (r q : Reading Piece) : Type 0 where
  pub going : is_run r ≡ is_run q

branch : {x y u v : Reading Piece} (b : Bool) → Alike x u → Alike y v → Alike (elim b [ true ↦ x | false ↦ y ]) (elim b [ true ↦ u | false ↦ v ])
branch true f g = f
branch false f g = g

module _ (long e : ℕ) (d : List ℕ) (i : ℕ) where
  markup_alike : Alike (markup_piece long d i) (markup_piece e d i)
  unfolding markup_piece
  markup_alike =
      let b = byte_at d (i + 1) in
      branch (letter b) (record { going = start_stops (start_tag_at long d (i + 1)) ∙ sym (start_stops (start_tag_at e d (i + 1))) })
      (branch (eqb b SOLIDUS && letter (byte_at d (i + 2))) (record { going = end_stops (tag long d (i + 2)) ∙ sym (end_stops (tag e d (i + 2))) }) (record { going = refl }))

  piece_alike : Alike (piece long d i) (piece e d i)
  unfolding piece
  piece_alike = branch (eqb (byte_at d i) STAGO) markup_alike (record { going = refl })

-- Whether a piece goes on a run does not ask how long a name may be.
pub run_any : (long : ℕ) (d : List ℕ) (i : ℕ) → is_run (piece long d i) ≡ is_run (any_piece d i)
run_any long d i = (piece_alike long least_name_length d i).going
