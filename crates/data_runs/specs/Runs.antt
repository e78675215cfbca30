-- What goes on a run of data, and the loops that pass one.
use Rattle.std.specs.Prelude.{ℕ, suc, ◌+◌, ◌-◌, ◌≤◌, ◌<◌, ◌≡◌, refl, Bool, true, false, not, ◌&&◌, ◌||◌, List, length, eqb}
use Rattle.std.proofs.Common.{sym, ap, arith, eqb-true}
use Rattle.std.proofs.lemmas.Bool.{eqb-false}
use Rattle.basic_laws.specs.Truth.{or_none}
use Rattle.rules.specs.Bytes.{byte_at, letter, AND, DSC, DSO, EXCLAMATION, MDC, OPT, RE, RS, SOLIDUS, SPACE, STAGO, TAB}
use Rattle.rules.specs.Reading.{Reading, refused, got}
use Rattle.rules.specs.TypeFile.{at_dashes}
use Rattle.rules.specs.Document.{blank, data_byte, declaration_piece, markup_piece, byte_piece, piece}
use Rattle.delimiters.specs.Classes.{special}
use Rattle.rules_laws.specs.Runs.{any_piece, is_run, runs, run_end, runs_more, runs_none}
use Rattle.document_text.specs.PieceOf.{as_skipped}
use Rattle.document_text.specs.Ways.{declaration_out, declaration_data, markup_out, markup_data, byte_skipped, byte_blank, byte_data}

-- What was read as a comment ends a run, refused or not.
pub skipped_stops : (r : Reading ℕ) → is_run (as_skipped r) ≡ false
skipped_stops (refused n k) = refl
skipped_stops (got e) = refl

-- `<!` and `<` that begin no tag, no comment and no `<!>` go on a run, unless the form is one that is left out.
pub declaration_runs : (s : List ℕ) (i b : ℕ) → b ≡ byte_at s (i + 2) → (b ≡ MDC → ⊥) → at_dashes s (i + 2) ≡ false → (w : Bool) → w ≡ (letter b || eqb b DSO) → not w ≡ is_run (declaration_piece s i)
declaration_runs s i b q h d true e = ap is_run (declaration_out s i b q h d (sym e))
declaration_runs s i b q h d false e = ap is_run (declaration_data s i b q h d (sym e))

pub markup_runs : (long : ℕ) (s : List ℕ) (i b : ℕ) → b ≡ byte_at s (i + 1) → letter b ≡ false → (eqb (byte_at s (i + 1)) SOLIDUS && letter (byte_at s (i + 2))) ≡ false → (b ≡ EXCLAMATION → ⊥) → not (eqb b OPT) ≡ is_run (markup_piece long s i)
markup_runs long s i b q l t n = by_test (eqb b OPT) refl
  where
    by_test : (w : Bool) → eqb b OPT ≡ w → not w ≡ is_run (markup_piece long s i)
    by_test true e = ap is_run (markup_out long s i b q l t n (eqb-true b OPT e))
    by_test false e = ap is_run (markup_data long s i b q l t n (eqb-false b OPT e))

-- A byte by itself goes on a run, unless it is byte 10.
pub byte_runs : (s : List ℕ) (i b : ℕ) → b ≡ byte_at s i → not (eqb b RS) ≡ is_run (byte_piece s i)
byte_runs s i b q = by_test (eqb b RS) refl
  where
    by_blank : (b ≡ RS → ⊥) → (w : Bool) → (eqb b TAB || (eqb b RE || eqb b SPACE)) ≡ w → true ≡ is_run (byte_piece s i)
    by_blank h true e = ap is_run (byte_blank s i b q h e)
    by_blank h false e = ap is_run (byte_data s i b q h e)

    by_test : (w : Bool) → eqb b RS ≡ w → not w ≡ is_run (byte_piece s i)
    by_test true e = ap is_run (byte_skipped s i b q (eqb-true b RS e))
    by_test false e = by_blank (eqb-false b RS e) (eqb b TAB || (eqb b RE || eqb b SPACE)) refl

-- A byte that is not special goes on a run.
pub plain_runs : (s : List ℕ) (i b : ℕ) → b ≡ byte_at s i → special b ≡ false → is_run (any_piece s i) ≡ true
unfolding piece byte_piece
plain_runs s i b q e = rw (piece, byte_piece, less.0, and.0, section.0, section.1) (by_blank (eqb (byte_at s i) TAB || (eqb (byte_at s i) RE || eqb (byte_at s i) SPACE)))
  where
    less : (eqb (byte_at s i) STAGO ≡ false) × ((eqb (byte_at s i) AND || (eqb (byte_at s i) DSC || eqb (byte_at s i) RS)) ≡ false)
    less = or_none _ _ (rw q at e)

    and : (eqb (byte_at s i) AND ≡ false) × ((eqb (byte_at s i) DSC || eqb (byte_at s i) RS) ≡ false)
    and = or_none _ _ less.1

    section : (eqb (byte_at s i) DSC ≡ false) × (eqb (byte_at s i) RS ≡ false)
    section = or_none _ _ and.1

    by_blank : (w : Bool) → is_run (elim w [ true ↦ got blank | false ↦ got data_byte ]) ≡ true
    by_blank true = refl
    by_blank false = refl

-- The loop that passes a run: a turn of it, and its two ends.
pub run_turn : (s : List ℕ) (i e : ℕ) → i < length s → is_run (any_piece s i) ≡ true → run_end s i ≡ e → run_end s (i + 1) ≡ e
run_turn s i e h q r =
    let l : length s - i ≡ suc (length s - (i + 1)) = omega arith in
    let m : runs (length s - i) s i ≡ suc (runs (length s - (i + 1)) s (i + 1)) = rw l (runs_more (length s - (i + 1)) s i q) in
    omega (arith, m)

pub run_stop : (s : List ℕ) (i e : ℕ) → is_run (any_piece s i) ≡ false → run_end s i ≡ e → i ≡ e
run_stop s i e q r = omega (arith, runs_none (length s - i) s i q)

pub run_all : (s : List ℕ) (i e : ℕ) → length s ≤ i → run_end s i ≡ e → i ≡ e
unfolding runs
run_all s i e h r =
    let l : length s - i ≡ 0 = omega arith in
    let m : runs (length s - i) s i ≡ 0 = rw l in
    omega (arith, m)

-- A byte that is not special is passed: j is the next position.
pub plain_turn : (s : List ℕ) (i j e : ℕ) → j ≡ i + 1 → i < length s → special (byte_at s i) ≡ false → run_end s i ≡ e → run_end s j ≡ e
plain_turn s i j e n h q r = rw n (run_turn s i e h (plain_runs s i _ refl q) r)
