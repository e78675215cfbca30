-- A run of data put whole: over the run without its last byte, or behind all events where that run had no other.
use Rattle.std.specs.Prelude.{ℕ, zero, suc, ◌+◌, ◌-◌, ◌≤◌, ◌<◌, ◌≡◌, List, [], ◌∷◌, ◌++◌, length}
use Rattle.std.proofs.Common.{subst, append-nil, arith, length-append}
use Rattle.rules.specs.Events.{Event, data_run}
use Rattle.rules.specs.Records.{due_run}
use Rattle.event_buffer.specs.Buffers.{Holds, Puts, PutsOver}
use Rattle.record_ends.specs.Held.{PutsWhole}

-- It is put at k: at n where it is one byte, else one before, if there is one.
module _ (from since : ℕ) {n k r : ℕ} (few : k ≤ n) (behind : since - from ≤ 1 → k ≡ n) (over : 1 < since - from → 1 ≤ n → suc k ≡ n) (count : r ≡ k + 1) where
  counted : (before : List Event) (size : ℕ) → from + suc size ≡ since → n ≡ length (before ++ due_run from size) → r ≡ length (before ++ data_run from (suc size) ∷ [])
  counted before zero e c = omega (arith, behind (omega arith), length-append before [], length-append before (data_run from 1 ∷ []))
  counted before (suc j) e c =
      let one = length-append before (data_run from (suc j) ∷ []) in
      omega (arith, over (omega arith) (omega arith), length-append before (data_run from (suc (suc j)) ∷ []))

  module _ {numbers bytes numbers' bytes' : List ℕ} (puts : Puts numbers bytes k (data_run from (since - from) ∷ []) numbers' bytes') (puts_over : PutsOver numbers bytes k (data_run from (since - from)) numbers' bytes') where
    whole : (l m : List ℕ) (before : List Event) (size : ℕ) → from + suc size ≡ since → n ≡ length (before ++ due_run from size) → Holds l m numbers bytes (before ++ due_run from size) → Holds l m numbers' bytes' (before ++ data_run from (suc size) ∷ [])
    whole l m before zero e c h =
        let s : since - from ≡ 1 = omega arith in
        let i : k ≡ length before = omega (arith, behind (omega arith), length-append before []) in
        subst (λ (x : ℕ). Holds l m numbers' bytes' (before ++ data_run from x ∷ [])) s (puts.behind l m before i (rw append-nil at h))
    whole l m before (suc j) e c h =
        let s : since - from ≡ suc (suc j) = omega arith in
        let one = length-append before (data_run from (suc j) ∷ []) in
        let i : k ≡ length before = omega (arith, over (omega arith) (omega arith)) in
        subst (λ (x : ℕ). Holds l m numbers' bytes' (before ++ data_run from x ∷ [])) s (puts_over.over l m before (data_run from (suc j)) i h)

    pub puts_whole : PutsWhole numbers bytes n from since r numbers' bytes'
    puts_whole =
        record {
          numbers_kept = puts.numbers_kept;
          bytes_kept = puts.bytes_kept;
          few = omega arith;
          counted = λ h before c. let s : suc (since - from - 1) ≡ since - from = omega arith in subst (λ (x : ℕ). r ≡ length (before ++ data_run from x ∷ [])) s (counted before (since - from - 1) (omega arith) c);
          whole = λ h l m before c i. let s : suc (since - from - 1) ≡ since - from = omega arith in subst (λ (x : ℕ). Holds l m numbers' bytes' (before ++ data_run from x ∷ [])) s (whole l m before (since - from - 1) (omega arith) c i);
        }
