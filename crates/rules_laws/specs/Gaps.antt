-- Gaps and comment declarations of a type file, walked once.
use Prim.Native.Nat.{ℕ, zero, suc, ◌+◌, ◌≤◌}
use Rattle.std.proofs.Math.Path.{refl}
use Rattle.std.specs.Prelude.{List, drop, ltb}
use Rattle.std.proofs.Common.{arith, ltb-true}
use Rattle.std.proofs.Math.ListN.{length}
use Rattle.std.proofs.Math.Dec.{eqb}
use Rattle.rules.specs.Bytes.{byte_at, separators_end, MDC, MINUS, PERO}
use Rattle.rules.specs.TypeFile.{at_dashes, before_dashes, comment_declaration, gap_within, gap}
use Rattle.text.specs.Words.{test_in, separators_end_le, dashes_end_in, gap_range}
use Rattle.rules_laws.specs.Holds.{Holds, stops, reads, known, so, on, either}
use Rattle.rules_laws.specs.In.{In}
use Rattle.rules_laws.specs.Groups.{InType}

-- The position j is from i on, within the input.
abbrev pub Onward : List ℕ → (i j : ℕ) → Type 0
Onward s i j = (i ≤ j) × (j ≤ length s)

module _ (s : List ℕ) where
  gap_within_within : (turns at : ℕ) → at ≤ length s → Holds (InType s) (In s) (gap_within turns s at)
  unfolding gap_within
  gap_within_within zero at h = stops {n = 4} {k = length s} (omega arith)
  gap_within_within (suc turns) at h =
      let i = separators_end s at in
      let l = separators_end_le s at h in
      let e = i + 2 + before_dashes (drop (i + 2) s) in
      either (at_dashes s i)
      (λ d. either (ltb e (length s)) (λ y. gap_within_within turns (e + 2) (dashes_end_in s (i + 2) e refl (ltb-true _ _ y))) (λ y. stops (omega arith)))
      (λ d. either (eqb (byte_at s i) PERO) (λ y. stops (omega arith)) (λ y. reads l))

  pub gap_within_lem : (at : ℕ) → at ≤ length s → Holds (InType s) (Onward s at) (gap s at)
  unfolding gap
  gap_within_lem at h = so (known (gap_within_within (suc (length s)) at h)) (λ n k x. x) (λ i x. gap_range s at i h x.0)

  pub comment_within : (at : ℕ) → at ≤ length s → Holds (InType s) (Onward s (at + 1)) (comment_declaration s at)
  unfolding comment_declaration
  comment_within at h =
      on (gap_within_lem at h)
      (λ i r. either (eqb (byte_at s i) MDC) (λ x. reads (omega (arith, r, test_in (λ v. eqb v MDC) refl s i x)))
      (λ x. either (eqb (byte_at s i) MINUS) (λ y. stops (omega (arith, test_in (λ v. eqb v MINUS) refl s i y))) (λ y. stops (omega (arith, r)))))
