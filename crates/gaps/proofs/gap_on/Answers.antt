use Rattle.std.proofs.Common.{ℕ, List, ◌≡◌, ◌+◌, ◌≤◌, ◌<◌, sym, ap, ◌∙◌, arith, length, drop}
use Rattle.rules.specs.Bytes.{separators_end}
use Rattle.rules.specs.TypeFile.{before_dashes}
use Rattle.text.specs.Refusal.{refusal_of}
use Rattle.text.specs.Words.{separators_end_from, separators_end_le, dashes_in, dashes_end_in}
use Rattle.text.specs.Words.{gap_on_open, gap_on_percent, gap_on_end, gap_turn}
use Rattle.gaps.proofs.gap_on.Goals as goal

pub overflow_add-i : goal.overflow_add-i
overflow_add-i c =
    omega (arith, dashes_in c.args.s.now c.loop-e.i (sym c.at_dashes.ensures ∙ c.loop-e-test.true))

pub to_dashes-e-requires : goal.to_dashes-e-requires
to_dashes-e-requires c = dashes_in c.args.s.now c.loop-e.i (sym c.at_dashes.ensures ∙ c.loop-e-test.true)

pub returns-then-s-e : goal.returns-then-s-e
returns-then-s-e c = let s = c.args.s.now in
    ap refusal_of c.at.ensures
    ∙ sym (gap_on_open (length s) s _ _ (sym c.at_dashes.ensures ∙ c.loop-e-test.true) c.to_dashes-e.ensures
    c.if-s-e.true)
    ∙ c.loop-e.invariant.1

-- Where a comment's closing dashes end, and the separators behind them.
closed : (s : List ℕ) (at : ℕ) {e : ℕ} → e ≡ at + before_dashes (drop at s) → e < length s → e + 2 ≤ length s
closed s at q h = dashes_end_in s at _ q h

passed : (s : List ℕ) {at j : ℕ} → j ≡ separators_end s at → at ≤ length s → (at ≤ j) × (j ≤ length s)
passed s {at} e h = omega (arith, separators_end_from s at, separators_end_le s at h)

pub overflow_add-after : goal.overflow_add-after
overflow_add-after c = omega (arith, closed c.args.s.now _ c.to_dashes-e.ensures c.if-s-e.false)

pub separators_end-i-requires : goal.separators_end-i-requires
separators_end-i-requires c = closed c.args.s.now _ c.to_dashes-e.ensures c.if-s-e.false

pub loop-e-smaller : goal.loop-e-smaller
loop-e-smaller c = let s = c.args.s.now in
    let h = closed s _ c.to_dashes-e.ensures c.if-s-e.false in
    omega (arith, passed s c.separators_end-i.ensures h, c.to_dashes-e.ensures)

pub loop-e-preserved : goal.loop-e-preserved
loop-e-preserved c = let s = c.args.s.now in
    let h = closed s _ c.to_dashes-e.ensures c.if-s-e.false in (
      (passed s c.separators_end-i.ensures h).1,
      gap_turn s _ c.to_dashes-e.result _ (sym c.at_dashes.ensures ∙ c.loop-e-test.true)
          c.to_dashes-e.ensures c.if-s-e.false c.separators_end-i.ensures
          ∙ c.loop-e.invariant.1,
    )

pub returns-then-byte-eq37 : goal.returns-then-byte-eq37
returns-then-byte-eq37 c = let s = c.args.s.now in
    ap refusal_of c.at-then-byte-eq37.ensures
    ∙ sym (gap_on_percent (length s) s _ (sym c.at_dashes.ensures ∙ c.loop-e-test.false)
    (sym c.byte.ensures ∙ c.if-byte-eq37.true))
    ∙ c.loop-e.invariant.1

pub returns : goal.returns
returns c = let s = c.args.s.now in
    sym (gap_on_end (length s) s _ (sym c.at_dashes.ensures ∙ c.loop-e-test.false)
    (λ e. c.if-byte-eq37.false (c.byte.ensures ∙ e)))
    ∙ c.loop-e.invariant.1
