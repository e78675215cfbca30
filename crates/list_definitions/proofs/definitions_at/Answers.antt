use Prim.Native.Nat.{◌≤◌}
use mathlib.Core.Path.{sym, ap, ◌∙◌}
use native.Mathlib.Omega.{arith}
use lib.ListN.{length}
use Rattle.rules.specs.Bytes.{letter}
use Rattle.text.specs.Refusal.{refusal_of}
use Rattle.text.specs.Words.{tested, gap_range, passed_on}
use Rattle.gaps.specs.Unfit.{unfit_is}
use Rattle.list_definitions.specs.OneByOne.{reads_first, reads_gap, reads_end, closed_in, reads_unfit, reads_refused, reads_turn}
use Rattle.list_definitions.proofs.definitions_at.Goals as goal

pub loop-i-init : goal.loop-i-init
loop-i-init c = let a = c.args in
    (omega arith, omega arith, omega arith, omega arith, omega arith, omega arith, reads_first a.long a.s.now a.from a.list.now _)

pub gap_end-requires : goal.gap_end-requires
gap_end-requires c = c.loop-i.invariant.2

pub returns-in_err-i : goal.returns-in_err-i
returns-in_err-i c = let a = c.args in
    rw (passed_on _ c.from_residual.ensures.1) record { meets_list = reads_gap a.long a.s.now a.from _ _ _ _ _ c.loop-i.invariant.6 (sym c.in_err-i.ensures); list_in = tt }

pub overflow_add-result : goal.overflow_add-result
overflow_add-result c = let a = c.args in
    omega (arith, c.loop-i.invariant.3, closed_in a.long a.s.now a.from _ _ _ _ _ c.loop-i.invariant.6 (sym c.in_ok-i.ensures) c.byte-b.ensures c.closes.ensures c.if-closes.true)

pub returns-then-closes : goal.returns-then-closes
returns-then-closes c = let a = c.args in
    let r = c.loop-i.invariant.6 in
    let g = sym c.in_ok-i.ensures in
    let range : (c.loop-i.at ≤ c.in_ok-i.i) × (c.in_ok-i.i ≤ length a.s.now) = gap_range a.s.now _ _ c.loop-i.invariant.2 g in record {
      meets_list = reads_end a.long a.s.now a.from _ _ _ _ _ r g c.byte-b.ensures c.closes.ensures c.if-closes.true;
      list_in = omega (arith, c.loop-i.invariant.1, range, closed_in a.long a.s.now a.from _ _ _ _ _ r g c.byte-b.ensures c.closes.ensures c.if-closes.true);
    }

pub unfit_at-requires : goal.unfit_at-requires
unfit_at-requires c = (gap_range c.args.s.now _ _ c.loop-i.invariant.2 (sym c.in_ok-i.ensures)).1

pub returns-then-not-is_letter : goal.returns-then-not-is_letter
returns-then-not-is_letter c = let a = c.args in record {
  meets_list = reads_unfit a.long a.s.now a.from _ _ _ _ _ c.loop-i.invariant.6 (sym c.in_ok-i.ensures) c.byte-b.ensures c.closes.ensures c.if-closes.false
      (tested letter c.byte-b.ensures c.is_letter.ensures c.if-not-is_letter.true) ∙ sym (unfit_is a.s.now c.in_ok-i.i) ∙ ap refusal_of (sym c.unfit_at.ensures);
  list_in = tt;
}

pub definition_at-requires : goal.definition_at-requires
definition_at-requires c = let a = c.args in
    let i = c.loop-i.invariant in
    let range : (c.loop-i.at ≤ c.in_ok-i.i) × (c.in_ok-i.i ≤ length a.s.now) = gap_range a.s.now _ _ c.loop-i.invariant.2 (sym c.in_ok-i.ensures) in
    omega (arith, i.0, i.1, i.2, i.3, i.4, i.5, range)

pub returns-in_err-d : goal.returns-in_err-d
returns-in_err-d c = let a = c.args in
    let r = c.loop-i.invariant.6 in
    rw (passed_on _ c.from_residual-in_err-d.ensures.1) record {
      meets_list = reads_refused a.long a.s.now a.from _ _ _ _ _ r (sym c.in_ok-i.ensures) c.byte-b.ensures c.closes.ensures c.if-closes.false
          (tested letter c.byte-b.ensures c.is_letter.ensures c.if-not-is_letter.false) (c.in_err-d.ensures.meets_definition r.xs r.counted r.listed r.parts);
      list_in = tt;
    }

pub put_attribute-requires : goal.put_attribute-requires
put_attribute-requires c = let w = c.in_ok-d.ensures.definition_fits in
    (w.1, w.0)

pub overflow_add-n : goal.overflow_add-n
overflow_add-n c = omega (arith, c.loop-i.invariant.4)

pub loop-i-smaller : goal.loop-i-smaller
loop-i-smaller c = omega (arith, c.loop-i.invariant.4)

pub loop-i-preserved : goal.loop-i-preserved
loop-i-preserved c = let a = c.args in
    let i = c.loop-i.invariant in
    let r = c.loop-i.invariant.6 in
    let g = sym c.in_ok-i.ensures in
    let range : (c.loop-i.at ≤ c.in_ok-i.i) × (c.in_ok-i.i ≤ length a.s.now) = gap_range a.s.now _ _ c.loop-i.invariant.2 g in
    let w = c.in_ok-d.ensures.definition_fits in (
      i.0,
      omega (arith, i.1, range, w.2),
      w.3,
      i.3,
      omega (arith, w.1),
      omega (arith, i.5, w.4),
      reads_turn a.long a.s.now a.from _ _ _ _ _ r g c.byte-b.ensures c.closes.ensures c.if-closes.false (tested letter c.byte-b.ensures c.is_letter.ensures c.if-not-is_letter.false) _ _ _ _ _ w.1
          (c.in_ok-d.ensures.meets_definition r.xs r.counted r.listed r.parts) c.put_attribute.ensures.by_index,
    )
