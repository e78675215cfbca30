use Prim.Native.Nat.{◌+◌}
use mathlib.Core.Path.{sym, ap, ◌∙◌}
use native.Mathlib.Omega.{arith}
use Rattle.rules.specs.Bytes.{letter, MDC}
use Rattle.text.specs.Refusal.{refusal_of}
use Rattle.text.specs.Words.{byte_is_in, tested, separators_end_from, passed_on}
use Rattle.tags.specs.Attributes.{goes_first, goes_turn, goes_refused, goes_ends, goes_wrong, written_in, written_on}
use Rattle.tags.proofs.attributes_at.Goals as goal

pub loop-j-init : goal.loop-j-init
loop-j-init c = let a = c.args in
    goes_first a.long a.s.now a.i a.e a.first a.given.now (omega arith)

pub specification_at-requires : goal.specification_at-requires
specification_at-requires c = (c.requires.0, c.loop-j.invariant.inside)

pub returns-in_err-w : goal.returns-in_err-w
returns-in_err-w c = let a = c.args in
    rw (passed_on _ c.from_residual.ensures.1)
    (goes_refused a.long a.s.now a.i a.e _ _ _ _ c.loop-j.invariant (tested letter c.byte.ensures c.is_letter.ensures c.loop-j-test.true) _ _ (sym c.in_err-w.ensures))

pub keep-n-requires : goal.keep-n-requires
keep-n-requires c = let h = written_in _ _ _ (tested letter c.byte.ensures c.is_letter.ensures c.loop-j-test.true) (sym c.in_ok-w.ensures) in
    (c.loop-j.invariant.read.kept.few, (omega arith, omega arith, omega arith, omega arith))

pub overflow_add-w : goal.overflow_add-w
overflow_add-w c = omega (arith, written_in _ _ _ (tested letter c.byte.ensures c.is_letter.ensures c.loop-j-test.true) (sym c.in_ok-w.ensures))

pub overflow_add-w-in-loop-j : goal.overflow_add-w-in-loop-j
overflow_add-w-in-loop-j c = omega (arith, written_in _ _ _ (tested letter c.byte.ensures c.is_letter.ensures c.loop-j-test.true) (sym c.in_ok-w.ensures))

pub separators_end-j-requires : goal.separators_end-j-requires
separators_end-j-requires c = omega (arith, written_in _ _ _ (tested letter c.byte.ensures c.is_letter.ensures c.loop-j-test.true) (sym c.in_ok-w.ensures))

pub loop-j-smaller : goal.loop-j-smaller
loop-j-smaller c =
    let l = (tested letter c.byte.ensures c.is_letter.ensures c.loop-j-test.true) in
    let w = c.in_ok-w.w in
    omega (arith, written_on _ _ _ l (sym c.in_ok-w.ensures), written_in _ _ _ l (sym c.in_ok-w.ensures), separators_end_from c.args.s.now (w.quote + w.width + 2), c.separators_end-j.ensures)

pub loop-j-preserved : goal.loop-j-preserved
loop-j-preserved c = let a = c.args in
    goes_turn a.long a.s.now a.i a.e _ _ _ _ c.loop-j.invariant (tested letter c.byte.ensures c.is_letter.ensures c.loop-j-test.true) c.in_ok-w.w (sym c.in_ok-w.ensures) _ _ _ c.keep-n.ensures c.separators_end-j.ensures

pub overflow_add-result : goal.overflow_add-result
overflow_add-result c = let a = c.args in
    omega (arith, byte_is_in a.s.now c.loop-j.j MDC (sym c.byte-2.ensures ∙ c.if-byte-eq62.true) (omega arith))

pub returns-then-byte-eq62 : goal.returns-then-byte-eq62
returns-then-byte-eq62 c = let a = c.args in
    goes_ends a.long a.s.now a.i a.e _ _ _ _ c.loop-j.invariant (sym c.byte-2.ensures ∙ c.if-byte-eq62.true)

pub returns : goal.returns
returns c = let a = c.args in
    goes_wrong a.long a.s.now a.i a.e _ _ _ _ c.loop-j.invariant (tested letter c.byte.ensures c.is_letter.ensures c.loop-j-test.false) (λ e. c.if-byte-eq62.false (c.byte-2.ensures ∙ e))
    ∙ sym (ap refusal_of c.at.ensures)
