-- `close_at` meets its contract: each way by the tests that led there.
use Rattle.std.proofs.Common.{◌≡◌, ◌+◌, true, false, ◌&&◌, ◌||◌, sym, ap, ◌∙◌, eqb}
use Rattle.std.proofs.Math.Bool.{and-false}
use borrow.Author.Tests.{eq-eqb, ne_eqb}
use Rattle.rules.specs.Bytes.{byte_at, GRPO, MINUS, PLUS}
use Rattle.text.specs.Refusal.{refusal_of}
use Rattle.gaps.specs.Unfit.{unfit_is}
use Rattle.element_reader.specs.Ways.{close_end, close_exception, close_unfit}
use Rattle.element_reader.proofs.close_at.Goals as goal
use Rattle.element_reader.proofs.close_at.Goals.{then-b-eq45-via-then-b-eq45, then-b-eq45-via-else-b-eq45+then-b-eq43, then-b-eq45+else-byte-eq40, else-b-eq45+else-b-eq43}

pub returns-then-b-eq62 : goal.returns-then-b-eq62
returns-then-b-eq62 c = sym (close_end c.args.s.now _ (sym c.byte-b.ensures ∙ c.if-b-eq62.true))

pub returns-then-byte-eq40 : goal.returns-then-byte-eq40
returns-then-byte-eq40 c =
    let a = c.args in
    let b = c.byte-b.ensures in
    let sign : (eqb (byte_at a.s.now a.i) MINUS || eqb (byte_at a.s.now a.i) PLUS) ≡ true =
    elim c.then-b-eq45.branch [
      | then-b-eq45-via-then-b-eq45 w ↦ rw (eq-eqb _ _ (sym b ∙ w.if-b-eq45.true))
      | then-b-eq45-via-else-b-eq45+then-b-eq43 w ↦ rw (ne_eqb _ _ (λ e. w.if-b-eq45.false (b ∙ e)), ← b) (eq-eqb _ _ w.if-b-eq43.true)
    ] in
    ap refusal_of c.at.ensures
    ∙ sym
    (close_exception a.s.now _ (λ e. c.if-b-eq62.false (b ∙ e))
    (rw sign (eq-eqb _ _ (sym c.byte.ensures ∙ c.if-byte-eq40.true))))

pub returns : goal.returns
returns c =
    let a = c.args in
    let b = c.byte-b.ensures in
    let other : ((eqb (byte_at a.s.now a.i) MINUS || eqb (byte_at a.s.now a.i) PLUS) && eqb (byte_at a.s.now (a.i + 1)) GRPO) ≡ false =
    elim c.if-b-eq45.branch [
      | then-b-eq45+else-byte-eq40 w ↦ rw (ne_eqb _ _ (λ e. w.if-byte-eq40.false (w.byte.ensures ∙ e)), and-false)
      | else-b-eq45+else-b-eq43 w ↦ rw (ne_eqb _ _ (λ e. w.if-b-eq45.false (b ∙ e)), ← b, ne_eqb _ _ w.if-b-eq43.false)
    ] in
    let unfit = close_unfit a.s.now _ (λ e. c.if-b-eq62.false (b ∙ e)) other in
    ap refusal_of c.unfit_at.ensures ∙ unfit_is a.s.now _ ∙ sym unfit
