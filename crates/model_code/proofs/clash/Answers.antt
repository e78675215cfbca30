-- The stack after one number more, by what the number is; and after the last.
use Rattle.std.proofs.Common.{◌<◌, refl, arith}
use Rattle.layout.specs.Sizes.{CODE}
use Rattle.model_code.specs.Stack.{passed_place, passed_full, passed_opt, passed_opt_none, passed_plus, passed_plus_none, passed_join, passed_join_none, passed_other, passed_all}
use Rattle.model_code.proofs.clash.Goals as goal
use Rattle.model_code.proofs.clash.Goals.{then-op-lt-SEQ_CODE+then-top-lt-POSITIONS, then-op-lt-SEQ_CODE+else-top-lt-POSITIONS, else-op-lt-SEQ_CODE+then-op-eq-OPT_CODE+then-top-ge1, else-op-lt-SEQ_CODE+then-op-eq-OPT_CODE+else-top-ge1, else-op-lt-SEQ_CODE+else-op-eq-OPT_CODE+then-op-eq-PLUS_CODE+then-top-ge1-2, else-op-lt-SEQ_CODE+else-op-eq-OPT_CODE+then-op-eq-PLUS_CODE+else-top-ge1-2, else-op-lt-SEQ_CODE+else-op-eq-OPT_CODE+else-op-eq-PLUS_CODE+then-op-lt-AND_CODE+then-top-ge2, else-op-lt-SEQ_CODE+else-op-eq-OPT_CODE+else-op-eq-PLUS_CODE+then-op-lt-AND_CODE+else-top-ge2, else-op-lt-SEQ_CODE+else-op-eq-OPT_CODE+else-op-eq-PLUS_CODE+else-op-lt-AND_CODE}

pub loop-i-init : goal.loop-i-init
loop-i-init c = record { len = refl; low = omega arith; is = refl }

pub loop-i-preserved : goal.loop-i-preserved
loop-i-preserved c =
    let inv = c.loop-i.invariant in
    let room : c.loop-i.i < CODE = omega arith in
    elim c.if-op-lt-SEQ_CODE.branch [
      | then-op-lt-SEQ_CODE+then-top-lt-POSITIONS w ↦
          rw (w.stack-is, w.top-is) (passed_place _ _ _ _ _ _ inv room _ refl w.if-op-lt-SEQ_CODE.true w.if-top-lt-POSITIONS.true _ w.at_place.ensures)
      | then-op-lt-SEQ_CODE+else-top-lt-POSITIONS w ↦
          rw (w.stack-is, w.top-is) (passed_full _ _ _ _ _ _ inv room _ refl w.if-op-lt-SEQ_CODE.true w.if-top-lt-POSITIONS.false)
      | else-op-lt-SEQ_CODE+then-op-eq-OPT_CODE+then-top-ge1 w ↦
          rw (w.stack-is, w.top-is) (passed_opt _ _ _ _ _ _ inv room _ refl w.if-op-eq-OPT_CODE.true w.if-top-ge1.true _ w.made_optional.ensures)
      | else-op-lt-SEQ_CODE+then-op-eq-OPT_CODE+else-top-ge1 w ↦
          rw (w.stack-is, w.top-is) (passed_opt_none _ _ _ _ _ _ inv room _ refl w.if-op-eq-OPT_CODE.true w.if-top-ge1.false)
      | else-op-lt-SEQ_CODE+else-op-eq-OPT_CODE+then-op-eq-PLUS_CODE+then-top-ge1-2 w ↦
          rw (w.stack-is, w.top-is) (passed_plus _ _ _ _ _ _ inv room _ refl w.if-op-eq-PLUS_CODE.true w.if-top-ge1-2.true _ w.made_repeated.ensures)
      | else-op-lt-SEQ_CODE+else-op-eq-OPT_CODE+then-op-eq-PLUS_CODE+else-top-ge1-2 w ↦
          rw (w.stack-is, w.top-is) (passed_plus_none _ _ _ _ _ _ inv room _ refl w.if-op-eq-PLUS_CODE.true w.if-top-ge1-2.false)
      | else-op-lt-SEQ_CODE+else-op-eq-OPT_CODE+else-op-eq-PLUS_CODE+then-op-lt-AND_CODE+then-top-ge2 w ↦
          rw (w.stack-is, w.top-is) (passed_join _ _ _ _ _ _ inv room _ refl w.if-op-lt-SEQ_CODE.false w.if-op-eq-OPT_CODE.false w.if-op-eq-PLUS_CODE.false w.if-op-lt-AND_CODE.true w.if-top-ge2.true _ w.joined.ensures)
      | else-op-lt-SEQ_CODE+else-op-eq-OPT_CODE+else-op-eq-PLUS_CODE+then-op-lt-AND_CODE+else-top-ge2 w ↦
          rw (w.stack-is, w.top-is) (passed_join_none _ _ _ _ _ _ inv room _ refl w.if-op-lt-SEQ_CODE.false w.if-op-eq-OPT_CODE.false w.if-op-eq-PLUS_CODE.false w.if-op-lt-AND_CODE.true w.if-top-ge2.false)
      | else-op-lt-SEQ_CODE+else-op-eq-OPT_CODE+else-op-eq-PLUS_CODE+else-op-lt-AND_CODE w ↦
          rw (w.stack-is, w.top-is) (passed_other _ _ _ _ _ _ inv room _ refl w.if-op-lt-AND_CODE.false)
    ]

pub returns : goal.returns
returns c = passed_all _ _ _ _ _ _ _ c.loop-i.invariant (omega arith) (λ (few : c.loop-i.i < c.args.n) (room : c.loop-i.i < CODE). omega arith)
