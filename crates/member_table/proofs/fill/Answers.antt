use mathlib.Core.Path.{refl, sym, ◌∙◌}
use native.Mathlib.Omega.{arith}
use Rattle.member_table.specs.Steps.{run_start, run_by, runs_place, runs_full, runs_opt, runs_opt_none, runs_join, runs_join_none, runs_other, runs_unfit, runs_close, ran_least}
use Rattle.member_table.proofs.fill.Goals as goal
use Rattle.member_table.proofs.fill.Goals.{then-op-lt-SEQ_CODE+then-top-lt-POSITIONS, then-op-lt-SEQ_CODE+else-top-lt-POSITIONS, else-op-lt-SEQ_CODE+then-op-eq-OPT_CODE+then-top-ge1, else-op-lt-SEQ_CODE+then-op-eq-OPT_CODE+else-top-ge1, else-op-lt-SEQ_CODE+else-op-eq-OPT_CODE+then-op-lt-PLUS_CODE+then-top-ge2, else-op-lt-SEQ_CODE+else-op-eq-OPT_CODE+then-op-lt-PLUS_CODE+else-top-ge2, else-op-lt-SEQ_CODE+else-op-eq-OPT_CODE+else-op-lt-PLUS_CODE+then-op-gt-AND_CODE+then-fits, else-op-lt-SEQ_CODE+else-op-eq-OPT_CODE+else-op-lt-PLUS_CODE+then-op-gt-AND_CODE+else-fits, else-op-lt-SEQ_CODE+else-op-eq-OPT_CODE+else-op-lt-PLUS_CODE+else-op-gt-AND_CODE}

pub loop-i-init : goal.loop-i-init
loop-i-init c = record { long = refl; low = omega arith; few = omega arith; fewer = omega arith; is = run_start _ _ _ _ c.placed-none.ensures }

pub loop-i-preserved : goal.loop-i-preserved
loop-i-preserved c =
    let inv = c.loop-i.invariant in
    elim c.if-op-lt-SEQ_CODE.branch [
      | then-op-lt-SEQ_CODE+then-top-lt-POSITIONS w ↦ run_by w.members-is w.stack-is w.lasts-is w.groups-is w.count-is w.top-is (runs_place _ _ _ _ _ _ _ _ _ _ inv (omega (arith, c.loop-i-test.true, c.min-end.ensures)) _ refl w.if-op-lt-SEQ_CODE.true w.if-top-lt-POSITIONS.true _ w.placed.ensures)
      | then-op-lt-SEQ_CODE+else-top-lt-POSITIONS w ↦ run_by w.members-is w.stack-is w.lasts-is w.groups-is w.count-is w.top-is (runs_full _ _ _ _ _ _ _ _ _ _ inv (omega (arith, c.loop-i-test.true, c.min-end.ensures)) _ refl w.if-op-lt-SEQ_CODE.true w.if-top-lt-POSITIONS.false)
      | else-op-lt-SEQ_CODE+then-op-eq-OPT_CODE+then-top-ge1 w ↦ run_by w.members-is w.stack-is w.lasts-is w.groups-is w.count-is w.top-is (runs_opt _ _ _ _ _ _ _ _ _ _ inv (omega (arith, c.loop-i-test.true, c.min-end.ensures)) _ refl w.if-op-eq-OPT_CODE.true w.if-top-ge1.true _ w.optional.ensures)
      | else-op-lt-SEQ_CODE+then-op-eq-OPT_CODE+else-top-ge1 w ↦ run_by w.members-is w.stack-is w.lasts-is w.groups-is w.count-is w.top-is (runs_opt_none _ _ _ _ _ _ _ _ _ _ inv (omega (arith, c.loop-i-test.true, c.min-end.ensures)) _ refl w.if-op-eq-OPT_CODE.true w.if-top-ge1.false)
      | else-op-lt-SEQ_CODE+else-op-eq-OPT_CODE+then-op-lt-PLUS_CODE+then-top-ge2 w ↦ run_by w.members-is w.stack-is w.lasts-is w.groups-is w.count-is w.top-is (runs_join _ _ _ _ _ _ _ _ _ _ inv (omega (arith, c.loop-i-test.true, c.min-end.ensures)) _ refl w.if-op-lt-SEQ_CODE.false w.if-op-eq-OPT_CODE.false w.if-op-lt-PLUS_CODE.true w.if-top-ge2.true _ w.joined.ensures)
      | else-op-lt-SEQ_CODE+else-op-eq-OPT_CODE+then-op-lt-PLUS_CODE+else-top-ge2 w ↦ run_by w.members-is w.stack-is w.lasts-is w.groups-is w.count-is w.top-is (runs_join_none _ _ _ _ _ _ _ _ _ _ inv (omega (arith, c.loop-i-test.true, c.min-end.ensures)) _ refl w.if-op-lt-SEQ_CODE.false w.if-op-eq-OPT_CODE.false w.if-op-lt-PLUS_CODE.true w.if-top-ge2.false)
      | else-op-lt-SEQ_CODE+else-op-eq-OPT_CODE+else-op-lt-PLUS_CODE+then-op-gt-AND_CODE+then-fits w ↦ run_by w.members-is w.stack-is w.lasts-is w.groups-is w.count-is w.top-is (runs_close _ _ _ _ _ _ _ _ _ _ inv (omega (arith, c.loop-i-test.true, c.min-end.ensures)) _ refl w.if-op-gt-AND_CODE.true w.wide-k.result w.wide-k.ensures.0 (sym w.fits.ensures ∙ w.if-fits.true) _ w.put_group-needed.ensures.value _ w.put_group-needed.auto.members w.put_group-needed.ensures.members_after _ w.closed.ensures)
      | else-op-lt-SEQ_CODE+else-op-eq-OPT_CODE+else-op-lt-PLUS_CODE+then-op-gt-AND_CODE+else-fits w ↦ run_by w.members-is w.stack-is w.lasts-is w.groups-is w.count-is w.top-is (runs_unfit _ _ _ _ _ _ _ _ _ _ inv (omega (arith, c.loop-i-test.true, c.min-end.ensures)) _ refl w.if-op-gt-AND_CODE.true w.wide-k.result w.wide-k.ensures.0 (sym w.fits.ensures ∙ w.if-fits.false))
      | else-op-lt-SEQ_CODE+else-op-eq-OPT_CODE+else-op-lt-PLUS_CODE+else-op-gt-AND_CODE w ↦ run_by w.members-is w.stack-is w.lasts-is w.groups-is w.count-is w.top-is (runs_other _ _ _ _ _ _ _ _ _ _ inv (omega (arith, c.loop-i-test.true, c.min-end.ensures)) _ refl w.if-op-lt-PLUS_CODE.false w.if-op-gt-AND_CODE.false)
    ]

pub returns : goal.returns
returns c = ran_least _ _ _ _ _ _ _ _ _ _ c.loop-i.invariant _ (omega (arith, c.loop-i-test.false, c.loop-i.auto.i-end, c.min-end.ensures))
