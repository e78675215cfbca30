-- `are_fit` meets its contract: each way by the test that led there.
use Rattle.std.proofs.Common.{subst, length, arith}
use Rattle.rules.specs.Batch.{Equal, Unfit}
use Rattle.stretches.specs.Fit.{AllWithin, batch_of}
use Rattle.stretches.specs.Tests.{fits_whole, fits_passing}
use Rattle.stretches.proofs.are_fit.Goals as goal

pub returns-then-n-gt-DOCUMENTS : goal.returns-then-n-gt-DOCUMENTS
returns-then-n-gt-DOCUMENTS c = Unfit.too_many (omega arith)

pub returns-then-lengths-n : goal.returns-then-lengths-n
returns-then-lengths-n c = Unfit.unequal λ q. c.if-lengths-n.true q.lengths_equal

pub returns-then-froms-n : goal.returns-then-froms-n
returns-then-froms-n c = Unfit.unequal λ q. c.if-froms-n.true q.froms_equal

pub returns-then-sizes-n : goal.returns-then-sizes-n
returns-then-sizes-n c = Unfit.unequal λ q. c.if-sizes-n.true q.sizes_equal

pub returns-then-answers-n : goal.returns-then-answers-n
returns-then-answers-n c = Unfit.unequal λ q. c.if-answers-n.true q.answers_equal

pub returns-then-not-all_within : goal.returns-then-not-all_within
returns-then-not-all_within c = let a = c.args in
    let w = c.all_within in
    let so = subst (AllWithin a.froms.now a.sizes.now a.room (length a.froms.now)) c.if-not-all_within.true w.ensures in
    fits_passing a.starts.now a.lengths.now a.froms.now a.sizes.now a.answers a.room c.if-froms-n.false so

pub returns : goal.returns
returns c = let a = c.args in
    let w = c.all_within in
    let so = subst (AllWithin a.froms.now a.sizes.now a.room (length a.froms.now)) c.if-not-all_within.false w.ensures in
    let q : Equal (batch_of a.starts.now a.lengths.now a.froms.now a.sizes.now) a.answers = record {
      lengths_equal = omega (arith, c.if-lengths-n.false);
      froms_equal = omega (arith, c.if-froms-n.false);
      sizes_equal = omega (arith, c.if-sizes-n.false);
      answers_equal = omega (arith, c.if-answers-n.false);
    } in
    fits_whole a.starts.now a.lengths.now a.froms.now a.sizes.now a.answers a.room c.all_apart.result (omega arith) q so c.all_apart.ensures
