use Rattle.std.proofs.Common.{◌+◌, ◌-◌, ◌≤◌, length, get_or, arith, rules}
use Rattle.rules.specs.Lent.{Lent}
use Rattle.rules.specs.Settings.{settings}
use Rattle.one_document.specs.Answer.{answer_of}
use Rattle.stretches.specs.Fit.{batch_of}
use Rattle.batch_laws.specs.Turns.{done_none, done_again, done_all, fit_few, fit_equal, fit_within}
use Rattle.batch.proofs.read_parts.Goals as goal

pub loop-i-init : goal.loop-i-init
loop-i-init c =
    let a = c.args in
    done_none Lent.bytes (settings a.t.long a.t.edition) a.t.file.now a.p.string.now (batch_of a.p.starts.now a.p.lengths.now a.p.froms.now a.p.sizes.now) a.bytes.now a.answers.now

pub bounds-p-i : goal.bounds-p-i
bounds-p-i c = let a = c.args in omega (arith, (fit_equal (batch_of a.p.starts.now a.p.lengths.now a.p.froms.now a.p.sizes.now) (length a.answers.now) (length a.bytes.now) c.requires.fact).froms_equal)

pub bounds-p-i-in-loop-i : goal.bounds-p-i-in-loop-i
bounds-p-i-in-loop-i c = let a = c.args in omega (arith, (fit_equal (batch_of a.p.starts.now a.p.lengths.now a.p.froms.now a.p.sizes.now) (length a.answers.now) (length a.bytes.now) c.requires.fact).sizes_equal)

pub overflow_add-end : goal.overflow_add-end
overflow_add-end c =
    let a = c.args in
    let within = fit_within (batch_of a.p.starts.now a.p.lengths.now a.p.froms.now a.p.sizes.now) (length a.answers.now) (length a.bytes.now) c.requires.fact c.loop-i.i c.loop-i-test.true in
    omega (arith, within, c.loop-i.invariant.same)

pub bounds-p-i-in-loop-i-3 : goal.bounds-p-i-in-loop-i-3
bounds-p-i-in-loop-i-3 c = let a = c.args in omega (arith, (fit_equal (batch_of a.p.starts.now a.p.lengths.now a.p.froms.now a.p.sizes.now) (length a.answers.now) (length a.bytes.now) c.requires.fact).lengths_equal)

-- The document's stretch ends within the buffer.
pub slice_bounds-read_part-end : goal.slice_bounds-read_part-end
slice_bounds-read_part-end c =
    let a = c.args in
    let within = fit_within (batch_of a.p.starts.now a.p.lengths.now a.p.froms.now a.p.sizes.now) (length a.answers.now) (length a.bytes.now) c.requires.fact c.loop-i.i c.loop-i-test.true in
    let h : get_or a.p.froms.now c.loop-i.i 0 + get_or a.p.sizes.now c.loop-i.i 0 ≤ length c.loop-i.bytes = omega (arith, within, c.loop-i.invariant.same) in
    search rules

pub put_answer-requires : goal.put_answer-requires
put_answer-requires c =
    let a = c.args in
    let few = fit_few (batch_of a.p.starts.now a.p.lengths.now a.p.froms.now a.p.sizes.now) (length a.answers.now) (length a.bytes.now) c.requires.fact in
    let equal = fit_equal (batch_of a.p.starts.now a.p.lengths.now a.p.froms.now a.p.sizes.now) (length a.answers.now) (length a.bytes.now) c.requires.fact in
    (c.read_part-a.ensures.answer_fits, omega (arith, few, c.loop-i-test.true), omega (arith, equal.answers_equal, c.loop-i.invariant.answers_same))

pub loop-i-preserved : goal.loop-i-preserved
loop-i-preserved c =
    let a = c.args in
    let i = c.loop-i.i in
    let r = c.read_part-a in
    let equal = fit_equal (batch_of a.p.starts.now a.p.lengths.now a.p.froms.now a.p.sizes.now) (length a.answers.now) (length a.bytes.now) c.requires.fact in
    done_again Lent.bytes (settings a.t.long a.t.edition) a.t.file.now a.p.string.now (batch_of a.p.starts.now a.p.lengths.now a.p.froms.now a.p.sizes.now) a.bytes.now a.answers.now c.requires.fact i c.loop-i.bytes c.loop-i.answers c.loop-i.invariant (omega arith)
    (get_or a.p.froms.now i 0 + get_or a.p.sizes.now i 0 - get_or a.p.froms.now i 0) (answer_of r.result) _ _ (omega arith) r.auto.bytes r.ensures.part_as (omega (arith, equal.answers_equal, c.loop-i.invariant.answers_same)) c.put_answer.ensures

pub shape_of-bytes : goal.shape_of-bytes
shape_of-bytes c = c.loop-i.invariant.same

pub shape_of-answers : goal.shape_of-answers
shape_of-answers c = c.loop-i.invariant.answers_same

pub returns : goal.returns
returns c =
    let a = c.args in
    done_all c.loop-i.invariant (omega (arith, c.loop-i.invariant.few)) (fit_equal (batch_of a.p.starts.now a.p.lengths.now a.p.froms.now a.p.sizes.now) (length a.answers.now) (length a.bytes.now) c.requires.fact).answers_equal
