-- `read_batch` meets its contract: by the test of the settings, then of the lists.
use Rattle.std.proofs.Common.{refl, sym, ◌∙◌, arith}
use Rattle.rules.specs.Batch.{Batched}
use Rattle.batch_laws.specs.Turns.{fit_few}
use Rattle.batch.proofs.read_batch.Goals as goal

pub returns-then-not-is_offered : goal.returns-then-not-is_offered
returns-then-not-is_offered c =
    let r = c.refused.ensures in
    let not_offered = sym c.is_offered.ensures ∙ c.if-not-is_offered.true in
    record { batched = Batched.not_offered not_offered r.answer refl r.buffer_zero; answer_fits = r.answer_fits }

pub returns-then-not-are_fit : goal.returns-then-not-are_fit
returns-then-not-are_fit c =
    let r = c.refused-then-not-are_fit.ensures in
    let offered = sym c.is_offered.ensures ∙ c.if-not-is_offered.false in
    record { batched = Batched.unfit offered c.if-not-are_fit.ensures r.answer refl r.buffer_zero; answer_fits = r.answer_fits }

pub read_all-requires : goal.read_all-requires
read_all-requires c = c.if-not-are_fit.ensures

pub returns : goal.returns
returns c =
    let offered = sym c.is_offered.ensures ∙ c.if-not-is_offered.false in
    let few = fit_few _ _ _ c.if-not-are_fit.ensures in
    record { batched = Batched.reads offered c.if-not-are_fit.ensures refl c.read_all.ensures; answer_fits = omega (arith, few) }
