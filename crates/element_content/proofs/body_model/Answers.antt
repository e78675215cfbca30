-- `body_model` meets its contract: the group, its indicator and the table's first row, one call after the other.
use Rattle.std.proofs.Common.{ap, ◌∙◌, length, arith, eqb-true}
use Rattle.std.proofs.lemmas.Bool.{not-false}
use Rattle.connectors.specs.Kept.{begun}
use Rattle.text.specs.Words.{passed_on}
use Rattle.content_tokens.specs.Readings.{read_got, refused_is}
use Rattle.model_names.specs.Places.{places_of}
use Rattle.element_content.specs.Kept.{place}
use Rattle.element_content.specs.Contents.{model_refused, model_got, model_plain, model_guarded, model_kept, body_meets, body_refused}
use Rattle.element_content.proofs.body_model.Goals as goal

pub returns-in_err-g : goal.returns-in_err-g
unfolding places_of
returns-in_err-g c =
    let a = c.args in
    let r = c.group_at in
    rw (passed_on _ c.from_residual.ensures.1)
    (body_refused (length a.s.now) r.new.names r.new.table _ _
    (model_refused a.long a.s.now a.i (refused_is _ _ c.in_err-g.ensures)))

-- The group was read.
pub with_occurrence-m-requires : goal.with_occurrence-m-requires
unfolding places_of
with_occurrence-m-requires c =
    let r = c.group_at in
    let model = read_got (length c.args.s.now) (begun 1 c.clear.new.table 0 2) r.new.names r.new.table c.in_ok-g.g _ c.in_ok-g.ensures in
    let keeps = model.2 in
    record { at_in_bounds = omega arith; places_bound = omega arith }

pub returns : goal.returns
unfolding places_of
returns c =
    let a = c.args in
    let r = c.group_at in
    let model = read_got (length a.s.now) (begun 1 c.clear.new.table 0 2) r.new.names r.new.table c.in_ok-g.g _ c.in_ok-g.ensures in
    let kept = c.with_occurrence-m.ensures _ r.new.names _ 0 model.0 model.2 in
    body_meets (length a.s.now) r.new.names c.finish.new.table _ _ _ (model_got a.long a.s.now a.i model.1)
    (model_kept kept (model_plain a.long a.s.now a.i c.requires.0 model.0 model.1) (model_guarded a.long a.s.now a.i c.requires.0 model.0 model.1) c.clear.ensures
    _ _ _ c.finish.ensures c.from.ensures (λ e. eqb-true _ _ (not-false _ e)) (c.place.ensures ∙ ap place c.from-2.ensures))
