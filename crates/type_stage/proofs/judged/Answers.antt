-- `judged` meets its contract: each way by the tests that led there, and the verdict on a legible type.
use mathlib.Core.Path.{ap, sym, ◌∙◌}
use Rattle.rules.specs.Batch.{not_offered, type_too_long}
use Rattle.inputs.specs.Checks.{settings_of}
use Rattle.inputs.specs.Looking.{legible_type}
use Rattle.text.specs.declared.Fault.{Fault}
use Rattle.type_judge.specs.Decides.{refusal_at}
use Rattle.type_stage.specs.Order.{staged_by}
use Rattle.type_stage.proofs.judged.Goals as goal

pub returns-then-not-is_offered : goal.returns-then-not-is_offered
returns-then-not-is_offered c = not_offered (sym c.is_offered.ensures ∙ c.if-not-is_offered.true) (ap refusal_at c.at.ensures)

pub returns-then-s-gt-TYPE_LIMIT : goal.returns-then-s-gt-TYPE_LIMIT
returns-then-s-gt-TYPE_LIMIT c = type_too_long (sym c.is_offered.ensures ∙ c.if-not-is_offered.false) c.if-s-gt-TYPE_LIMIT.true (ap refusal_at c.at-then-s-gt-TYPE_LIMIT.ensures)

pub returns-then-a-s : goal.returns-then-a-s
returns-then-a-s c =
    let e = c.allowed_end-a.ensures in
    (sym c.is_offered.ensures ∙ c.if-not-is_offered.false, c.if-s-gt-TYPE_LIMIT.false, rw e at c.if-a-s.true, ap (λ (f : Fault). f.number) c.at-then-a-s.ensures, ap (λ (f : Fault). f.at) c.at-then-a-s.ensures ∙ e)

pub decide_legible-requires : goal.decide_legible-requires
decide_legible-requires c = (c.if-s-gt-TYPE_LIMIT.false, c.requires)

pub returns : goal.returns
returns c =
    let v = c.decide_legible in
    let legible = legible_type (settings_of c.args.c) c.args.s.now _ (sym c.is_offered.ensures ∙ c.if-not-is_offered.false) c.if-s-gt-TYPE_LIMIT.false c.allowed_end-a.ensures c.if-a-s.false in
    staged_by v.new.elements v.new.heads legible v.result c.map_err.result (v.ensures legible) c.map_err.ensures.cases
