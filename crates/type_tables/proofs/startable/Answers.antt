-- `startable` meets its contract: each test is one of the rule's, or no type's tables come to it.
use mathlib.Core.Path.{sym, ◌∙◌}
use native.Mathlib.Omega.{arith}
use Rattle.type_tables.specs.Inferring.{infers_by, none_required, large_required, none_declared, data_required, Names, declares, start_kept, no_model, infers}
use Rattle.type_tables.proofs.startable.Goals as goal

pub returns-then-p-eq0-clause-by_index : goal.returns-then-p-eq0-clause-by_index
returns-then-p-eq0-clause-by_index c = infers_by _ _ _ _ _ (λ s es rows M taken tables requires. none_required _ _ _ _ _ _ s es taken tables requires c.if-p-eq0.true)

pub returns-then-p-gt-GRPGTCNT-clause-by_index : goal.returns-then-p-gt-GRPGTCNT-clause-by_index
returns-then-p-gt-GRPGTCNT-clause-by_index c = infers_by _ _ _ _ _ (λ s es rows M taken tables requires. large_required _ _ _ _ _ _ s es taken tables requires (omega (arith, c.if-p-gt-GRPGTCNT.true)))

pub returns-then-k-eq0-clause-by_index : goal.returns-then-k-eq0-clause-by_index
returns-then-k-eq0-clause-by_index c = infers_by _ _ _ _ _ (λ s es rows M taken tables requires. none_declared _ _ _ _ _ _ s es taken tables requires c.if-p-eq0.false _ c.wide.ensures.0 c.if-k-eq0.true)

pub returns-then-k-gt-ELEMENTS-clause-by_index : goal.returns-then-k-gt-ELEMENTS-clause-by_index
returns-then-k-gt-ELEMENTS-clause-by_index c = infers_by _ _ _ _ _ (λ s es rows M taken tables requires. data_required _ _ _ _ _ _ s es taken tables requires c.if-p-eq0.false _ c.wide.ensures.0 c.if-k-gt-ELEMENTS.true)

pub returns-then-not-start_omitted-clause-by_index : goal.returns-then-not-start_omitted-clause-by_index
returns-then-not-start_omitted-clause-by_index c =
    let named : Names c.args.t.places.now c.args.e.0 c.args.p.0 c.wide.result = record {
      some = c.if-p-eq0.false;
      read = c.wide.ensures.0;
      declared = c.if-k-eq0.false;
      element = omega (arith, c.if-k-gt-ELEMENTS.false);
    } in
    infers_by _ _ _ _ _ (λ s es rows M taken tables requires.
    start_kept _ _ _ _ _ _ _ named s es taken tables requires
    (sym (c.start_omitted.ensures s es tables.raised tables.facts_say (declares _ _ _ _ _ _ _ named s es taken tables requires)) ∙ c.if-not-start_omitted.true))

pub returns-then-not-has_model-clause-by_index : goal.returns-then-not-has_model-clause-by_index
returns-then-not-has_model-clause-by_index c =
    let named : Names c.args.t.places.now c.args.e.0 c.args.p.0 c.wide.result = record {
      some = c.if-p-eq0.false;
      read = c.wide.ensures.0;
      declared = c.if-k-eq0.false;
      element = omega (arith, c.if-k-gt-ELEMENTS.false);
    } in
    infers_by _ _ _ _ _ (λ s es rows M taken tables requires.
    no_model _ _ _ _ _ _ _ named s es taken tables requires
    (sym (c.has_model.ensures s es tables.raised tables.facts_say (declares _ _ _ _ _ _ _ named s es taken tables requires)) ∙ c.if-not-has_model.true))

pub returns-clause-by_index : goal.returns-clause-by_index
returns-clause-by_index c =
    let named : Names c.args.t.places.now c.args.e.0 c.args.p.0 c.wide.result = record {
      some = c.if-p-eq0.false;
      read = c.wide.ensures.0;
      declared = c.if-k-eq0.false;
      element = omega (arith, c.if-k-gt-ELEMENTS.false);
    } in
    infers_by _ _ _ _ _ (λ s es rows M taken tables requires.
    let declared = declares _ _ _ _ _ _ _ named s es taken tables requires in
    infers _ _ _ _ _ _ _ named s es taken tables requires
    (sym (c.start_omitted.ensures s es tables.raised tables.facts_say declared) ∙ c.if-not-start_omitted.false)
    (sym (c.has_model.ensures s es tables.raised tables.facts_say declared) ∙ c.if-not-has_model.false))
