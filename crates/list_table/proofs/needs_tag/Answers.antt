use Rattle.std.proofs.Common.{sym, ◌∙◌, true≢false, arith, eq-eqb, eqb-true}
use Rattle.list_table.specs.Finds.{required_first_lem, required_turn, required_found, required_none}
use Rattle.list_table.proofs.needs_tag.Goals as goal

pub loop-k-init : goal.loop-k-init
loop-k-init c = required_first_lem _ _

pub attribute-requires : goal.attribute-requires
attribute-requires c = omega (arith, c.count-k-end.ensures.1)

pub returns-then-is_required : goal.returns-then-is_required
returns-then-is_required c = λ o s xs l. required_found _ _ o s xs l _ _ _ (c.count-k-end.ensures.0 o s xs (omega arith) l) (omega arith) c.attribute.ensures.0 (eqb-true _ _ (sym c.is_required.ensures ∙ c.if-is_required.true))

pub loop-k-preserved : goal.loop-k-preserved
loop-k-preserved c = required_turn _ _ _ _ c.loop-k.invariant c.attribute.ensures.0 (λ z. true≢false (sym (c.is_required.ensures ∙ eq-eqb _ _ z) ∙ c.if-is_required.false))

pub returns : goal.returns
returns c = λ o s xs l. required_none _ _ o s xs l _ _ (c.count-k-end.ensures.0 o s xs (omega arith) l) c.loop-k-test.false c.loop-k.invariant
