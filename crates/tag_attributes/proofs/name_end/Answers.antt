use mathlib.Core.Path.{refl, sym, ◌∙◌}
use native.Mathlib.Omega.{arith}
use Rattle.rules.specs.Bytes.{letter, name_byte, name_end}
use Rattle.text.specs.Words.{spanned, before_all, span_turn, span_end}
use Rattle.tag_attributes.proofs.name_end.Goals as goal

pub loop-i-init : goal.loop-i-init
loop-i-init c = refl

pub is_name_byte-requires : goal.is_name_byte-requires
is_name_byte-requires c = c.requires.0

pub returns-then-not-is_name_byte : goal.returns-then-not-is_name_byte
unfolding name_end
returns-then-not-is_name_byte c = let s = c.args.s.now in
    span_end name_byte s _ _ (sym c.is_name_byte.ensures ∙ c.if-not-is_name_byte.true) c.loop-i.invariant

pub loop-i-preserved : goal.loop-i-preserved
unfolding name_byte letter
loop-i-preserved c = let s = c.args.s.now in
    span_turn name_byte refl s _ _ (sym c.is_name_byte.ensures ∙ c.if-not-is_name_byte.false) c.loop-i.invariant

pub returns : goal.returns
unfolding name_end
returns c = let s = c.args.s.now in
    omega (arith, before_all _ _ (spanned name_byte) s _ _ c.loop-i-test.false c.loop-i.invariant, c.loop-i.auto.i-end)
