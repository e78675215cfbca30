use Rattle.std.proofs.Common.{◌-◌, refl, ◌∙◌, arith}
use Rattle.line_text.specs.Words.{upper_length, upper_none, upper_turn}
use Rattle.line_text.proofs.Line.put_upper.Goals as goal

pub loop-i-init : goal.loop-i-init
loop-i-init c =
    record { same_reference = refl; adds = upper_none c.args.s.now c.args.from (omega arith) refl }

pub put_byte-requires : goal.put_byte-requires
put_byte-requires c =
    let put = c.loop-i.invariant.adds in
    omega (arith, put.ends, put.same, upper_length c.args.s.now c.args.from (c.loop-i.i - c.args.from))

pub loop-i-preserved : goal.loop-i-preserved
loop-i-preserved c = record {
  same_reference = c.put_byte.ensures.same_reference ∙ c.loop-i.invariant.same_reference;
  adds = upper_turn c.args.s.now c.args.from (omega arith) c.folded.ensures c.loop-i.invariant.adds
      c.put_byte.ensures.adds;
}
