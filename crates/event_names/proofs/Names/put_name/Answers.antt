-- `put_name` puts the name that the table of elements has for the number.
use Rattle.std.proofs.Common.{◌-◌, arith}
use Rattle.line_text.specs.Words.{upper_length}
use Rattle.event_names.specs.Naming.{puts_name, puts_no_name, name_zero, name_by, name_none}
use Rattle.event_names.proofs.Names.put_name.Goals as goal

pub returns-then-x-eq0-clause-adds : goal.returns-then-x-eq0-clause-adds
returns-then-x-eq0-clause-adds c =
    puts_name (name_zero _ _ _ c.if-x-eq0.true) c.put_byte.ensures.adds c.put_byte-then-x-eq0.ensures.adds

pub returns-then-x-gt-ELEMENTS-clause-adds : goal.returns-then-x-gt-ELEMENTS-clause-adds
returns-then-x-gt-ELEMENTS-clause-adds c =
    puts_no_name (name_none _ _ c.args.self.elements_fit c.args.x (omega arith))
    c.put_byte-then-x-gt-ELEMENTS.ensures.adds

pub put_byte-requires-2 : goal.put_byte-requires-2
put_byte-requires-2 c =
    omega (
      arith,
      c.args.self.elements_fit.short (c.widened-number.result - 1),
      upper_length c.args.self.s.now c.widened-from.result c.widened-size.result,
      c.put_upper.ensures.adds.ends,
      c.put_upper.ensures.adds.same,
    )

pub returns-clause-adds : goal.returns-clause-adds
returns-clause-adds c =
    let number = c.widened-number in
    let fits = c.args.self.elements_fit in
    let from = c.widened-from.ensures.0 in
    puts_name (name_by _ _ fits _ number.result _ _ number.ensures.0 (omega arith) from
    c.widened-size.ensures.0) c.put_upper.ensures.adds c.put_byte-2.ensures.adds

pub returns-clause-short : goal.returns-clause-short
returns-clause-short c =
    omega (
      arith,
      c.args.self.elements_fit.short (c.widened-number.result - 1),
      upper_length c.args.self.s.now c.widened-from.result c.widened-size.result,
      c.put_upper.ensures.adds.ends,
      c.put_byte-2.ensures.adds.ends,
    )
