-- `put_attribute` puts the name that the table of attributes has for the numbers.
use Rattle.std.proofs.Common.{sym, arith}
use Rattle.line_text.specs.Words.{upper_length}
use Rattle.event_names.specs.Naming.{puts_name, puts_no_name, attribute_by, attribute_none}
use Rattle.event_names.proofs.Names.put_attribute.Goals as goal

pub returns-in_default-clause-adds : goal.returns-in_default-clause-adds
returns-in_default-clause-adds c =
    puts_no_name
    (attribute_none _ _ _ _ _ c.counted.ensures c.counted-2.ensures (sym c.in_default.ensures)
    (omega arith)) c.put_byte.ensures.adds

pub put_byte-requires-2 : goal.put_byte-requires-2
put_byte-requires-2 c =
    omega (
      arith,
      c.args.self.attributes_fit.short c.in-Some.k (omega (arith, c.in-Some.ensures)),
      upper_length c.args.self.s.now c.widened-from.result c.widened-size.result,
      c.put_upper.ensures.adds.ends,
      c.put_upper.ensures.adds.same,
    )

pub returns-clause-adds : goal.returns-clause-adds
returns-clause-adds c =
    let found = c.in-Some.ensures in
    let from = c.widened-from.ensures.0 in
    let named =
    attribute_by _ _ _ _ _ c.counted.ensures c.counted-2.ensures found.0 _ _ found.1 from
    c.widened-size.ensures.0 in
    puts_name named c.put_upper.ensures.adds c.put_byte-2.ensures.adds

pub returns-clause-short : goal.returns-clause-short
returns-clause-short c =
    omega (
      arith,
      c.args.self.attributes_fit.short c.in-Some.k (omega (arith, c.in-Some.ensures)),
      upper_length c.args.self.s.now c.widened-from.result c.widened-size.result,
      c.put_upper.ensures.adds.ends,
      c.put_byte-2.ensures.adds.ends,
    )
