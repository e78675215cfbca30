-- `put_named` puts the name of an attribute or of an element, as the kind says.
use Rattle.event_names.specs.Naming.{named_attribute, named_element, puts_named}
use Rattle.event_names.proofs.Names.put_named.Goals as goal

pub returns-then-is_either-clause-adds : goal.returns-then-is_either-clause-adds
returns-then-is_either-clause-adds c =
    puts_named
    (named_attribute _ _ _ _ _ _ _ c.is_either.ensures c.if-is_either.true c.starts_next-e.ensures)
    c.put_attribute.ensures.adds

pub returns-clause-adds : goal.returns-clause-adds
returns-clause-adds c =
    puts_named (named_element _ _ _ _ _ _ _ c.is_either.ensures c.if-is_either.false) c.put_name.ensures.adds
