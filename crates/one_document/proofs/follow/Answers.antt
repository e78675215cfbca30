-- `follow` meets its contract: the classes are those of the table, and no numbers are lent.
use mathlib.Core.List.{[]}
use Rattle.one_document.specs.Answering.{events_bytes}
use Rattle.one_document.proofs.follow.Goals as goal

pub events_of-requires : goal.events_of-requires
events_of-requires c = (c.class_table-classes.ensures, c.requires.0, c.requires.1, c.requires.2)

pub returns-clause-by_type : goal.returns-clause-by_type
returns-clause-by_type c es i t l = events_bytes _ _ es _ [] c.events_of.new.numbers _ _ c.events_of.result (c.events_of.ensures.by_type es i t l)
