-- `class_table` meets its contract: the bytes are those of the table that is computed right.
use Rattle.delimiters.specs.Table.{classes_right}
use Rattle.delimiters.proofs.class_table.Goals as goal

pub returns : goal.returns
returns c = classes_right
