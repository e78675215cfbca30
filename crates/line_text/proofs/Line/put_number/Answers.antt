-- `put_number` puts the number in decimal: the digits that `io::decimal` writes.
use Rattle.line_text.specs.Words.{puts_number}
use Rattle.line_text.proofs.Line.put_number.Goals as goal

pub returns-clause-adds : goal.returns-clause-adds
returns-clause-adds c =
    puts_number c.decimal-k.new.out _ _ _ c.decimal-k.ensures.len c.decimal-k.ensures.digits
    c.put_bytes.ensures.adds c.put_byte.ensures.adds
