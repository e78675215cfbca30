-- `put_refusal` puts the text of a refusal.
use Rattle.std.proofs.Common.{rules}
use Rattle.event_lines.specs.LineByLine.{puts_refusal}
use Rattle.event_lines.proofs.put_refusal.Goals as goal

pub returns : goal.returns
returns c =
    let number = rw c.from.ensures at c.put_number.ensures.adds in
    puts_refusal _ _ _ c.put_bytes.ensures.adds number c.put_bytes-2.ensures.adds c.put_number-2.ensures.adds
    (search rules)
