-- `put_event` puts the line of one event.
use Rattle.event_lines.specs.LineByLine.{puts_line}
use Rattle.event_lines.proofs.put_event.Goals as goal

pub returns-clause-adds : goal.returns-clause-adds
returns-clause-adds c =
    let kind = rw c.from.ensures at c.put_number.ensures.adds in
    let offset = rw c.from-2.ensures at c.put_number-2.ensures.adds in
    let size = rw c.from-3.ensures at c.put_number-3.ensures.adds in
    puts_line _ _ _ _ c.args.events.numbers.now c.args.k c.args.events.count kind c.put_named.ensures.adds
    offset size
