-- `put_events` puts the text of the events.
use Rattle.std.proofs.Common.{rules}
use Rattle.event_lines.specs.LineByLine.{puts_events}
use Rattle.event_lines.proofs.put_events.Goals as goal

pub returns : goal.returns
returns c =
    puts_events _ _ _ _ _ _ c.put_bytes.ensures.adds c.put_number.ensures.adds c.put_lines.ensures.adds
    (search rules)
