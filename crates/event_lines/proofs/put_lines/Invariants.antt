-- `put_lines` puts the lines of all events. The invariant says what is left of them, and that each line took
-- at most 72 bytes.
use Rattle.std.proofs.Common.{◌≡◌, ◌+◌, ◌*◌, ◌≤◌}
use Rattle.layout.specs.Sizes.{LINE}
use Rattle.event_lines.specs.LineByLine.{Lines, lines_left, all_lines}
use Rattle.event_lines.proofs.put_lines.Given as goal

abbrev pub invariant-loop-k : goal.invariant-loop-k
invariant-loop-k l =
    let t = l.names in
    let e = l.events in
    let left = lines_left t.s.now t.elements.now t.attributes.now t.total e.numbers.now e.count l.k in
    let all = all_lines t.s.now t.elements.now t.attributes.now t.total e.numbers.now e.count in
    record {
      same_reference : l.line.out.ghost_name ≡ l.initial.line.out.ghost_name;
      lines : Lines l.initial.line.out.now l.initial.line.at l.line.out.now l.line.at left all;
      short : l.line.at ≤ l.initial.line.at + LINE * l.k;
    }
