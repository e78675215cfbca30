use Rattle.std.proofs.Common.{◌∙◌, arith}
use Rattle.event_lines.specs.LineByLine.{lines_turn, lines_end}
use Rattle.event_lines.proofs.put_lines.Goals as goal

pub loop-k-preserved : goal.loop-k-preserved
loop-k-preserved c = record {
  same_reference = c.put_event.ensures.same_reference ∙ c.loop-k.invariant.same_reference;
  lines = lines_turn _ _ _ _ _ _ c.loop-k.invariant.lines (omega arith) c.put_event.ensures.adds;
  short = omega (arith, c.put_event.ensures.short);
}

pub returns-clause-adds : goal.returns-clause-adds
returns-clause-adds c = lines_end _ _ _ _ _ _ c.loop-k.invariant.lines (omega arith)
