-- `put_upper` puts the bytes in upper case: after each turn, those up to i.
use Rattle.std.proofs.Common.{◌≡◌, ◌-◌}
use Rattle.rules.specs.Printed.{upper}
use Rattle.line_text.specs.Adds.{Adds}
use Rattle.line_text.proofs.Line.put_upper.Given as goal

abbrev pub invariant-loop-i : goal.invariant-loop-i
invariant-loop-i l = record {
  same_reference : l.self.out.ghost_name ≡ l.initial.self.out.ghost_name;
  adds : Adds l.initial.self.out.now l.initial.self.at l.self.out.now l.self.at
      (upper l.s l.from (l.i - l.from));
}
