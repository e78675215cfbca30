-- `read_parts` meets its contract: after i turns the first i documents are answered, each in its own stretch.
use Rattle.rules.specs.Lent.{Lent}
use Rattle.rules.specs.Settings.{settings}
use Rattle.stretches.specs.Fit.{batch_of}
use Rattle.batch_laws.specs.Turns.{Done}
use Rattle.batch.proofs.read_parts.Given as goal

abbrev pub invariant-loop-i : goal.invariant-loop-i
invariant-loop-i l = Done Lent.bytes (settings l.t.long l.t.edition) l.t.file.now l.p.string.now (batch_of l.p.starts.now l.p.lengths.now l.p.froms.now l.p.sizes.now) l.initial.bytes l.initial.answers l.i l.bytes l.answers
