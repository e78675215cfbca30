-- `read` meets its contract: what was answered and fits is in the buffer, and a refusal clears it.
use mathlib.Core.Path.{sym, ◌∙◌}
use mathlib.Core.List.{[]}
use Rattle.rules.specs.Lent.{Lent}
use Rattle.inputs.specs.Checks.{settings_of}
use Rattle.one_document.specs.Answering.{count_fits, read_accepted, read_refused}
use Rattle.document_reader.proofs.read.Goals as goal

pub returns-then-is_err : goal.returns-then-is_err
returns-then-is_err c =
    let x = c.args in
    let v = c.answered_in_numbers-v in
    record {
      read_as = read_refused Lent.numbers (settings_of x.c) x.s.now x.d.now x.buffer.now v.new.numbers [] [] v.result c.fitted-a.result v.ensures v.auto.numbers c.fitted-a.ensures _ (sym c.is_err.ensures.value ∙ c.if-is_err.true) (c.fill.ensures.after (λ y e. e));
      count_fits = count_fits (settings_of x.c) x.s.now x.d.now x.buffer.now v.new.numbers [] [] _ v.result v.ensures c.fitted-a.ensures;
    }

pub returns-else-is_err : goal.returns-else-is_err
returns-else-is_err c =
    let x = c.args in
    let v = c.answered_in_numbers-v in
    record {
      read_as = read_accepted Lent.numbers (settings_of x.c) x.s.now x.d.now x.buffer.now v.new.numbers [] [] v.result c.fitted-a.result v.ensures v.auto.numbers c.fitted-a.ensures (sym c.is_err.ensures.value ∙ c.if-is_err.false);
      count_fits = count_fits (settings_of x.c) x.s.now x.d.now x.buffer.now v.new.numbers [] [] _ v.result v.ensures c.fitted-a.ensures;
    }
