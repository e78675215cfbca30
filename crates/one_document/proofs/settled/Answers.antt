-- `settled` meets its contract: what was answered and fits is in the buffer, and a refusal clears it.
use mathlib.Core.Path.{sym, ◌∙◌}
use mathlib.Core.List.{[]}
use Rattle.rules.specs.Lent.{Lent}
use Rattle.one_document.specs.Answering.{count_fits, read_accepted, read_refused}
use Rattle.one_document.proofs.settled.Goals as goal

pub returns-then-is_err : goal.returns-then-is_err
returns-then-is_err c settings s d before same h =
    let a = c.args in
    (read_refused Lent.bytes settings s d [] [] before a.buffer.now a.a c.fitted-b.result h same c.fitted-b.ensures _ (sym c.is_err.ensures.value ∙ c.if-is_err.true) (c.fill.ensures.after (λ y e. e)), count_fits settings s d [] [] before a.buffer.now _ a.a h c.fitted-b.ensures)

pub returns-else-is_err : goal.returns-else-is_err
returns-else-is_err c settings s d before same h =
    let a = c.args in
    (read_accepted Lent.bytes settings s d [] [] before a.buffer.now a.a c.fitted-b.result h same c.fitted-b.ensures (sym c.is_err.ensures.value ∙ c.if-is_err.false), count_fits settings s d [] [] before a.buffer.now _ a.a h c.fitted-b.ensures)
