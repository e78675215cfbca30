-- `list_to_bytes` meets its contract: what is listed stands in the buffer, and a refusal clears it.
use mathlib.Core.Path.{sym, ◌∙◌}
use Rattle.rules.specs.Lent.{bytes}
use Rattle.inputs.specs.Checks.{settings_of}
use Rattle.attribute_records.specs.Decided.{listed_accepts, listed_refuses, zeroed_kept}
use Rattle.attribute_records.proofs.list_to_bytes.Goals as goal

pub returns-then-is_err : goal.returns-then-is_err
returns-then-is_err c =
    let a = c.args in
    let d = c.decide-v in
    listed_refuses bytes (settings_of a.c) a.s.now _ _ _ _ d.result d.ensures _ (sym c.is_err.ensures.value ∙ c.if-is_err.true) (zeroed_kept a.buffer.now d.new.bytes d.auto.bytes (c.fill.ensures.after (λ y e. e)))

pub returns-else-is_err : goal.returns-else-is_err
returns-else-is_err c =
    let a = c.args in
    let d = c.decide-v in
    listed_accepts bytes (settings_of a.c) a.s.now _ _ _ _ d.result d.ensures (sym c.is_err.ensures.value ∙ c.if-is_err.false)
