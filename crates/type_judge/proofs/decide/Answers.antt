-- `decide` meets its contract: each way by the tests that led there.
use Prim.Native.Nat.{ℕ}
use mathlib.Core.Path.{ap, sym, ◌∙◌}
use Rattle.rules.specs.Judge.{refusal, not_offered, too_long, not_allowed}
use Rattle.inputs.specs.Checks.{settings_of}
use Rattle.inputs.specs.Looking.{legible_type}
use Rattle.type_judge.specs.Decides.{refusal_at}
use Rattle.type_judge.proofs.decide.Goals as goal

pub returns-then-not-is_offered : goal.returns-then-not-is_offered
returns-then-not-is_offered c = not_offered (sym c.is_offered.ensures ∙ c.if-not-is_offered.true) (ap refusal_at c.at.ensures)

pub returns-then-s-gt-TYPE_LIMIT : goal.returns-then-s-gt-TYPE_LIMIT
returns-then-s-gt-TYPE_LIMIT c = too_long (sym c.is_offered.ensures ∙ c.if-not-is_offered.false) c.if-s-gt-TYPE_LIMIT.true (ap refusal_at c.at-then-s-gt-TYPE_LIMIT.ensures)

pub returns-then-a-s : goal.returns-then-a-s
returns-then-a-s c =
    let e = c.allowed_end-a.ensures in
    not_allowed (sym c.is_offered.ensures ∙ c.if-not-is_offered.false) c.if-s-gt-TYPE_LIMIT.false (rw e at c.if-a-s.true) (ap refusal_at c.at-then-a-s.ensures ∙ ap (λ (k : ℕ). refusal 2 k 0 0) e)

pub decide_legible-requires : goal.decide_legible-requires
decide_legible-requires c = (c.if-s-gt-TYPE_LIMIT.false, c.requires)

-- Nothing but the type file's own faults is left.
pub returns : goal.returns
returns c =
    c.decide_legible.ensures
    (legible_type (settings_of c.args.c) c.args.s.now _ (sym c.is_offered.ensures ∙ c.if-not-is_offered.false) c.if-s-gt-TYPE_LIMIT.false c.allowed_end-a.ensures
    c.if-a-s.false)
