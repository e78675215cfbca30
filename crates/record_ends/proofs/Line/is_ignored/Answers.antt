-- `is_ignored` meets its contract: each `return` is a case of the rule.
use mathlib.Core.Path.{sym, ap, ◌∙◌}
use Rattle.std.specs.Prelude.{not}
use borrow.Author.Tests.{eq-eqb}
use Rattle.record_ends.specs.Ignoring.{ignored_first, ignored_other, ignored_marked, ignored_fresh, ignored_directly, ignored_held}
use Rattle.record_ends.proofs.Line.is_ignored.Goals as goal
use Rattle.record_ends.proofs.Line.is_ignored.Goals.{then-edition-ne2-via-then-edition-ne2, then-edition-ne2-via-else-edition-ne2+then-d-at-ne-RE}

pub returns-then-edition-ne2 : goal.returns-then-edition-ne2
returns-then-edition-ne2 c = let a = c.args in
    λ long o s.
    elim c.then-edition-ne2.branch [
      | then-edition-ne2-via-then-edition-ne2 w ↦ sym (ignored_first long a.edition a.d.now a.at a.self.since a.self.mark o w.if-edition-ne2.true)
      | then-edition-ne2-via-else-edition-ne2+then-d-at-ne-RE w ↦ sym (ignored_other long a.edition a.d.now a.at a.self.since a.self.mark o w.if-edition-ne2.false w.if-d-at-ne-RE.true)
    ]

pub returns-then-self : goal.returns-then-self
returns-then-self c = let a = c.args in
    λ long o s. sym (ignored_marked long a.edition a.d.now a.at a.self.since a.self.mark o c.if-edition-ne2.false c.if-d-at-ne-RE.false c.if-self.true)

pub returns-then-u-eq0 : goal.returns-then-u-eq0
returns-then-u-eq0 c = let a = c.args in
    λ long o s. eq-eqb _ _ c.if-u-eq0.true
    ∙ sym (ignored_fresh long a.edition a.d.now a.at a.self.since a.self.mark o c.if-edition-ne2.false c.if-d-at-ne-RE.false s c.if-self.false c.if-u-eq0.true)

pub returns-else-self-at : goal.returns-else-self-at
returns-else-self-at c = let a = c.args in
    λ long o s. ap not (eq-eqb _ _ c.if-self-at.false)
    ∙ sym (ignored_directly long a.edition a.d.now a.at a.self.since a.self.mark o c.if-edition-ne2.false c.if-d-at-ne-RE.false s c.if-self.false c.if-u-eq0.false c.if-self-at.false)

pub returns-then-self-at : goal.returns-then-self-at
returns-then-self-at c = let a = c.args in
    λ long o s.
    c.is_held.ensures
    ∙ sym (ignored_held long a.edition a.d.now a.at a.self.since a.self.mark o c.if-edition-ne2.false c.if-d-at-ne-RE.false s c.if-self.false c.if-u-eq0.false c.requires.1 c.if-self-at.true)
