-- `read_part` meets its contract: the part is read as the single call reads it, or is refused since it passes the string's end.
use Rattle.std.specs.Prelude.{Err}
use Prim.Native.Nat.{◌+◌, ◌-◌, ◌≤◌}
use mathlib.Core.Path.{◌≡◌, sym, ◌∙◌}
use native.Mathlib.Omega.{arith}
use lib.ListN.{length, take, drop}
use borrow.Author.Tests.{leb-true, leb-false}
use Rattle.rules.specs.Settings.{settings}
use Rattle.rules.specs.Lent.{Lent}
use Rattle.rules.specs.Batch.{PartAs}
use Rattle.answer_numbers.specs.Fits.{answer_fits, part_fits}
use borrow.Author.Rules.{rules}
use Rattle.batch_parts.specs.Ready.{part_refused}
use Rattle.batch_parts.proofs.read_part.Goals as goal

pub returns-then-not-ends_within : goal.returns-then-not-ends_within
returns-then-not-ends_within c =
    let t = c.args.t in
    let r = part_refused _ _ c.too_long.result (c.too_long.ensures (settings t.long t.edition) t.file.now t.elements.now c.requires.heads c.requires.staged) in
    record {
      part_as = PartAs.passes (leb-false _ _ (sym c.ends_within.ensures ∙ c.if-not-ends_within.true)) r (c.fill.ensures.after (λ y e. e));
      answer_fits = part_fits _ _ (Err c.too_long.result) r;
    }

pub overflow_add-start : goal.overflow_add-start
overflow_add-start c = omega (arith, leb-true _ _ (sym c.ends_within.ensures ∙ c.if-not-ends_within.false))

pub slice_bounds-followed-start : goal.slice_bounds-followed-start
slice_bounds-followed-start c =
    let h : c.args.start + c.args.size ≤ length c.args.string.now = leb-true _ _ (sym c.ends_within.ensures ∙ c.if-not-ends_within.false) in
    search rules

pub returns : goal.returns
returns c =
    let a = c.args in
    let d = take (a.start + a.size - a.start) (drop a.start a.string.now) in
    let (r, n) = c.settled.ensures (settings a.t.long a.t.edition) a.t.file.now d a.bytes.now (omega arith) c.followed-v.ensures in
    let whole : a.start + a.size - a.start ≡ a.size = omega arith in
    let so = rw whole at r in
    record {
      part_as = PartAs.within (leb-true _ _ (sym c.ends_within.ensures ∙ c.if-not-ends_within.false)) so;
      answer_fits = answer_fits Lent.bytes _ _ d _ _ c.settled.result r n;
    }
