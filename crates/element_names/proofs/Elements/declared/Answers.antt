use Rattle.std.proofs.Common.{sym, ◌∙◌, arith}
use Rattle.element_names.specs.Records.{seeks_start, seeks_found, seeks_other, seeks_passed, seeks_none}
use Rattle.element_names.proofs.Elements.declared.Goals as goal
use Rattle.element_names.proofs.Elements.declared.Goals.{else-is_alike, then-is_alike+else-same_text}

pub loop-k-init : goal.loop-k-init
loop-k-init c =
    let a = c.args in
    (omega arith, λ es l r. seeks_start a.s.now a.at a.size es (omega arith) (omega arith))

pub returns-then-same_text : goal.returns-then-same_text
returns-then-same_text c =
    let a = c.args in
    let text = rw c.number.ensures.0 at (sym c.same_text.ensures ∙ c.if-same_text.true) in
    record {
      found_value = λ es l r.
          seeks_found a.s.now a.at a.size a.self.records.now es r _ _ (omega arith) (c.loop-k.invariant.1 es l r)
          (sym c.is_alike.ensures ∙ c.if-is_alike.true) text (omega arith) (omega arith);
      found_in_count = omega arith;
      compared_le_count = omega arith;
    }

pub loop-k-preserved : goal.loop-k-preserved
loop-k-preserved c =
    let a = c.args in
    let so_far = c.loop-k.invariant.1 in (
      elim c.if-is_alike.branch [ then-is_alike+else-same_text w ↦ omega arith | else-is_alike w ↦ omega arith ],
      λ es l r.
          elim c.if-is_alike.branch [
            | then-is_alike+else-same_text w ↦
                seeks_other a.s.now a.at a.size a.self.records.now es r _ _ (omega arith) (so_far es l r) (sym c.is_alike.ensures ∙ w.if-is_alike.true)
                (rw w.number.ensures.0 at (sym w.same_text.ensures ∙ w.if-same_text.false)) w.n-is
            | else-is_alike w ↦ seeks_passed a.s.now a.at a.size a.self.records.now es r _ _ (omega arith) (so_far es l r) (omega arith) (sym c.is_alike.ensures ∙ w.if-is_alike.false) w.n-is
          ],
    )

pub returns : goal.returns
returns c =
    let a = c.args in
    record {
      found_value = λ es l r. seeks_none a.s.now a.at a.size es _ _ (omega arith) (c.loop-k.invariant.1 es l r);
      found_in_count = tt;
      compared_le_count = omega arith;
    }
