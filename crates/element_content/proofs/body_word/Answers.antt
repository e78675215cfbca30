-- `body_word` meets its contract: each way by the tests that led there.
use Rattle.std.proofs.Common.{◌≡◌, ◌<◌, ◌-◌, true, false, ◌&&◌, ◌||◌, refl, sym, ap, ◌∙◌, length, ltb, arith, lt-ltb, le-ltb}
use Rattle.std.proofs.Math.Bool.{and-false}
use Rattle.rules.specs.Bytes.{name_end}
use Rattle.rules.specs.TypeFile.{is_word, EMPTY, ANY, CDATA, RCDATA}
use Rattle.text.specs.Refusal.{refusal_of}
use Rattle.text.specs.Words.{name_end_from, name_end_le}
use Rattle.element_content.specs.Contents.{word_long, word_empty, word_named, word_other, body_meets, body_refused, body_wrong}
use Rattle.element_content.proofs.body_word.Goals as goal
use Rattle.element_content.proofs.body_word.Goals.{else-from-i-via-then-from-i+else-is_word, else-from-i-via-else-from-i, then-is_word-2-via-then-is_word-2, then-is_word-2-via-else-is_word-2+then-is_word-3, then-is_word-2-via-else-is_word-2+else-is_word-3+then-is_word-4}

pub overflow_sub-e : goal.overflow_sub-e
overflow_sub-e c = omega (arith, name_end_from c.args.s.now c.args.i, c.name_end-e.ensures)

pub returns-then-long-e : goal.returns-then-long-e
returns-then-long-e c =
    let a = c.args in
    let long : a.long < name_end a.s.now a.i - a.i = rw c.name_end-e.ensures at c.if-long-e.true in
    body_refused (length a.s.now) a.names.now a.table.now _ _ (word_long a.long a.s.now a.from a.i long ∙ sym (ap refusal_of c.at.ensures))

pub is_word-requires : goal.is_word-requires
is_word-requires c = omega (arith, name_end_from c.args.s.now c.args.i, name_end_le c.args.s.now c.args.i c.requires.0, c.name_end-e.ensures)

pub returns-then-is_word : goal.returns-then-is_word
returns-then-is_word c =
    let a = c.args in
    let e = c.name_end-e in
    let passed : (ltb a.from a.i && is_word a.s.now a.i (name_end a.s.now a.i) EMPTY) ≡ true =
    rw (lt-ltb _ _ c.if-from-i.true, ← e.ensures) (sym c.is_word.ensures ∙ c.if-is_word.true) in
    body_meets (length a.s.now) a.names.now a.table.now _ _ _ (word_empty a.long a.s.now a.from a.i (omega (arith, e.ensures)) passed)
    (record { at = e.ensures; at_in = name_end_le a.s.now a.i c.requires.0; repeated_at = refl; content = tt })

pub is_word-requires-2 : goal.is_word-requires-2
is_word-requires-2 c = omega (arith, name_end_from c.args.s.now c.args.i, name_end_le c.args.s.now c.args.i c.requires.0, c.name_end-e.ensures)

pub is_word-requires-else-is_word-2 : goal.is_word-requires-else-is_word-2
is_word-requires-else-is_word-2 c = omega (arith, name_end_from c.args.s.now c.args.i, name_end_le c.args.s.now c.args.i c.requires.0, c.name_end-e.ensures)

pub is_word-requires-else-is_word-3 : goal.is_word-requires-else-is_word-3
is_word-requires-else-is_word-3 c = omega (arith, name_end_from c.args.s.now c.args.i, name_end_le c.args.s.now c.args.i c.requires.0, c.name_end-e.ensures)

pub returns-then-is_word-2 : goal.returns-then-is_word-2
returns-then-is_word-2 c =
    let a = c.args in
    let e = c.name_end-e in
    let no_empty : (ltb a.from a.i && is_word a.s.now a.i (name_end a.s.now a.i) EMPTY) ≡ false =
    elim c.else-from-i.branch [
      | else-from-i-via-then-from-i+else-is_word w ↦ rw (← e.ensures, ← w.is_word.ensures, w.if-is_word.false, and-false)
      | else-from-i-via-else-from-i w ↦ rw (le-ltb _ _ w.if-from-i.false)
    ] in
    let passed : (is_word a.s.now a.i e.result ANY || is_word a.s.now a.i e.result CDATA || is_word a.s.now a.i e.result RCDATA) ≡ true =
    elim c.then-is_word-2.branch [
      | then-is_word-2-via-then-is_word-2 w ↦ rw (← c.is_word-2.ensures, w.if-is_word-2.true)
      | then-is_word-2-via-else-is_word-2+then-is_word-3 w ↦ rw (← c.is_word-2.ensures, w.if-is_word-2.false, ← w.is_word-else-is_word-2.ensures, w.if-is_word-3.true)
      | then-is_word-2-via-else-is_word-2+else-is_word-3+then-is_word-4 w ↦
          rw (← c.is_word-2.ensures, w.if-is_word-2.false, ← w.is_word-else-is_word-2.ensures, w.if-is_word-3.false, ← w.is_word-else-is_word-3.ensures, w.if-is_word-4.true)
    ] in
    body_refused (length a.s.now) a.names.now a.table.now _ _
    (word_named a.long a.s.now a.from a.i (omega (arith, e.ensures)) no_empty (rw e.ensures at passed) ∙ sym (ap refusal_of c.at-then-is_word-2.ensures))

pub wrong_word-requires : goal.wrong_word-requires
wrong_word-requires c = omega (arith, name_end_from c.args.s.now c.args.i, name_end_le c.args.s.now c.args.i c.requires.0, c.name_end-e.ensures)

pub returns : goal.returns
returns c =
    let a = c.args in
    let e = c.name_end-e in
    let no_empty : (ltb a.from a.i && is_word a.s.now a.i (name_end a.s.now a.i) EMPTY) ≡ false =
    elim c.else-from-i.branch [
      | else-from-i-via-then-from-i+else-is_word w ↦ rw (← e.ensures, ← w.is_word.ensures, w.if-is_word.false, and-false)
      | else-from-i-via-else-from-i w ↦ rw (le-ltb _ _ w.if-from-i.false)
    ] in
    let passed : (is_word a.s.now a.i e.result ANY || is_word a.s.now a.i e.result CDATA || is_word a.s.now a.i e.result RCDATA) ≡ false =
    rw (← c.is_word-2.ensures, c.if-is_word-2.false, ← c.is_word-else-is_word-2.ensures, c.if-is_word-3.false, ← c.is_word-else-is_word-3.ensures, c.if-is_word-4.false) in
    body_wrong (length a.s.now) a.names.now a.table.now a.s.now a.from a.i e.result c.wrong_word.result _ e.ensures c.wrong_word.ensures
    (word_other a.long a.s.now a.from a.i (omega (arith, e.ensures)) no_empty (rw e.ensures at passed))
