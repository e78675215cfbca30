-- `omission_at` meets its contract: each way by the tests that led there.
use Rattle.std.proofs.Common.{◌≡◌, ℕ, ◌≤◌, true, false, ◌&&◌, ◌⊎◌, inl, inr, sym, ap, ◌∙◌, eqb, ltb, arith, ne_eqb, lt-ltb, le-ltb}
use Rattle.std.proofs.Math.Bool.{and-false}
use Rattle.rules.specs.Bytes.{letter, name_end, MINUS}
use Rattle.rules.specs.TypeFile.{is_word, O}
use Rattle.text.specs.Refusal.{refusal_of}
use Rattle.text.specs.Words.{tested, name_end_from, name_end_le}
use Rattle.element_head.specs.Words.{omission_dash, omission_other, omission_long, omission_o, omission_word}
use Rattle.element_head.proofs.omission_at.Goals as goal
use Rattle.element_head.proofs.omission_at.Goals.{then-is_letter+else-long-e+else-from-i-2, else-from-i-2-via-then-from-i-2+else-is_word, else-from-i-2-via-else-from-i-2, else-is_letter}

-- No "-" that is parted from the parameter before stands there.
no_dash : {b at i from : ℕ} → ((b ≡ MINUS) × (i ≤ from)) ⊎ (b ≡ MINUS → ⊥) → b ≡ at → (eqb at MINUS && ltb from i) ≡ false
no_dash (inl h) q = rw (le-ltb _ _ h.1, and-false)
no_dash (inr h) q = rw (← q, ne_eqb _ _ h)

pub returns-then-from-i : goal.returns-then-from-i
returns-then-from-i c =
    let a = c.args in
    sym (omission_dash a.long a.s.now a.from a.i (sym c.byte-b.ensures ∙ c.if-b-eq45.true) c.if-from-i.true)

pub overflow_sub-e : goal.overflow_sub-e
overflow_sub-e c = omega (arith, name_end_from c.args.s.now c.args.i)

pub returns-then-long-e : goal.returns-then-long-e
returns-then-long-e c =
    let a = c.args in
    let is_letter = tested letter c.byte-b.ensures c.is_letter.ensures c.if-is_letter.true in
    ap refusal_of c.at.ensures ∙ sym (omission_long a.long a.s.now a.from a.i (no_dash c.else-b-eq45.either c.byte-b.ensures) is_letter (omega arith))

pub is_word-requires : goal.is_word-requires
is_word-requires c =
    let a = c.args in
    omega (arith, name_end_from a.s.now a.i, name_end_le a.s.now a.i c.requires.0)

pub returns-then-is_word : goal.returns-then-is_word
returns-then-is_word c =
    let a = c.args in
    let is_letter = tested letter c.byte-b.ensures c.is_letter.ensures c.if-is_letter.true in
    let word : c.is_word.result ≡ is_word a.s.now a.i (name_end a.s.now a.i) O = rw (← c.name_end-e.ensures) c.is_word.ensures in
    let passed : (ltb a.from a.i && is_word a.s.now a.i (name_end a.s.now a.i) O) ≡ true = rw (lt-ltb _ _ c.if-from-i-2.true) (sym word ∙ c.if-is_word.true) in
    rw c.name_end-e.ensures (sym (omission_o a.long a.s.now a.from a.i (no_dash c.else-b-eq45.either c.byte-b.ensures) is_letter (omega arith) passed))

pub returns : goal.returns
returns c =
    let a = c.args in
    let none = no_dash c.else-b-eq45.either c.byte-b.ensures in
    ap refusal_of c.at-2.ensures
    ∙ elim c.if-is_letter.branch [
      | then-is_letter+else-long-e+else-from-i-2 w ↦
          let is_letter = tested letter c.byte-b.ensures c.is_letter.ensures w.if-is_letter.true in
          let other : (ltb a.from a.i && is_word a.s.now a.i (name_end a.s.now a.i) O) ≡ false =
          elim w.else-from-i-2.branch [
            | else-from-i-2-via-then-from-i-2+else-is_word v ↦ rw (← w.name_end-e.ensures, ← v.is_word.ensures, v.if-is_word.false, and-false)
            | else-from-i-2-via-else-from-i-2 v ↦ rw (le-ltb _ _ v.if-from-i-2.false)
          ] in
          sym (omission_word a.long a.s.now a.from a.i none is_letter (omega arith) other)
      | else-is_letter w ↦ sym (omission_other a.long a.s.now a.from a.i none (tested letter c.byte-b.ensures c.is_letter.ensures w.if-is_letter.false))
    ]
