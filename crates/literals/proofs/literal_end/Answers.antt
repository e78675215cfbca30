use Rattle.std.proofs.Common.{◌≡◌, sym, ap, ◌∙◌, arith, length, eq-eqb}
use Rattle.rules.specs.Bytes.{byte_at}
use Rattle.text.specs.Refusal.{refusal_of}
use Rattle.text.specs.Words.{before_turn, before_stop, before_all}
use Rattle.literals.specs.Ways.{in_literal_lem, literal_closes, literal_refers, literal_cut, literal_other}
use Rattle.literals.proofs.literal_end.Goals as goal

pub returns-then-s-e : goal.returns-then-s-e
returns-then-s-e c = let s = c.args.s.now in
    let b = c.if-s-e.true ∙ c.byte-q.ensures in
    sym (literal_closes s _ _
    (before_stop _ _ (in_literal_lem _) s _ _ (rw (eq-eqb _ _ b)) c.loop-e.invariant) (omega arith) b)

pub returns-then-is_reference : goal.returns-then-is_reference
returns-then-is_reference c = let s = c.args.s.now in
    let other : byte_at s c.loop-e.e ≡ byte_at s c.args.i → ⊥ =
    λ e. c.if-s-e.false (e ∙ sym c.byte-q.ensures) in
    let found = literal_other s _ _ other ∙ sym c.is_reference.ensures ∙ c.if-is_reference.true in
    ap refusal_of c.at.ensures
    ∙ sym (literal_refers s _ _ (before_stop _ _ (in_literal_lem _) s _ _ found c.loop-e.invariant)
    (omega arith) other)

pub loop-e-preserved : goal.loop-e-preserved
loop-e-preserved c = let s = c.args.s.now in
    let other : byte_at s c.loop-e.e ≡ byte_at s c.args.i → ⊥ =
    λ e. c.if-s-e.false (e ∙ sym c.byte-q.ensures) in
    let goes = literal_other s _ _ other ∙ sym c.is_reference.ensures ∙ c.if-is_reference.false in
    before_turn _ _ (in_literal_lem _) s _ _ (omega arith) goes c.loop-e.invariant

pub returns : goal.returns
returns c = let s = c.args.s.now in
    let h : length s ≡ c.loop-e.e = omega arith in
    ap refusal_of c.at-2.ensures
    ∙ sym (literal_cut s _ _ (before_all _ _ (in_literal_lem _) s _ _ (omega arith) c.loop-e.invariant)
    (omega arith))
