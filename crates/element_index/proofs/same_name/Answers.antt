use Rattle.std.proofs.Common.{◌≡◌, ℕ, ◌+◌, ◌-◌, ◌≤◌, Bool, List, sym, ap, ◌∙◌, arith}
use native.Mathlib.Nat.{add-zero}
use Rattle.rules.specs.Bytes.{byte_at, fold, same_text}
use Rattle.text.specs.Words.{same_text_start, same_text_turn, same_text_other, same_text_all}
use Rattle.element_index.proofs.same_name.Goals as goal
use Rattle.element_index.proofs.same_name.Goals.{else-x-y-via-then-x-y+else-folded, else-x-y-via-else-x-y}

-- The byte that is compared next, as the code has it.
further : (s : List ℕ) (a : ℕ) (t : List ℕ) (b n i j : ℕ) {v : Bool} → j ≡ i + 1 → same_text s (a + (i + 1)) t (b + (i + 1)) (n - (i + 1)) ≡ v
    → same_text s (a + j) t (b + j) (n - j) ≡ v
further s a t b n i j e w = rw e w

-- The first bytes are compared.
first_same : (s : List ℕ) (a : ℕ) (t : List ℕ) (b n : ℕ) → 1 ≤ n → fold (byte_at s a) ≡ fold (byte_at t b) → same_text s (a + 1) t (b + 1) (n - 1) ≡ same_text s a t b n
first_same s a t b n some e =
    let x : fold (byte_at s (a + 0)) ≡ fold (byte_at t (b + 0)) = rw (add-zero a, add-zero b) e in
    further s a t b n 0 1 (omega arith) (same_text_turn s a t b n 0 (omega arith) x ∙ same_text_start s a t b n)

pub loop-i-init : goal.loop-i-init
loop-i-init c =
    let a = c.args in
    first_same a.s.now a.a a.t.now a.b a.n (omega arith)

pub loop-i-preserved : goal.loop-i-preserved
loop-i-preserved c h =
    let a = c.args in
    let i = c.loop-i.i in
    let same : fold (byte_at a.s.now (a.a + i)) ≡ fold (byte_at a.t.now (a.b + i)) =
    elim c.else-x-y.branch [
      | else-x-y-via-then-x-y+else-folded w ↦ omega (arith, w.folded.ensures, w.folded-then-x-y.ensures)
      | else-x-y-via-else-x-y w ↦ let e : byte_at a.s.now (a.a + i) ≡ byte_at a.t.now (a.b + i) = w.if-x-y.false in ap fold e
    ] in
    further a.s.now a.a a.t.now a.b a.n i _ (omega arith)
    (same_text_turn a.s.now a.a a.t.now a.b a.n i c.loop-i-test.true same ∙ c.loop-i.invariant h)

pub returns-then-folded : goal.returns-then-folded
returns-then-folded c h =
    let a = c.args in
    let i = c.loop-i.i in
    let other : fold (byte_at a.s.now (a.a + i)) ≡ fold (byte_at a.t.now (a.b + i)) → ⊥ = λ e. c.if-folded.true (c.folded.ensures ∙ e ∙ sym c.folded-then-x-y.ensures) in
    sym (same_text_other a.s.now a.a a.t.now a.b _ _ c.loop-i-test.true other) ∙ c.loop-i.invariant h

pub returns : goal.returns
returns c h =
    let a = c.args in
    sym (same_text_all a.s.now a.a a.t.now a.b _ _ c.loop-i-test.false) ∙ c.loop-i.invariant h
