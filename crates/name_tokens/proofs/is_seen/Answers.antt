use mathlib.Core.Path.{◌≡◌, sym, ◌∙◌, ap}
use native.Mathlib.Omega.{arith}
use Rattle.rules.specs.TypeFile.{is_token}
use Rattle.name_tokens.specs.Tokens.{parts_of}
use Rattle.name_tokens.specs.TokenByToken.{seen_none, seen_turn, seen_found}
use Rattle.name_tokens.proofs.is_seen.Goals as goal

pub loop-k-init : goal.loop-k-init
loop-k-init c = seen_none c.args.s.now c.args.seen.now c.args.at c.args.size

pub returns-then-is_same : goal.returns-then-is_same
returns-then-is_same c = let a = c.args in
    sym (seen_found a.s.now a.seen.now a.at a.size _ a.n (omega arith) c.is_same.ensures c.if-is_same.true)

pub loop-k-preserved : goal.loop-k-preserved
loop-k-preserved c = let a = c.args in
    seen_turn a.s.now a.seen.now a.at a.size _ c.loop-k.invariant c.is_same.ensures c.if-is_same.false

pub returns : goal.returns
returns c = let a = c.args in
    let whole : c.loop-k.k ≡ a.n = omega (arith, c.loop-k.auto.k-end, c.loop-k-test.false) in
    sym (ap (λ m. is_token a.s.now (parts_of a.seen.now m) a.at a.size) (sym whole) ∙ c.loop-k.invariant)
