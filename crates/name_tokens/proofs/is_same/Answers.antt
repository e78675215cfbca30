-- `is_same` meets its contract: the sizes are compared first.
use Rattle.name_tokens.specs.TokenByToken.{other_size, same_size}
use Rattle.name_tokens.proofs.is_same.Goals as goal

pub returns-then-m-size : goal.returns-then-m-size
returns-then-m-size c = let a = c.args in
    other_size a.s.now a.seen.now a.k a.at a.size _ c.short-m.ensures.0 c.if-m-size.true

pub returns : goal.returns
returns c = let e = c.before.before.before.before in
    let a = e.args in
    same_size a.s.now a.seen.now a.k a.at a.size _ e.short-m.ensures.0 e.if-m-size.false _ c.short.ensures.0 c.same_text.ensures
