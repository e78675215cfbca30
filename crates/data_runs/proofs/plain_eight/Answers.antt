-- `plain_eight` meets its contract: four bytes, then four more.
use Rattle.std.proofs.Common.{◌≡◌, ◌+◌, ◌∙◌, arith}
use Rattle.data_runs.proofs.plain_eight.Goals as goal

pub returns : goal.returns
returns c =
    let first = c.plain_four-k in
    let second = c.plain_four-m in
    let e : c.args.i + (second.result + 4) ≡ c.args.i + 4 + second.result = omega arith in
    let k : c.args.i + 4 ≡ c.args.i + first.result = omega (arith, first.ensures.0, c.if-k-lt4.false) in
    (omega (arith, second.ensures.0), rw e (second.ensures.1 ∙ rw k first.ensures.1))
