-- `comment_end` meets its contract: each way by the test that led there.
use Rattle.std.proofs.Common.{sym, ap, ◌∙◌, arith}
use Rattle.text.specs.Refusal.{reached, refusal_of}
use Rattle.text.specs.Words.{dashes_in, comment_cut, comment_closed, comment_unfit, comment_inside, passed_on}
use Rattle.rules.specs.Reading.{refused}
use Rattle.gaps.proofs.comment_end.Goals as goal

pub gap_on-requires : goal.gap_on-requires
gap_on-requires c = omega (arith, dashes_in c.args.s.now c.args.at c.requires)

pub returns-in_err-i : goal.returns-in_err-i
returns-in_err-i c =
    ap reached (passed_on _ c.from_residual.ensures.1)
    ∙ sym (comment_cut c.args.s.now c.args.at c.requires _ _ (sym c.in_err-i.ensures))

pub overflow_add-result : goal.overflow_add-result
overflow_add-result c =
    omega (arith, comment_inside c.args.s.now c.args.at c.requires _ (sym c.in_ok-i.ensures))

pub returns-then-byte-eq62 : goal.returns-then-byte-eq62
returns-then-byte-eq62 c =
    sym (comment_closed c.args.s.now c.args.at c.requires _ (sym c.in_ok-i.ensures)
    (sym c.byte.ensures ∙ c.if-byte-eq62.true))

pub behind_dash-requires : goal.behind_dash-requires
behind_dash-requires c = comment_inside c.args.s.now c.args.at c.requires _ (sym c.in_ok-i.ensures)

pub returns : goal.returns
returns c =
    ap refusal_of c.at.ensures
    ∙ ap (refused 4) c.behind_dash.ensures
    ∙ sym (comment_unfit c.args.s.now c.args.at c.requires _ (sym c.in_ok-i.ensures)
    (λ e. c.if-byte-eq62.false (c.byte.ensures ∙ e)))
