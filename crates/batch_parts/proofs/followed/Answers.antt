-- `followed` meets its contract: the order's refusal, or the events under the tables of the type that is accepted.
use mathlib.Core.List.{[]}
use Rattle.rules.specs.Settings.{settings}
use Rattle.rules_laws.specs.Offered.{offered_range}
use Rattle.type_judge.specs.Deciding.{raised}
use Rattle.one_document.specs.Answering.{ordered_answers, followed_answers}
use Rattle.batch_parts.specs.Ready.{tables_full}
use Rattle.batch_parts.proofs.followed.Goals as goal

pub returns-in_err-in_order : goal.returns-in_err-in_order
returns-in_err-in_order c =
    let t = c.args.t in
    ordered_answers (settings t.long t.edition) t.file.now c.args.d.now [] [] _ _ c.args.g _ _ (c.in_err-in_order.ensures (settings t.long t.edition) t.file.now t.elements.now c.requires.heads c.requires.staged) (raised _ c.from_residual.ensures.1)

pub follow-requires : goal.follow-requires
follow-requires c =
    let t = c.args.t in
    let (b, e) = c.in_ok-in_order.ensures (settings t.long t.edition) t.file.now t.elements.now c.requires.heads c.requires.staged in
    ((offered_range _ b.type.offered).1, b.short, b.type.short)

pub returns : goal.returns
returns c =
    let t = c.args.t in
    let (b, e) = c.in_ok-in_order.ensures (settings t.long t.edition) t.file.now t.elements.now c.requires.heads c.requires.staged in
    let (es, w, i, x, l) = tables_full _ c.requires e in
    followed_answers (settings t.long t.edition) t.file.now c.args.d.now [] [] c.args.bytes.now c.follow.new.bytes b c.follow.result c.map_err.result (es, w, c.follow.ensures.by_type es i x l) c.map_err.ensures.cases
