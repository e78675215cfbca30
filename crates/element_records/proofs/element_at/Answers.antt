-- `element_at` meets its contract: what the element reader refuses is refused, and what it reads is recorded behind the elements before.
use Rattle.std.proofs.Common.{◌≡◌, sym, ap₂, ◌∙◌, arith}
use Rattle.std.specs.Option.{option_or}
use Rattle.rules.specs.TypeFile.{element, earlier}
use Rattle.rules.specs.Judge.{first_repeated}
use Rattle.text.specs.Words.{passed_on}
use Rattle.element_content.specs.Kept.{place}
use Rattle.element_records.specs.Declaration.{place_or, element_refused, element_kept, element_fits, element_places, element_step}
use Rattle.element_records.proofs.element_at.Goals as goal

pub element_at-requires : goal.element_at-requires
element_at-requires c =
    let (es, k) = c.requires.in_progress in
    (c.requires.at_in_bounds.0, c.requires.at_in_bounds.1, omega (arith, k.counted, k.room))

pub returns-in_err-e : goal.returns-in_err-e
returns-in_err-e c es k =
    let a = c.args in
    let r = c.element_at in
    rw (passed_on _ c.from_residual.ensures.1)
    (element_refused a.s.now a.at r.new.names r.new.table es a.elements.now (element a.long a.s.now a.at es) _ (c.in_err-e.ensures.meets_element es (sym k.counted) k.recorded))

pub put_record-requires : goal.put_record-requires
put_record-requires c =
    let a = c.args in
    let r = c.element_at in
    let (es, k) = c.requires.in_progress in
    let (d, q, m) = element_kept a.s.now a.at r.new.names r.new.table es (element a.long a.s.now a.at es) c.in_ok-e.e (c.in_ok-e.ensures.meets_element es (sym k.counted) k.recorded) in
    let (offset, size, tokens) = element_fits a.s.now a.at r.new.names r.new.table es _ d m c.requires.at_in_bounds.1 in
    (c.in_ok-e.ensures.element_in, offset, size, tokens)

pub overflow_add-result : goal.overflow_add-result
overflow_add-result c = omega (arith, c.in_ok-e.ensures.element_in)

pub clash_with-requires : goal.clash_with-requires
clash_with-requires c =
    let a = c.args in
    let r = c.element_at in
    let (es, k) = c.requires.in_progress in
    let (d, q, m) = element_kept a.s.now a.at r.new.names r.new.table es (element a.long a.s.now a.at es) c.in_ok-e.e (c.in_ok-e.ensures.meets_element es (sym k.counted) k.recorded) in
    element_places a.s.now a.at r.new.names r.new.table es _ d m

pub returns : goal.returns
returns c es k =
    let a = c.args in
    let r = c.element_at in
    let e = c.in_ok-e.e in
    let (d, q, m) = element_kept a.s.now a.at r.new.names r.new.table es (element a.long a.s.now a.at es) e (c.in_ok-e.ensures.meets_element es (sym k.counted) k.recorded) in
    let first : c.or.result ≡ place (earlier (first_repeated es) m.element.repeated) =
    c.or.ensures ∙ ap₂ option_or k.repeated_at (c.repeated_in.ensures ∙ m.repeated_at) ∙ place_or (first_repeated es) m.element.repeated in
    element_step a.s.now a.at r.new.names r.new.table es e d m a.elements.now c.put_record.new.elements a.p c.clash_with.result _ (element a.long a.s.now a.at es) q k c.in_ok-e.ensures.element_in c.put_record.ensures
    first (λ y z. c.clash_with.ensures es m.element.content (k.pending y) m.content z)
