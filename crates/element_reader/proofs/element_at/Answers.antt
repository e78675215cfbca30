-- `element_at` meets its contract, whatever is recorded: the head, and what follows it.
use Rattle.std.proofs.Common.{sym, length}
use Rattle.text.specs.Words.{passed_on}
use Rattle.element_reader.specs.Ways.{element_head, element_rest, element_refused, element_from, element_room}
use Rattle.element_reader.proofs.element_at.Goals as goal

pub returns-in_err-h : goal.returns-in_err-h
returns-in_err-h c =
    let a = c.args in
    rw (passed_on _ c.from_residual.ensures.1)
    (record {
      meets_element =
          λ es n r.
          element_refused (length a.s.now) a.at a.names.now a.table.now es _ _
          (element_head a.long a.s.now a.at es (sym (c.in_err-h.ensures.result_value es n r)));
      element_in = tt;
    })

-- The head was read.
pub rest_at-requires : goal.rest_at-requires
rest_at-requires c =
    let head = c.in_ok-h.ensures.head_in in
    (head.1, c.requires.1, head.2, head.3)

pub returns : goal.returns
returns c =
    let a = c.args in
    let head = c.in_ok-h.ensures.head_in in
    record {
      meets_element =
          λ es n r.
          rw (element_rest a.long a.s.now a.at es (sym (c.in_ok-h.ensures.result_value es n r)))
          (element_from (length a.s.now) c.rest_at.new.names c.rest_at.new.table es c.rest_at.result _ head.0 (c.rest_at.ensures es));
      element_in = element_room a.count c.rest_at.result head.4;
    }
