-- `row_numbers` meets its contract, number by number.
use Rattle.attribute_records.specs.ListByList.{nine_are}
use Rattle.attribute_records.proofs.row_numbers.Goals as goal

pub returns : goal.returns
returns c = nine_are c.kind.ensures c.detail.ensures c.kind-2.ensures c.detail-2.ensures c.detail-3.ensures
