-- `as_bytes` meets its contract: the bytes fill the array.
use mathlib.Core.Path.{refl}
use Rattle.attribute_records.specs.ListByList.{bytes_filled}
use Rattle.attribute_records.proofs.as_bytes.Goals as goal

pub returns : goal.returns
returns c = bytes_filled c.args.row.now _ c.told-row refl c.put_bytes.ensures
