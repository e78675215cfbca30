-- `put_index` meets its contract: what it reads of the record, one call after the other.
use Rattle.std.proofs.Common.{refl}
use Rattle.element_index.specs.Seeking.{put_read}
use Rattle.element_index.proofs.put_index.Goals as goal

pub returns : goal.returns
returns c =
    let a = c.args in
    put_read a.index.now a.s.now a.k.0 _ _ _ _ _ _ c.bucket-b.ensures.0 c.byte.ensures c.offset.ensures.0 refl
