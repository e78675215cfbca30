-- `put_record` meets its contract: three numbers put in turn.
use Rattle.member_entries.specs.Writes.{record_put}
use Rattle.member_entries.proofs.put_record.Goals as goal

pub returns : goal.returns
returns c = let x = c.args in
    record_put x.members.now x.d.base x.d.groups x.own x.needed x.k _ _ _ c.put.ensures c.put-2.ensures c.put-3.ensures
