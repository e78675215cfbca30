-- `put_bits` meets its contract.
use Rattle.std.proofs.Common.{ap, take, ℕ, List, ◌+◌}
use native.Mathlib.Omega.{arith}
use Rattle.member_sets.specs.Storing.{Stored, bytes_whole, bytes_part, stored, bits_put}
use Rattle.member_sets.proofs.put_bits.Goals as goal

pub returns : goal.returns
returns c =
    let first : Stored c.args.members.now c.args.i c.args.b.low 8 c.put_bytes.new.members = stored _ _ _ 8 _ (omega arith) (bytes_whole _ _ c.to_le_bytes.ensures) _ c.put_bytes.ensures in
    let second = stored _ (c.args.i + 8) c.args.b.high 4 _ (omega (arith, first.len)) (bytes_part _ 4 _ (omega arith) (ap (λ (x : List ℕ). take 4 x) c.to_le_bytes-high.ensures)) _ c.put_bytes-2.ensures in
    bits_put _ _ _ _ _ first second
