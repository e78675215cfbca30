-- `put_number` meets its contract: the four stores are the number's four bytes.
use native.Mathlib.Omega.{arith}
use lib.ListN.{length-set}
use Rattle.event_buffer.specs.EventByEvent.{four_bytes_stored}
use Rattle.event_buffer.proofs.put_number.Goals as goal

pub bounds-buffer-i : goal.bounds-buffer-i
bounds-buffer-i c = omega (arith, c.requires)

pub bounds-buffer-i-2 : goal.bounds-buffer-i-2
bounds-buffer-i-2 c = simp length-set (omega (arith, c.requires))

pub bounds-buffer-i-3 : goal.bounds-buffer-i-3
bounds-buffer-i-3 c = simp length-set (omega (arith, c.requires))

pub bounds-buffer-i-4 : goal.bounds-buffer-i-4
bounds-buffer-i-4 c = simp length-set (omega (arith, c.requires))

pub returns : goal.returns
returns c = let a = c.args in four_bytes_stored a.buffer.now a.i a.x c.requires
