-- `read_again` meets its contract: each way by what was read again.
use native.Mathlib.Omega.{arith}
use Rattle.attribute_lists.specs.Heads.{again_outside, again_ok, again_err}
use Rattle.attribute_lists.proofs.read_again.Goals as goal

pub returns-then-from-lt3 : goal.returns-then-from-lt3
returns-then-from-lt3 c = let a = c.args in
    again_outside a.long a.s.now a.from a.k a.lists.now (λ x y. omega (arith, x, c.if-from-lt3.true))

pub returns-then-s-from : goal.returns-then-s-from
returns-then-s-from c = let a = c.args in
    again_outside a.long a.s.now a.from a.k a.lists.now (λ x y. omega (arith, y, c.if-s-from.true))

pub returns-then-is_ok : goal.returns-then-is_ok
returns-then-is_ok c = let a = c.args in
    again_ok a.long a.s.now a.from a.k a.lists.now _ _ _ c.definitions_at.ensures.meets_list c.is_ok.ensures.value c.if-is_ok.true (omega (arith, c.if-from-lt3.false)) c.put_list.ensures

pub returns-else-is_ok : goal.returns-else-is_ok
returns-else-is_ok c = let a = c.args in
    again_err a.long a.s.now a.from a.k a.lists.now _ _ c.definitions_at.ensures.meets_list c.is_ok.ensures.value c.if-is_ok.false
