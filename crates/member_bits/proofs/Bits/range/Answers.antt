use native.Mathlib.Omega.{arith}
use mathlib.Core.Path.{refl}
use Rattle.member_bits.specs.Operations.{ranged_none, ranged_more, ranged_past, ranged_as}
use Rattle.member_bits.proofs.Bits.range.Goals as goal
use Rattle.member_bits.proofs.Bits.range.Goals.{then-h-ge1+then-h-le-GRPGTCNT, else-h-ge1, else-h-ge1-via-then-h-ge1+else-h-le-GRPGTCNT, else-h-ge1-via-else-h-ge1}

pub loop-j-init : goal.loop-j-init
loop-j-init c = ranged_none _ c.none-b.ensures

pub returns : goal.returns
returns c = ranged_as _ _ _ refl (omega arith) c.loop-j.invariant

pub loop-j-preserved : goal.loop-j-preserved
loop-j-preserved c = elim c.if-h-ge1.branch [
  | then-h-ge1+then-h-le-GRPGTCNT w ↦ ranged_as _ _ _ w.b-is refl (ranged_more _ _ (w.with-b.ensures _ c.loop-j.invariant))
  | else-h-ge1 w ↦
      ranged_as _ _ _ w.b-is refl
      (ranged_past _ _
      (λ x y. elim w.else-h-ge1.branch [
        | else-h-ge1-via-then-h-ge1+else-h-le-GRPGTCNT v ↦ omega (arith, v.if-h-le-GRPGTCNT.false)
        | else-h-ge1-via-else-h-ge1 v ↦ omega (arith, v.if-h-ge1.false)
      ])
      c.loop-j.invariant)
]
