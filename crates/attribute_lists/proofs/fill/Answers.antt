use Prim.Native.Nat.{ℕ}
use mathlib.Core.Path.{sym, ◌∙◌, ap}
use native.Mathlib.Omega.{arith}
use lib.ListN.{length, length-replicate}
use Rattle.layout.specs.Sizes.{LISTS}
use Rattle.attribute_lists.specs.Heads.{fills_none, fills_long, fills_turn, fills_all}
use Rattle.attribute_lists.proofs.fill.Goals as goal

pub loop-k-init : goal.loop-k-init
loop-k-init c = fills_none c.args.long c.args.s.now c.args.heads.now c.requires.2

pub read_again-requires : goal.read_again-requires
read_again-requires c = omega (arith, c.requires, c.loop-k-test.true, fills_long c.args.long c.args.s.now c.args.heads.now c.loop-k.invariant)

pub loop-k-preserved : goal.loop-k-preserved
loop-k-preserved c = let a = c.args in
    fills_turn a.long a.s.now a.heads.now (omega (arith, c.requires, c.loop-k-test.true)) c.loop-k.invariant c.short.ensures.0 c.read_again.ensures

pub shape_of-lists : goal.shape_of-lists
shape_of-lists c = fills_long c.args.long c.args.s.now c.args.heads.now c.loop-k.invariant ∙ sym (ap length c.requires.2 ∙ length-replicate {A = ℕ} LISTS 0)

pub returns : goal.returns
returns c = fills_all c.args.long c.args.s.now c.args.heads.now c.loop-k.invariant (omega arith)
