use Prim.Native.Nat.{◌<◌}
use mathlib.Core.Path.{◌≡◌, sym, ◌∙◌, ap}
use mathlib.Core.Bool.{true}
use native.Mathlib.Omega.{arith}
use Rattle.open_elements.specs.declared.OpenElements.{OpenElements}
use Rattle.inferring.specs.Ends.{turns_start, turns_end}
use Rattle.inferring.proofs.ends.Goals as goal

pub loop-w-init : goal.loop-w-init
loop-w-init c = turns_start _ _ _ _ _ _ _ _ _ _ _ c.requires.0

pub put_event-m-requires : goal.put_event-m-requires
put_event-m-requires c = (omega (arith, c.loop-w.invariant.counted, c.loop-w.invariant.deep, c.requires.3, c.requires.0.few), omega (arith, c.loop-w.invariant.ranged.element), omega (arith, c.requires.2), omega arith, omega arith)

pub infer_end-o-requires : goal.infer_end-o-requires
infer_end-o-requires c = (c.loop-w.invariant.ranged, omega (arith, (let it : let o = c.loop-w.o in (1 < o.count) × (o.complete ≡ true) = c.may_end.ensures.lt_count c.if-not-may_end.false in it).0), (let it : let o = c.loop-w.o in (1 < o.count) × (o.complete ≡ true) = c.may_end.ensures.lt_count c.if-not-may_end.false in it).1)

pub loop-w-smaller : goal.loop-w-smaller
loop-w-smaller c = omega (arith, ap (λ (o : OpenElements). o.count) c.infer_end-o.ensures, (let it : let o = c.loop-w.o in (1 < o.count) × (o.complete ≡ true) = c.may_end.ensures.lt_count c.if-not-may_end.false in it).0)

pub loop-w-preserved : goal.loop-w-preserved
loop-w-preserved c = turns_end _ _ _ _ _ _ _ _ c.loop-w.invariant _ c.way_at-w.ensures.by_index c.in-Stuck.is _ c.may_end.ensures.may_end c.if-not-may_end.false (omega (arith, (let it : let o = c.loop-w.o in (1 < o.count) × (o.complete ≡ true) = c.may_end.ensures.lt_count c.if-not-may_end.false in it).0))
    c.put_event-m.ensures.1 c.infer_end-o.ensures c.put_event-m.ensures.0

pub shape_of-numbers-in_default : goal.shape_of-numbers-in_default
shape_of-numbers-in_default c = c.loop-w.invariant.puts.numbers_kept

pub shape_of-bytes-in_default : goal.shape_of-bytes-in_default
shape_of-bytes-in_default c = c.loop-w.invariant.puts.bytes_kept

pub returns-in_default : goal.returns-in_default
returns-in_default c = record {
  turns = c.loop-w.invariant;
  fits = c.way_at-w.ensures.result_bound.0;
  starts = c.way_at-w.ensures.result_bound.1;
  finds = c.way_at-w.ensures.by_index;
  stays = λ e. absurd (c.in_default.not-Stuck e);
}

pub shape_of-numbers-then-not-may_end : goal.shape_of-numbers-then-not-may_end
shape_of-numbers-then-not-may_end c = c.loop-w.invariant.puts.numbers_kept

pub shape_of-bytes-then-not-may_end : goal.shape_of-bytes-then-not-may_end
shape_of-bytes-then-not-may_end c = c.loop-w.invariant.puts.bytes_kept

pub returns-then-not-may_end : goal.returns-then-not-may_end
returns-then-not-may_end c = record {
  turns = c.loop-w.invariant;
  fits = c.way_at-w.ensures.result_bound.0;
  starts = c.way_at-w.ensures.result_bound.1;
  finds = c.way_at-w.ensures.by_index;
  stays = λ e s es raised f M begun z h. sym c.if-not-may_end.true ∙ c.may_end.ensures.may_end s es raised f M begun z h;
}
