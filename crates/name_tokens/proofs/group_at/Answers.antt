use Prim.Native.Nat.{◌+◌, ◌<◌}
use mathlib.Core.Path.{refl, sym, ◌∙◌, ap}
use native.Mathlib.Omega.{arith}
use lib.ListN.{length}
use Rattle.rules.specs.Bytes.{GRPC}
use Rattle.text.specs.Refusal.{refusal_of}
use Rattle.text.specs.Words.{byte_is_in, separators_end_from, separators_end_le, passed_on}
use Rattle.name_tokens.specs.TokenByToken.{goes_first, goes_refused, goes_closed, goes_on, goes_percent, goes_unfit, joins_in}
use Rattle.name_tokens.proofs.group_at.Goals as goal

pub loop-e-init : goal.loop-e-init
loop-e-init c = let a = c.args in
    let s = a.s.now in (
      omega (arith, separators_end_from s (a.at + 1), c.separators_end-i.ensures),
      omega (arith, separators_end_le s (a.at + 1) (omega arith), c.separators_end-i.ensures),
      omega arith,
      omega arith,
      goes_first a.long s a.seen.now a.n a.at _ c.separators_end-i.ensures,
    )

pub overflow_sub-m : goal.overflow_sub-m
overflow_sub-m c = omega (arith, c.loop-e.invariant.2)

pub token_at-requires : goal.token_at-requires
token_at-requires c = omega (arith, c.loop-e.invariant.1, c.loop-e.invariant.3)

pub returns-in_err-e : goal.returns-in_err-e
returns-in_err-e c = let g = c.loop-e.invariant.4 in
    rw (passed_on _ c.from_residual.ensures.1)
    record { meets_group = goes_refused _ _ _ _ _ _ _ _ _ g _ _ (sym (c.in_err-e.ensures.result_value _ g.ps (omega (arith, g.counted)) g.parts)); group_in = tt }

pub overflow_sub-e : goal.overflow_sub-e
overflow_sub-e c = omega (arith, c.in_ok-e.ensures.token_in)

pub put_token-requires : goal.put_token-requires
put_token-requires c = omega (arith, c.in_ok-e.ensures.token_in, c.loop-e.invariant.2)

pub overflow_add-m : goal.overflow_add-m
overflow_add-m c = omega (arith, c.loop-e.invariant.3)

pub separators_end-j-requires : goal.separators_end-j-requires
separators_end-j-requires c = omega (arith, c.in_ok-e.ensures.token_in)

pub overflow_add-result : goal.overflow_add-result
overflow_add-result c = let s = c.args.s.now in
    omega (arith, byte_is_in s c.separators_end-j.result GRPC (sym c.byte-b.ensures ∙ c.if-b-eq41.true) (omega arith))

pub returns-then-b-eq41 : goal.returns-then-b-eq41
returns-then-b-eq41 c = let s = c.args.s.now in
    let g = c.loop-e.invariant.4 in
    let r = c.in_ok-e.ensures.token_in in
    let j = c.separators_end-j.result in record {
      meets_group = goes_closed _ s _ _ _ _ _ _ _ g c.in_ok-e.e r.0 (omega (arith, r.2, g.counted))
          (sym (c.in_ok-e.ensures.result_value _ g.ps (omega (arith, g.counted)) g.parts))
          j c.separators_end-j.ensures _ c.byte-b.ensures _ _ refl c.put_token.ensures c.if-b-eq41.true;
      group_in = (
        omega (arith, c.loop-e.invariant.0, r.0, separators_end_from s c.in_ok-e.e, c.separators_end-j.ensures),
        omega (arith, byte_is_in s j GRPC (sym c.byte-b.ensures ∙ c.if-b-eq41.true) (omega arith)),
        omega (arith, c.loop-e.invariant.2),
        omega (arith, r.2, c.loop-e.invariant.2),
      );
    }

pub returns-then-b-eq37 : goal.returns-then-b-eq37
returns-then-b-eq37 c = let s = c.args.s.now in
    let g = c.loop-e.invariant.4 in
    let r = c.in_ok-e.ensures.token_in in record {
      meets_group = goes_percent _ s _ _ _ _ _ _ _ g c.in_ok-e.e r.0 (omega (arith, r.2, g.counted))
          (sym (c.in_ok-e.ensures.result_value _ g.ps (omega (arith, g.counted)) g.parts))
          _ c.separators_end-j.ensures _ c.byte-b.ensures c.if-b-eq41.false c.if-b-eq37.true ∙ sym (ap refusal_of c.at.ensures);
      group_in = tt;
    }

pub returns-then-not-joins : goal.returns-then-not-joins
returns-then-not-joins c = let s = c.args.s.now in
    let g = c.loop-e.invariant.4 in
    let r = c.in_ok-e.ensures.token_in in record {
      meets_group = goes_unfit _ s _ _ _ _ _ _ _ g c.in_ok-e.e r.0 (omega (arith, r.2, g.counted))
          (sym (c.in_ok-e.ensures.result_value _ g.ps (omega (arith, g.counted)) g.parts))
          _ c.separators_end-j.ensures _ c.byte-b.ensures c.if-b-eq41.false c.if-b-eq37.false c.joins.ensures (c.if-not-joins.true) ∙ sym (ap refusal_of c.at-then-not-joins.ensures);
      group_in = tt;
    }

pub overflow_add-j : goal.overflow_add-j
overflow_add-j c =
    -- The connector stands in the text.
    let joined : c.separators_end-j.result < length c.args.s.now = joins_in c.args.s.now c.separators_end-j.result c.byte-b.result c.loop-e.c c.byte-b.ensures c.joins.ensures (c.if-not-joins.false) in
    omega (arith, joined)

pub separators_end-i-requires-in-loop-e : goal.separators_end-i-requires-in-loop-e
separators_end-i-requires-in-loop-e c =
    -- The connector stands in the text.
    let joined : c.separators_end-j.result < length c.args.s.now = joins_in c.args.s.now c.separators_end-j.result c.byte-b.result c.loop-e.c c.byte-b.ensures c.joins.ensures (c.if-not-joins.false) in
    omega (arith, joined)

pub loop-e-smaller : goal.loop-e-smaller
loop-e-smaller c =
    -- The connector stands in the text.
    let joined : c.separators_end-j.result < length c.args.s.now = joins_in c.args.s.now c.separators_end-j.result c.byte-b.result c.loop-e.c c.byte-b.ensures c.joins.ensures (c.if-not-joins.false) in
    let s = c.args.s.now in
    let j = c.separators_end-j.result in
    omega (arith, joined, c.in_ok-e.ensures.token_in, separators_end_from s c.in_ok-e.e, c.separators_end-j.ensures, separators_end_from s (j + 1), c.separators_end-i-in-loop-e.ensures)

pub loop-e-preserved : goal.loop-e-preserved
loop-e-preserved c =
    -- The connector stands in the text.
    let joined : c.separators_end-j.result < length c.args.s.now = joins_in c.args.s.now c.separators_end-j.result c.byte-b.result c.loop-e.c c.byte-b.ensures c.joins.ensures (c.if-not-joins.false) in
    let s = c.args.s.now in
    let g = c.loop-e.invariant.4 in
    let r = c.in_ok-e.ensures.token_in in
    let j = c.separators_end-j.result in (
      omega (arith, c.loop-e.invariant.0, r, separators_end_from s c.in_ok-e.e, c.separators_end-j.ensures, separators_end_from s (j + 1), c.separators_end-i-in-loop-e.ensures),
      omega (arith, separators_end_le s (j + 1) (omega (arith, joined)), c.separators_end-i-in-loop-e.ensures),
      omega (arith, c.loop-e.invariant.2),
      omega (arith, r.2, c.loop-e.invariant.2),
      goes_on _ s _ _ _ _ _ _ _ g c.in_ok-e.e r.0 (omega (arith, r.2, g.counted))
          (sym (c.in_ok-e.ensures.result_value _ g.ps (omega (arith, g.counted)) g.parts))
          j c.separators_end-j.ensures _ c.byte-b.ensures _ _ refl c.put_token.ensures c.if-b-eq41.false c.if-b-eq37.false c.joins.ensures (c.if-not-joins.false) _ c.separators_end-i-in-loop-e.ensures,
    )
