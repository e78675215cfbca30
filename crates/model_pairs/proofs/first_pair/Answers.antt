use Rattle.std.proofs.Common.{refl, arith}
use Rattle.model_pairs.specs.Seeks.{pairs_start, pairs_past, pairs_found, pairs_none}
use Rattle.model_pairs.proofs.first_pair.Goals as goal

pub loop-p-init : goal.loop-p-init
loop-p-init c = (omega arith, omega arith, λ F t. pairs_start _ _ _ _)

pub returns-in-Some-clause-by_index : goal.returns-in-Some-clause-by_index
returns-in-Some-clause-by_index c F t =
    pairs_found _ _ _ _ _ (c.loop-p.invariant.2 F t) c.in-Some.q (omega arith) (c.in-Some.ensures.by_index_2 F t) (let l = c.in-Some.ensures.fact in omega arith)

pub loop-p-preserved : goal.loop-p-preserved
loop-p-preserved c =
    (omega arith, omega arith, λ F t. pairs_past _ _ _ _ _ (c.loop-p.invariant.2 F t) 0 (omega arith) (c.in_default.ensures.by_index_2 F t) refl)

pub returns-clause-by_index : goal.returns-clause-by_index
returns-clause-by_index c F t = pairs_none _ _ _ _ _ (c.loop-p.invariant.2 F t) (omega arith)
