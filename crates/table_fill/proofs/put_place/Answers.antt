-- `put_place` meets its contract: a place that names nothing is not filed.
use mathlib.Core.Path.{refl}
use native.Mathlib.Omega.{arith}
use Rattle.table_fill.specs.Places.{place_none, place_some}
use Rattle.table_fill.proofs.put_place.Goals as goal

pub returns-then-v-eq0 : goal.returns-then-v-eq0
returns-then-v-eq0 c = place_none _ _ _ _ _ (omega arith) (omega arith) c.told-places c.told-facts c.if-v-eq0.true

pub returns : goal.returns
returns c = place_some _ _ _ _ _ (omega arith) (omega arith) c.told-places c.told-facts _ _ (omega arith) (omega arith) (omega arith) refl
