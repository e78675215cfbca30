use mathlib.Core.Path.{◌≡◌}
use Prim.Native.Nat.{◌+◌}
use native.Mathlib.Omega.{arith}
use Rattle.table_fill.specs.Places.{places_none}
use Rattle.table_fill.specs.Names.{place_filed}
use Rattle.table_fill.proofs.put_places.Goals as goal

pub loop-i-init : goal.loop-i-init
loop-i-init c = let pre = c.requires in
    λ es indexed. places_none indexed.settings.name_length _ es indexed.accepted.elements _ _ _ _ pre.places_len pre.facts_len pre.blank

pub name-requires : goal.name-requires
name-requires c = let pre = c.requires in
    (omega arith, omega arith, pre.fit c.loop-i.i (omega arith) (omega arith))

pub loop-i-preserved : goal.loop-i-preserved
loop-i-preserved c = λ es indexed. place_filed _ es _ _ _ _ _ indexed _ _ c.requires _ _ (omega arith) (omega arith) (c.name.ensures.result_value es indexed) _ _ _ _ (c.loop-i.invariant es indexed) c.put_place.ensures

pub returns : goal.returns
returns c = let full : c.loop-i.i ≡ c.args.count + 1 = omega arith in
    rw full at c.loop-i.invariant
