-- `fill` meets its contract: the lists are read again from their heads, and the tables are those of the elements that are recorded.
use mathlib.Core.Logic.{inl}
use native.Mathlib.Omega.{arith}
use Rattle.rules_laws.specs.Within.{type_file_count}
use Rattle.attribute_lists.specs.Heads.{lists_filled}
use Rattle.full_tables.proofs.fill.Goals as goal

pub fill-requires : goal.fill-requires
fill-requires c =
    let (es, a, k, w, h) = c.requires.by_index.1 in
    (omega (arith, k, type_file_count _ _ es a.elements), a.legible.short, c.requires.lists_value.0)

pub fill_index-requires : goal.fill_index-requires
fill_index-requires c =
    let (es, a, k, w, h) = c.requires.by_index.1 in
    record { judged = (_, (es, a, k, w)); index_value = c.requires.lists_value.1 }

pub fill-requires-2 : goal.fill-requires-2
fill-requires-2 c =
    let (es, a, k, w, h) = c.requires.by_index.1 in
    record {
      by_index = (_, (es, a, k, w));
      by_index_2 = (_, es, a, c.fill_index.ensures _ es a k w, lists_filled h _ (λ ls g j l. c.fill.ensures ls g j (omega (arith, k, l))));
      rows_value = c.requires.rows_value;
      no_members = inl c.requires.lists_value.2;
    }

pub returns : goal.returns
returns c =
    λ edition (es, a, k, w, h).
    (es, a, c.fill_index.ensures _ es a k w, c.fill-2.ensures _ es a k w, lists_filled h _ (λ ls g j l. c.fill.ensures ls g j (omega (arith, k, l))))
