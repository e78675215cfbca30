-- `put_element` meets its contract: the declaration reads as it did, so the content that it gives is that of the element.
use native.Mathlib.Omega.{arith}
use borrow.Author.Tests.{not-true}
use Rattle.table_fill.specs.Elements.{few, flags, name_in, not_refused, rows_due, places_due, element_empty, element_plain, element_among}
use Rattle.table_fill.proofs.put_element.Goals as goal

pub put_facts-requires : goal.put_facts-requires
put_facts-requires c = let due = c.requires in
    (due.from, few _ _ _ _ _ _ _ _ _ _ _ due, flags _ _ _ _ _ _ _ _ _ _ _ due)

pub offset-at-requires : goal.offset-at-requires
offset-at-requires c = let due = c.requires in
    (due.from, few _ _ _ _ _ _ _ _ _ _ _ due)

pub element_at-r-requires : goal.element_at-r-requires
element_at-r-requires c = name_in _ _ _ _ _ _ _ _ _ _ _ c.requires _ c.offset-at.ensures.0

pub returns-in_default : goal.returns-in_default
returns-in_default c = absurd (not_refused _ _ _ _ _ _ _ _ _ _ _ c.requires _ _ _ _ c.offset-at.ensures.0 c.element_at-r.ensures.meets_element _ c.in_default.is)

pub row-requires : goal.row-requires
row-requires c = (few _ _ _ _ _ _ _ _ _ _ _ c.requires, omega arith)

pub bounds-rows-row : goal.bounds-rows-row
bounds-rows-row c = omega (arith, few _ _ _ _ _ _ _ _ _ _ _ c.requires)

pub returns-in_default-model : goal.returns-in_default-model
returns-in_default-model c = element_empty _ _ _ _ _ _ _ _ _ _ _ c.requires _ _ _ _ c.offset-at.ensures.0 c.element_at-r.ensures.meets_element _ c.in-Ok.is _ c.put_facts.ensures c.in_default-model.is _ c.row.ensures

pub put_places-requires : goal.put_places-requires
put_places-requires c = places_due _ _ _ _ _ _ _ _ _ _ _ c.requires _ _ _ _ c.offset-at.ensures.0 c.element_at-r.ensures.meets_element _ c.in-Ok.is _ c.put_facts.ensures _ c.in-Some.is

pub put_rows-requires : goal.put_rows-requires
put_rows-requires c = (rows_due _ _ _ _ _ _ _ _ _ _ _ c.requires _ _ _ _ c.offset-at.ensures.0 c.element_at-r.ensures.meets_element _ c.in-Ok.is _ c.in-Some.is, omega arith)

pub returns-then-not-m : goal.returns-then-not-m
returns-then-not-m c = let due = c.requires in
    element_plain _ _ _ _ _ _ _ _ _ _ _ due _ _ _ _ c.offset-at.ensures.0 c.element_at-r.ensures.meets_element _ c.in-Ok.is _ c.put_facts.ensures _ c.in-Some.is (not-true _ c.if-not-m.true) _ _ _ c.put_rows.ensures (c.put_places.ensures _ due.indexed)

pub put_rows-requires-2 : goal.put_rows-requires-2
put_rows-requires-2 c = (rows_due _ _ _ _ _ _ _ _ _ _ _ c.requires _ _ _ _ c.offset-at.ensures.0 c.element_at-r.ensures.meets_element _ c.in-Ok.is _ c.in-Some.is, omega arith)

pub raise_facts-requires : goal.raise_facts-requires
raise_facts-requires c = few _ _ _ _ _ _ _ _ _ _ _ c.requires

pub fill-requires : goal.fill-requires
fill-requires c = omega (arith, few _ _ _ _ _ _ _ _ _ _ _ c.requires)

pub shape_of-members : goal.shape_of-members
shape_of-members c = c.fill.auto.members

pub returns : goal.returns
returns c = let due = c.requires in
    element_among _ _ _ _ _ _ _ _ _ _ _ due _ _ _ _ c.offset-at.ensures.0 c.element_at-r.ensures.meets_element _ c.in-Ok.is _ c.put_facts.ensures _ c.in-Some.is _ _ _ _ _ c.put_rows-2.ensures (c.put_places.ensures _ due.indexed)
    c.raise_facts.ensures c.fill.auto.members c.fill.ensures
