-- `read_under` meets its contract: the lists are read again from their heads, and there are none where no element has a head.
use mathlib.Core.Path.{refl, sym, ap, ◌∙◌}
use native.Mathlib.Omega.{arith}
use Rattle.rules_laws.specs.Within.{type_file_count}
use Rattle.attribute_lists.specs.Listed.{any_in}
use Rattle.attribute_lists.specs.Heads.{lists_filled, lists_none}
use Rattle.document_reader.proofs.read_under.Goals as goal

pub has_any-requires : goal.has_any-requires
has_any-requires c =
    let (es, a, k, w, h) = c.requires.0 in
    omega (arith, k, type_file_count _ _ es a.elements)

pub fill-requires : goal.fill-requires
fill-requires c =
    let (es, a, k, w, h) = c.requires.0 in
    (omega (arith, k, type_file_count _ _ es a.elements), a.legible.short, refl)

pub read_listed-requires : goal.read_listed-requires
read_listed-requires c =
    let (es, a, k, w, h) = c.requires.0 in
    ((es, a, k, w, lists_filled h _ (λ ls g j l. c.fill.ensures ls g j (omega (arith, k, l)))), c.requires.1)

pub read_listed-requires-2 : goal.read_listed-requires-2
read_listed-requires-2 c =
    let (es, a, k, w, h) = c.requires.0 in
    let none = ap (any_in _) k ∙ sym c.has_any.ensures ∙ c.if-has_any.false in
    ((es, a, k, w, lists_none h (type_file_count _ _ es a.elements).1 none), c.requires.1)
