-- `read_tabled` meets its contract: the index and the tables are those of the elements that are recorded.
use mathlib.Core.Path.{refl}
use Rattle.rules_laws.specs.Offered.{offered_range}
use Rattle.document_reader.proofs.read_tabled.Goals as goal

pub fill_index-requires : goal.fill_index-requires
fill_index-requires c =
    let (es, a, k, w, l) = c.requires.0 in
    record { judged = (_, (es, a, k, w)); index_value = refl }

pub fill-requires : goal.fill-requires
fill-requires c =
    let (es, a, k, w, l) = c.requires.0 in
    record {
      by_index = (_, (es, a, k, w));
      by_index_2 = (_, es, a, c.fill_index.ensures _ es a k w, l);
      rows_value = (refl, refl, refl);
      no_members = c.requires.2;
    }

pub follow-requires : goal.follow-requires
follow-requires c =
    let (es, a, k, w, l) = c.requires.0 in
    rw c.under-t.ensures ((offered_range _ a.legible.offered).1, c.requires.1, a.legible.short)

pub returns : goal.returns
returns c =
    let (es, a, k, w, l) = c.requires.0 in
    (es, a, (rw c.under-t.ensures at c.follow.ensures.by_type) es (c.fill_index.ensures _ es a k w) (c.fill.ensures _ es a k w) l)
