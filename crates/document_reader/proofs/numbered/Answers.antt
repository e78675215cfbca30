-- `numbered` meets its contract: the document is followed under the elements that were judged, by all tables of the type.
use mathlib.Core.Path.{refl}
use mathlib.Core.List.{[]}
use Rattle.inputs.specs.Checks.{settings_of}
use Rattle.rules_laws.specs.Offered.{offered_range}
use Rattle.one_document.specs.Answering.{events_numbers}
use Rattle.document_reader.proofs.numbered.Goals as goal

pub fill-requires : goal.fill-requires
fill-requires c = record { by_index = (_, c.requires.0); lists_value = (refl, refl, refl); rows_value = (refl, refl, refl) }

pub events_of-requires : goal.events_of-requires
events_of-requires c =
    let (es, a, k, w, h) = c.requires.0 in
    rw c.under-t.ensures (c.class_table-classes.ensures, (offered_range _ a.legible.offered).1, c.requires.1, a.legible.short)

pub returns : goal.returns
returns c =
    let (es, a, i, tables, l) = c.fill.ensures _ c.requires.0 in
    (es, a, events_numbers (settings_of c.args.a.settings) c.args.a.file.now es c.args.d.now c.args.numbers.now c.events_of.new.numbers [] c.events_of.new.bytes c.events_of.result ((rw c.under-t.ensures at c.events_of.ensures.by_type) es i tables l))
