-- `printed_text::put_events` puts the text of the events: the table of elements that the judge leaves has their names, and that of attributes theirs.
use Rattle.std.proofs.Common.{ℕ, refl, arith}
use Rattle.std.proofs.lemmas.List.{length-replicate}
use Rattle.layout.specs.Sizes.{ATTRIBUTE_RECORDS}
use Rattle.printed_text.specs.Table.{judged_given, table_fits, names_are, text_is}
use Rattle.file_reader.specs.Loading.{counts_of}
use Rattle.printed_text.proofs.put_events.Goals as goal

pub listed-total-requires : goal.listed-total-requires
listed-total-requires c = (c.requires.1, length-replicate {A = ℕ} ATTRIBUTE_RECORDS 0)

pub invariant_of-names : goal.invariant_of-names
invariant_of-names c =
    let (es, accepted) = c.requires.1 in
    let listed = c.listed-total.ensures in
    record {
      elements_fit = table_fits _ es accepted _ _ _ refl (judged_given c.given.ensures c.judge.ensures);
      attributes_fit = listed.fits;
      few = listed.few;
    }

pub returns : goal.returns
returns c =
    let said = c.put_events.ensures in
    let judged = judged_given c.given.ensures c.judge.ensures in
    (counts_of _ _ said.0, λ es ev rest accepted q count. text_is _ _ _ _ _ _ said.1 es ev rest (names_are _ es accepted _ _ _ refl judged) (c.listed-total.ensures.named es accepted) q count)
