-- `sgml_read` meets its contract: the reader's answer, as six numbers.
use Rattle.std.proofs.Common.{ap, subst, List, ℕ, get_or}
use Rattle.rules.specs.Settings.{Settings}
use Rattle.rules.specs.Lent.{bytes}
use Rattle.rules.specs.Reader.{ReadAs}
use Rattle.one_document.specs.Answer.{answer_of}
use Rattle.answer_numbers.specs.Fits.{answer_fits}
use Rattle.sgml.proofs.sgml_read.Goals as goal

pub numbers_read-six-requires : goal.numbers_read-six-requires
numbers_read-six-requires c =
    let a = c.args in
    let r = c.read_to_bytes-a in
    answer_fits bytes _ a.type_file.now a.document.now a.buffer.now r.new.buffer r.result r.ensures.read_as r.ensures.count_fits

pub returns : goal.returns
returns c =
    let a = c.args in
    let r = c.read_to_bytes-a in
    let so = subst (λ (given : Settings). ReadAs bytes given a.type_file.now a.document.now a.buffer.now (answer_of r.result) r.new.buffer) c.chosen.ensures r.ensures.read_as in
    (answer_of r.result, ap (λ (six : List ℕ). get_or six 0 0) c.numbers_read-six.ensures, c.numbers_read-six.ensures, so)
