-- `sgml_attributes` meets its contract: the answer of the list, as six numbers.
use Rattle.std.proofs.Common.{ap, subst, List, ℕ, get_or}
use Rattle.rules.specs.Settings.{Settings}
use Rattle.rules.specs.Lent.{bytes}
use Rattle.rules.specs.Listing.{Lists}
use Rattle.type_judge.specs.Decides.{answer_of}
use Rattle.sgml.specs.AnswersFit.{listed_fits}
use Rattle.sgml.proofs.sgml_attributes.Goals as goal

pub numbers_of-six-requires : goal.numbers_of-six-requires
numbers_of-six-requires c =
    let a = c.args in
    let r = c.list_to_bytes-v in
    listed_fits bytes _ a.type_file.now a.buffer.now r.new.buffer r.result r.ensures

pub returns : goal.returns
returns c =
    let a = c.args in
    let r = c.list_to_bytes-v in
    let so = subst (λ (given : Settings). Lists bytes given a.type_file.now a.buffer.now (answer_of r.result) r.new.buffer) c.chosen.ensures r.ensures in
    (answer_of r.result, ap (λ (six : List ℕ). get_or six 0 0) c.numbers_of-six.ensures, c.numbers_of-six.ensures, so)
