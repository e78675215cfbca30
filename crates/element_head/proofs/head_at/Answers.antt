-- `head_at` meets its contract, whatever is recorded: what was read so far, and what each refusal passes on.
use Rattle.std.proofs.Common.{sym, ap, ◌∙◌}
use Rattle.text.specs.Words.{gap_range, passed_on}
use Rattle.element_head.specs.Heads.{head_of}
use Rattle.element_head.specs.Words.{head_gap, head_name, head_words}
use Rattle.element_head.specs.Ends.{head_in_lem}
use Rattle.element_head.proofs.head_at.Goals as goal

pub returns-in_err-i-clause-result_value : goal.returns-in_err-i-clause-result_value
returns-in_err-i-clause-result_value c es n r =
    let a = c.args in
    ap head_of (passed_on _ c.from_residual.ensures.1) ∙ sym (head_gap a.long a.s.now a.at es (sym c.in_err-i.ensures))

pub element_name-requires : goal.element_name-requires
element_name-requires c = ((gap_range c.args.s.now c.args.at _ c.requires.0 (sym c.in_ok-i.ensures)).1, c.requires.1, c.requires.2)

pub returns-in_err-e-clause-result_value : goal.returns-in_err-e-clause-result_value
returns-in_err-e-clause-result_value c es n r =
    let a = c.args in
    ap head_of (passed_on _ c.from_residual-in_err-e.ensures.1) ∙ sym (head_name a.long a.s.now a.at es (sym c.in_ok-i.ensures) (sym (c.in_err-e.ensures.result_value es n r)))

pub words_at-requires : goal.words_at-requires
words_at-requires c = (c.in_ok-e.ensures.name_in.0, c.in_ok-e.ensures.name_in.1, c.requires.1)

pub returns : goal.returns
returns c =
    let a = c.args in
    let gap_in = (gap_range a.s.now a.at _ c.requires.0 (sym c.in_ok-i.ensures)).0 in
    let name = c.in_ok-e.ensures.name_in in
    record {
      result_value = λ es n r. c.words_at.ensures ∙ sym (head_words a.long a.s.now a.at es (sym c.in_ok-i.ensures) (sym (c.in_ok-e.ensures.result_value es n r)));
      head_in = head_in_lem a.long a.s.now _ _ a.at a.d.count c.words_at.result c.words_at.ensures gap_in name.0 name.1 name.2 name.3;
    }
