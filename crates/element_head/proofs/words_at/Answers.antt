-- `words_at` meets its contract: what was read so far, and what each refusal passes on.
use Rattle.std.proofs.Common.{sym, ap, ◌∙◌}
use Rattle.text.specs.Words.{gap_range, passed_on}
use Rattle.element_head.specs.Heads.{head_of}
use Rattle.element_head.specs.Words.{words_gap, words_start, words_between, words_end, words_got}
use Rattle.rules_laws.specs.Declarations.{omission_range}
use Rattle.element_head.proofs.words_at.Goals as goal

pub returns-in_err-j : goal.returns-in_err-j
returns-in_err-j c =
    let a = c.args in
    ap head_of (passed_on _ c.from_residual.ensures.1) ∙ sym (words_gap a.long a.s.now a.i a.e (sym c.in_err-j.ensures))

pub omission_at-requires : goal.omission_at-requires
omission_at-requires c = ((gap_range c.args.s.now c.args.e _ c.requires.1 (sym c.in_ok-j.ensures)).1, c.requires.2)

pub returns-in_err-start : goal.returns-in_err-start
returns-in_err-start c =
    let a = c.args in
    ap head_of (passed_on _ c.from_residual-in_err-start.ensures.1) ∙ sym (words_start a.long a.s.now a.i a.e (sym c.in_ok-j.ensures) (sym c.in_err-start.ensures))

pub gap_end-requires-2 : goal.gap_end-requires-2
gap_end-requires-2 c =
    let a = c.args in
    let gap_in = (gap_range a.s.now a.e _ c.requires.1 (sym c.in_ok-j.ensures)).1 in
    (omission_range a.long a.s.now a.e _ _ gap_in (sym c.in_ok-start.ensures)).1

pub returns-in_err-l : goal.returns-in_err-l
returns-in_err-l c =
    let a = c.args in
    ap head_of (passed_on _ c.from_residual-in_err-l.ensures.1) ∙ sym (words_between a.long a.s.now a.i a.e (sym c.in_ok-j.ensures) (sym c.in_ok-start.ensures) (sym c.in_err-l.ensures))

pub omission_at-requires-2 : goal.omission_at-requires-2
omission_at-requires-2 c =
    let a = c.args in
    let gap_in = (gap_range a.s.now a.e _ c.requires.1 (sym c.in_ok-j.ensures)).1 in
    let start_in = (omission_range a.long a.s.now a.e _ _ gap_in (sym c.in_ok-start.ensures)).1 in
    ((gap_range a.s.now _ _ start_in (sym c.in_ok-l.ensures)).1, c.requires.2)

pub returns-in_err-end : goal.returns-in_err-end
returns-in_err-end c =
    let a = c.args in
    ap head_of (passed_on _ c.from_residual-in_err-end.ensures.1)
    ∙ sym (words_end a.long a.s.now a.i a.e (sym c.in_ok-j.ensures) (sym c.in_ok-start.ensures) (sym c.in_ok-l.ensures) (sym c.in_err-end.ensures))

pub returns : goal.returns
returns c =
    let a = c.args in
    sym (words_got a.long a.s.now a.i a.e (sym c.in_ok-j.ensures) (sym c.in_ok-start.ensures) (sym c.in_ok-l.ensures) (sym c.in_ok-end.ensures))
