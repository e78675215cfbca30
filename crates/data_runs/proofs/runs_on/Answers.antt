-- `runs_on` meets its contract: each way by the tests that led there.
use mathlib.Core.Path.{sym, ap, ◌∙◌}
use Rattle.rules.specs.Settings.{least_name_length}
use Rattle.rules_laws.specs.Runs.{is_run}
use Rattle.document_text.specs.Ways.{piece_markup, piece_reference, piece_section, piece_byte}
use Rattle.data_runs.specs.Runs.{byte_runs}
use Rattle.data_runs.proofs.runs_on.Goals as goal

pub returns-then-b-eq60 : goal.returns-then-b-eq60
returns-then-b-eq60 c = let a = c.args in
    c.markup_runs_on.ensures ∙ ap is_run (piece_markup least_name_length a.s.now a.i (sym c.byte-b.ensures ∙ c.if-b-eq60.true))

pub returns-then-is_reference : goal.returns-then-is_reference
returns-then-is_reference c = let a = c.args in
    ap is_run (piece_reference least_name_length a.s.now a.i (λ e. c.if-b-eq60.false (c.byte-b.ensures ∙ e)) (sym c.is_reference.ensures ∙ c.if-is_reference.true))

pub returns-then-is_section_end : goal.returns-then-is_section_end
returns-then-is_section_end c = let a = c.args in
    ap is_run (piece_section least_name_length a.s.now a.i (λ e. c.if-b-eq60.false (c.byte-b.ensures ∙ e)) (sym c.is_reference.ensures ∙ c.if-is_reference.false) (sym c.is_section_end.ensures ∙ c.if-is_section_end.true))

pub returns : goal.returns
returns c = let a = c.args in
    let b = c.byte-b.ensures in
    byte_runs a.s.now a.i _ b ∙ ap is_run (piece_byte least_name_length a.s.now a.i (λ e. c.if-b-eq60.false (b ∙ e)) (sym c.is_reference.ensures ∙ c.if-is_reference.false) (sym c.is_section_end.ensures ∙ c.if-is_section_end.false))
