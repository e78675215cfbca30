-- `markup_runs_on` meets its contract: each way by the tests that led there.
use Prim.Native.Nat.{◌+◌}
use mathlib.Core.Path.{refl, sym, ap, ◌∙◌}
use Rattle.rules.specs.Document.{tag, start_tag_at}
use Rattle.rules.specs.Settings.{least_name_length}
use Rattle.rules_laws.specs.Runs.{is_run, start_stops, end_stops}
use Rattle.document_text.specs.Ways.{markup_start, markup_end, markup_declaration}
use Rattle.data_runs.specs.Runs.{markup_runs}
use Rattle.data_runs.proofs.markup_runs_on.Goals as goal

pub returns-then-is_letter : goal.returns-then-is_letter
returns-then-is_letter c = let a = c.args in
    let read = start_tag_at least_name_length a.s.now (a.i + 1) in
    sym (start_stops read) ∙ ap is_run (markup_start least_name_length a.s.now a.i _ c.byte-b.ensures (sym c.is_letter.ensures ∙ c.if-is_letter.true))

pub returns-then-is_end_tag : goal.returns-then-is_end_tag
returns-then-is_end_tag c = let a = c.args in
    let read = tag least_name_length a.s.now (a.i + 2) in
    sym (end_stops read) ∙ ap is_run (markup_end least_name_length a.s.now a.i _ c.byte-b.ensures (sym c.is_letter.ensures ∙ c.if-is_letter.false) (sym c.is_end_tag.ensures ∙ c.if-is_end_tag.true) read refl)

pub returns-then-b-eq33 : goal.returns-then-b-eq33
returns-then-b-eq33 c = let a = c.args in
    c.declaration_runs_on.ensures ∙ ap is_run (markup_declaration least_name_length a.s.now a.i _ c.byte-b.ensures (sym c.is_letter.ensures ∙ c.if-is_letter.false) (sym c.is_end_tag.ensures ∙ c.if-is_end_tag.false) c.if-b-eq33.true)

pub returns : goal.returns
returns c = let a = c.args in
    markup_runs least_name_length a.s.now a.i _ c.byte-b.ensures (sym c.is_letter.ensures ∙ c.if-is_letter.false) (sym c.is_end_tag.ensures ∙ c.if-is_end_tag.false) c.if-b-eq33.false
