-- `declaration_runs_on` meets its contract: each way by the tests that led there.
use Prim.Native.Nat.{◌+◌}
use mathlib.Core.Path.{refl, sym, ap, ◌∙◌}
use Rattle.rules.specs.TypeFile.{comment_declaration}
use Rattle.rules.specs.Document.{malformed}
use Rattle.rules_laws.specs.Runs.{is_run}
use Rattle.document_text.specs.Ways.{declaration_none, declaration_comment}
use Rattle.data_runs.specs.Runs.{declaration_runs, skipped_stops}
use Rattle.data_runs.proofs.declaration_runs_on.Goals as goal

pub returns-then-b-eq62 : goal.returns-then-b-eq62
returns-then-b-eq62 c = let a = c.args in
    ap is_run (declaration_none a.s.now a.i _ c.byte-b.ensures c.if-b-eq62.true)

pub returns-then-dashes_at : goal.returns-then-dashes_at
returns-then-dashes_at c = let a = c.args in
    let comment = comment_declaration a.s.now (a.i + 2) in
    sym (skipped_stops (malformed comment)) ∙ ap is_run (declaration_comment a.s.now a.i _ c.byte-b.ensures c.if-b-eq62.false comment refl (sym c.dashes_at.ensures ∙ c.if-dashes_at.true))

pub returns : goal.returns
returns c = let a = c.args in
    declaration_runs a.s.now a.i _ c.byte-b.ensures c.if-b-eq62.false (sym c.dashes_at.ensures ∙ c.if-dashes_at.false) _ c.is_left_out.ensures
