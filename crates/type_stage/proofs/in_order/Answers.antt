-- `in_order` meets its contract: each way by what is known of the document there.
use Prim.Native.Nat.{ℕ}
use mathlib.Core.List.{List}
use mathlib.Core.Path.{ap, sym, ◌∙◌}
use Rattle.rules.specs.Settings.{Settings}
use Rattle.rules.specs.Reader.{document_refusal}
use Rattle.inputs.specs.Looking.{legible_both, document_unclean}
use Rattle.text.specs.declared.Fault.{Fault}
use Rattle.type_judge.specs.Deciding.{raised}
use Rattle.type_stage.specs.Stages.{Staged, OrderedAs, alone_of}
use Rattle.type_stage.specs.Order.{staged_legible, too_long, unclean_alone, legible_alone, ordered_read, ordered_refused}
use Rattle.type_stage.proofs.in_order.Goals.{After-branch-g, else-not-is_unclean-via-then-not-is_unclean+else-not-all_allowed, else-not-is_unclean-via-else-not-is_unclean}
use Rattle.type_stage.proofs.in_order.Goals as goal

pub returns-then-d-gt-DOCUMENT_LIMIT : goal.returns-then-d-gt-DOCUMENT_LIMIT
returns-then-d-gt-DOCUMENT_LIMIT c settings s elements heads h =
    let a = c.args in
    too_long settings s elements heads a.d.now a.g c.too_long.result (c.too_long.ensures settings s elements heads h) c.if-d-gt-DOCUMENT_LIMIT.true

pub returns-then-not-all_allowed : goal.returns-then-not-all_allowed
returns-then-not-all_allowed c settings s elements heads h =
    let a = c.args in
    let clean = sym c.is_unclean.ensures ∙ c.if-not-is_unclean.true in
    rw c.at.ensures (document_unclean settings s a.d.now (staged_legible settings s elements heads a.g clean h) c.if-d-gt-DOCUMENT_LIMIT.false
    (sym c.all_allowed.ensures ∙ c.if-not-all_allowed.true) _ c.allowed_end.ensures)

-- What the type comes to alone, where nothing of the document comes before it.
alone : (c : After-branch-g) (settings : Settings) (s elements heads : List ℕ) → Staged settings s elements heads c.args.g → OrderedAs settings s c.args.d.now c.args.g (alone_of c.args.g)
alone c settings s elements heads h =
    let a = c.args in
    elim c.else-not-is_unclean.branch [
      | else-not-is_unclean-via-then-not-is_unclean+else-not-all_allowed w ↦
          let clean = sym c.is_unclean.ensures ∙ w.if-not-is_unclean.true in
          legible_alone settings s elements heads a.d.now
          (legible_both settings s a.d.now (staged_legible settings s elements heads a.g clean h) c.if-d-gt-DOCUMENT_LIMIT.false (sym w.all_allowed.ensures ∙ w.if-not-all_allowed.false)) a.g clean h
      | else-not-is_unclean-via-else-not-is_unclean w ↦
          unclean_alone settings s elements heads a.d.now a.g (sym c.is_unclean.ensures ∙ w.if-not-is_unclean.false) h c.if-d-gt-DOCUMENT_LIMIT.false
    ]

pub returns-in_err-g : goal.returns-in_err-g
returns-in_err-g c settings s elements heads h =
    let a = c.args in
    ordered_refused settings s a.d.now a.g (alone (goal.at.returns-in_err-g c).After-branch-g settings s elements heads h) _ _ c.in_err-g.was (raised _ c.from_residual.ensures.1)

pub returns : goal.returns
returns c settings s elements heads h =
    let a = c.args in
    ordered_read settings s a.d.now a.g (alone (goal.at.returns c).After-branch-g settings s elements heads h) _ c.in_ok-g.was
