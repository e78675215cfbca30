use Rattle.std.proofs.Common.{◌∙◌, sym, arith}
use Rattle.event_names.specs.Naming.{record_first, record_here, record_other, record_behind, record_none}
use Rattle.event_names.proofs.Names.record_of.Goals as goal
use Rattle.event_names.proofs.Names.record_of.Goals.{else-self-i-via-then-self-i+else-self-i-2}
use Rattle.event_names.proofs.Names.record_of.Goals.{else-self-i-via-else-self-i}

pub loop-k-init : goal.loop-k-init
loop-k-init c = record_first _ _ _ _

pub returns-then-self-i-2 : goal.returns-then-self-i-2
returns-then-self-i-2 c = (
  record_here _ _ _ _ _ (omega arith) c.if-self-i.true c.if-self-i-2.true
      ∙ c.loop-k.invariant,
  omega arith,
)

pub loop-k-preserved : goal.loop-k-preserved
loop-k-preserved c =
    elim c.else-self-i.branch [
      | else-self-i-via-then-self-i+else-self-i-2 w ↦ record_behind _ _ _ _ _ (omega arith) w.if-self-i.true
          w.if-self-i-2.false ∙ c.loop-k.invariant
      | else-self-i-via-else-self-i w ↦ record_other _ _ _ _ _ (omega arith) w.if-self-i.false
          ∙ c.loop-k.invariant
    ]

pub returns : goal.returns
returns c = sym (record_none _ _ _ _ _ (omega arith) (omega arith) ∙ c.loop-k.invariant)
