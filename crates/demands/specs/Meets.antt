-- The calls of the crate sgml: the routine of each, as it was proved, meets the contract whose `ensures` is
-- what the page states about it. So nothing stands between the page and the code but the contract that both
-- share. The exports of sgml_c are one call further out, under the same clauses. The routine is what the
-- call's name means wherever its code is linked (`Wired`).
use seplogic.Ra.Ura.{Ura}
use prog.Model.{Model}
use prog.Routine.{Routine}
use prog.Wired.{Wired}
use base.Logic.{ent}
use types.Logic.{Logic}
use contract.Running.{Running}
use contract.Monad.{fact, fact_mono, fm→mono}
use contract.Lifetimes.{Lfts}
use denote.Triple.Entry.{Args, Res}
use denote.Triple.Clauses.{Clauses, Ended, Lasts, AtExit, at_exit, closing}
use denote.Triple.Spec.{Meets}
use denote.Triple.Table.{run_framed}
use denote.Triple.Weaken.{weaken}
use Rattle.sgml.specs.contracts.sgml_judge as c_judge
use Rattle.sgml.proofs.sgml_judge.Symbol as c_judge_symbol
use Rattle.sgml.proofs.sgml_judge.Met as c_judge_met
use Rattle.sgml.specs.contracts.sgml_read as c_read
use Rattle.sgml.proofs.sgml_read.Symbol as c_read_symbol
use Rattle.sgml.proofs.sgml_read.Met as c_read_met
use Rattle.sgml.specs.contracts.sgml_read_batch as c_batch
use Rattle.sgml.proofs.sgml_read_batch.Symbol as c_batch_symbol
use Rattle.sgml.proofs.sgml_read_batch.Met as c_batch_met
use Rattle.sgml.specs.contracts.sgml_attributes as c_attributes
use Rattle.sgml.proofs.sgml_attributes.Symbol as c_attributes_symbol
use Rattle.sgml.proofs.sgml_attributes.Met as c_attributes_met
use Rattle.demands.specs.Demands.{JudgeGives, sgml_judge, ReadGives, sgml_read, BatchGives, sgml_read_batch, ListGives, sgml_attributes}

module _ {M : Type 1} {𝓤 : Ura M} (𝓛 : Logic 𝓤) (𝓜 : Model 𝓤 𝓛.H) (𝓡 : Running 𝓤 𝓛.H 𝓜) (T : Ended) (c : Clauses 𝓤 T) where
  -- What may be said of what is passed, what is returned, and what was passed, as it is then.
  open 𝓛 use {H}

  abbrev Claim : Type 1
  Claim = (κs : Lfts T.signature.lifetimes) → Args T.signature κs → Res T.signature κs → AtExit T κs → Type 0

  -- The contract c, with that for its `ensures`.
  abbrev pub saying : Claim → Clauses 𝓤 T
  saying Says κs a = record { ghost = (c κs a).ghost; requires = (c κs a).requires; ensures = λ g r e. fact 𝓤 (Says κs a r e) }

  -- The routine ρ meets a contract.
  abbrev pub RoutineMeets : Routine → Clauses 𝓤 T → Type 1
  RoutineMeets ρ d = Meets 𝓛 T.signature (𝓡.run ρ) (closing 𝓛 T d)

  -- It meets every contract that follows from one which it meets.
  meets_so : (ρ : Routine) (Says : Claim) → ((κs : Lfts T.signature.lifetimes) (a : Args T.signature κs) (g : (c κs a).ghost) (r : Res T.signature κs) (ws : Lasts T κs a) → ent 𝓤 ((c κs a).ensures g r (at_exit T κs a ws)) (fact 𝓤 (Says κs a r (at_exit T κs a ws)))) → RoutineMeets ρ c → RoutineMeets ρ (saying Says)
  meets_so ρ Says so met = weaken 𝓛 T c (λ κs a g r e. fact 𝓤 (Says κs a r e)) so (𝓡.run ρ) (λ vs. fm→mono 𝓤 _ (run_framed 𝓤 H 𝓜 𝓡 ρ vs)) met

module _ {M : Type 1} {𝓤 : Ura M} (𝓛 : Logic 𝓤) (𝓜 : Model 𝓤 𝓛.H) (𝓡 : Running 𝓤 𝓛.H 𝓜) where
  abbrev judge_clauses : Clauses 𝓤 c_judge.ended
  judge_clauses = c_judge.clauses 𝓛 𝓜.mem 𝓡.returns

  pub sgml_judge_meets : Wired 𝓡.env c_judge_symbol.code → RoutineMeets 𝓛 𝓜 𝓡 c_judge.ended judge_clauses (𝓡.env c_judge_symbol.name) (saying 𝓛 𝓜 𝓡 c_judge.ended judge_clauses JudgeGives)
  sgml_judge_meets wired = meets_so 𝓛 𝓜 𝓡 c_judge.ended judge_clauses (𝓡.env c_judge_symbol.name) JudgeGives (λ κs a g r ws. fact_mono 𝓤 _ _ (sgml_judge κs a r (at_exit c_judge.ended κs a ws))) (c_judge_met.met 𝓤 𝓛 𝓜 𝓡 wired)

  abbrev read_clauses : Clauses 𝓤 c_read.ended
  read_clauses = c_read.clauses 𝓛 𝓜.mem 𝓡.returns

  pub sgml_read_meets : Wired 𝓡.env c_read_symbol.code → RoutineMeets 𝓛 𝓜 𝓡 c_read.ended read_clauses (𝓡.env c_read_symbol.name) (saying 𝓛 𝓜 𝓡 c_read.ended read_clauses ReadGives)
  sgml_read_meets wired = meets_so 𝓛 𝓜 𝓡 c_read.ended read_clauses (𝓡.env c_read_symbol.name) ReadGives (λ κs a g r ws. fact_mono 𝓤 _ _ (sgml_read κs a r (at_exit c_read.ended κs a ws))) (c_read_met.met 𝓤 𝓛 𝓜 𝓡 wired)

  abbrev batch_clauses : Clauses 𝓤 c_batch.ended
  batch_clauses = c_batch.clauses 𝓛 𝓜.mem 𝓡.returns

  pub sgml_read_batch_meets : Wired 𝓡.env c_batch_symbol.code
      → RoutineMeets 𝓛 𝓜 𝓡 c_batch.ended batch_clauses (𝓡.env c_batch_symbol.name)
      (saying 𝓛 𝓜 𝓡 c_batch.ended batch_clauses BatchGives)
  sgml_read_batch_meets wired =
      meets_so 𝓛 𝓜 𝓡 c_batch.ended batch_clauses (𝓡.env c_batch_symbol.name) BatchGives
      (λ κs a g r ws. fact_mono 𝓤 _ _ (sgml_read_batch κs a r (at_exit c_batch.ended κs a ws)))
      (c_batch_met.met 𝓤 𝓛 𝓜 𝓡 wired)

  abbrev attributes_clauses : Clauses 𝓤 c_attributes.ended
  attributes_clauses = c_attributes.clauses 𝓛 𝓜.mem 𝓡.returns

  pub sgml_attributes_meets : Wired 𝓡.env c_attributes_symbol.code
      → RoutineMeets 𝓛 𝓜 𝓡 c_attributes.ended attributes_clauses (𝓡.env c_attributes_symbol.name)
      (saying 𝓛 𝓜 𝓡 c_attributes.ended attributes_clauses ListGives)
  sgml_attributes_meets wired =
      meets_so 𝓛 𝓜 𝓡 c_attributes.ended attributes_clauses (𝓡.env c_attributes_symbol.name) ListGives
      (λ κs a g r ws. fact_mono 𝓤 _ _ (sgml_attributes κs a r (at_exit c_attributes.ended κs a ws)))
      (c_attributes_met.met 𝓤 𝓛 𝓜 𝓡 wired)
