-- `end_fault` meets its contract: each way by what the tables answer.
use Rattle.left_out_ends.specs.Loop.{judges_incomplete, judges_required, judges_out}
use Rattle.left_out_ends.proofs.end_fault.Goals as goal

pub end_omitted-omitted-requires : goal.end_omitted-omitted-requires
end_omitted-omitted-requires c = c.requires.element

pub returns-then-not-complete : goal.returns-then-not-complete
returns-then-not-complete c =
    let a = c.args in
    judges_incomplete a.facts.now a.o c.if-not-complete.true

pub returns-then-not-omitted : goal.returns-then-not-omitted
returns-then-not-omitted c =
    let a = c.args in
    judges_required a.facts.now a.o (cc) c.end_omitted-omitted.ensures c.if-not-omitted.true

pub returns : goal.returns
returns c =
    let a = c.args in
    judges_out a.facts.now a.o c.if-not-complete.false c.end_omitted-omitted.ensures c.if-not-omitted.false
