-- `declaration_at` meets its contract: each way by the tests that led there.
use Prim.Native.Nat.{◌+◌}
use mathlib.Core.Path.{sym, ◌∙◌}
use native.Mathlib.Omega.{arith}
use Rattle.rules.specs.Bytes.{EXCLAMATION}
use Rattle.text.specs.Words.{byte_is_in}
use Rattle.type_file.specs.Declarations.{step_refused, declaration_markup, declaration_instruction, declaration_tag, declaration_reference, declaration_other}
use Rattle.type_file.proofs.declaration_at.Goals as goal
use Rattle.type_file.proofs.declaration_at.Tie as tie
use Rattle.type_file.proofs.declaration_at.Lts as lts
use Rattle.type_file.proofs.declaration_at.Reads as reads

abbrev After-byte2 : Type 0
After-byte2 = lts.After-byte2 tie.the-claims reads.Pre reads.Post tie.handed_clauses

abbrev Start : Type 0
Start = lts.Start tie.the-claims reads.Pre reads.Post tie.handed_clauses

-- The points that the needs go back to.
abbrev at_start_lem : (c : After-byte2) → Start
at_start_lem c = c.before.before.before.before

pub markup_at-requires : goal.markup_at-requires
markup_at-requires c = let start = at_start_lem c.before.before.before.before.before.before in
    let a = start.args in
    let in_text = byte_is_in a.s.now (a.i + 1) EXCLAMATION (sym c.byte-c.ensures ∙ c.if-c-eq33.true) (omega arith) in
    record { i_in_bounds = (omega arith, start.requires.i_in_bounds.1); in_progress = start.requires.in_progress }

pub returns-then-c-eq33 : goal.returns-then-c-eq33
returns-then-c-eq33 c es ls k h = let a = (at_start_lem c.before.before.before.before.before.before.before).args in
    let b = c.byte-b.ensures in
    let d = c.byte-c.ensures in
    rw (declaration_markup a.long a.s.now a.i _ es ls b _ d c.if-b-eq60.true c.if-c-eq33.true) (c.markup_at.ensures es ls k h)

pub returns-then-c-eq63 : goal.returns-then-c-eq63
returns-then-c-eq63 c es ls k h = let a = c.args in
    let b = c.byte-b.ensures in
    let d = c.byte-c.ensures in
    step_refused a.long a.s.now a.elements.now a.heads.now a.i 5 a.i _ _
    (declaration_instruction a.long a.s.now a.i _ es ls b _ d c.if-b-eq60.true c.if-c-eq63.true) c.at.ensures

pub returns-then-b-eq60 : goal.returns-then-b-eq60
returns-then-b-eq60 c es ls k h = let a = c.args in
    let b = c.byte-b.ensures in
    let d = c.byte-c.ensures in
    step_refused a.long a.s.now a.elements.now a.heads.now a.i 4 (a.i + 1) _ _
    (declaration_tag a.long a.s.now a.i _ es ls b _ d c.if-b-eq60.true c.if-c-eq33.false c.if-c-eq63.false) c.at-then-b-eq60.ensures

pub returns-then-b-eq37 : goal.returns-then-b-eq37
returns-then-b-eq37 c es ls k h = let a = c.args in
    let b = c.byte-b.ensures in
    step_refused a.long a.s.now a.elements.now a.heads.now a.i 5 a.i _ _
    (declaration_reference a.long a.s.now a.i _ es ls b c.if-b-eq37.true) c.at-then-b-eq37.ensures

pub returns : goal.returns
returns c es ls k h = let a = c.args in
    let b = c.byte-b.ensures in
    step_refused a.long a.s.now a.elements.now a.heads.now a.i 4 a.i _ _
    (declaration_other a.long a.s.now a.i _ es ls b c.if-b-eq60.false c.if-b-eq37.false) c.at-2.ensures
