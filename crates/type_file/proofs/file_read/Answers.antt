use native.Mathlib.Omega.{arith}
use Rattle.text.specs.Words.{passed_on}
use Rattle.type_file.specs.Turns.{reads_start, reads_none, reads_end, reads_refused, reads_turn}
use Rattle.type_file.proofs.file_read.Goals as goal

pub loop-names-init : goal.loop-names-init
loop-names-init c = (c.requires.0, reads_start c.args.long c.args.s.now c.args.elements.now c.args.heads.now c.requires.1)

pub separators_end-i-requires : goal.separators_end-i-requires
separators_end-i-requires c = c.loop-names.invariant.1.keeps.at_in

pub returns-then-p-eq0 : goal.returns-then-p-eq0
returns-then-p-eq0 c = let x = c.args in
    let l = c.loop-names in
    reads_none x.long x.s.now l.elements l.heads l.p l.invariant.1 _ _ c.separators_end-i.ensures c.if-s-i.true c.if-p-eq0.true c.at.ensures

pub returns-then-s-i : goal.returns-then-s-i
returns-then-s-i c = let x = c.args in
    let l = c.loop-names in
    reads_end x.long x.s.now l.elements l.heads l.p l.invariant.1 _ c.separators_end-i.ensures c.if-s-i.true c.if-p-eq0.false

pub declaration_at-requires : goal.declaration_at-requires
declaration_at-requires c = let i = c.loop-names.invariant in
    record { i_in_bounds = (c.if-s-i.false, i.0); in_progress = (i.1.so_far, i.1.keeps) }

pub returns-in_err-p : goal.returns-in_err-p
returns-in_err-p c = let x = c.args in
    let l = c.loop-names in
    let d = c.declaration_at in
    let i = l.invariant.1 in
    reads_refused x.long x.s.now l.elements l.heads l.p i _ c.separators_end-i.ensures c.if-s-i.false d.new.elements d.new.heads _ _
    (c.in_err-p.ensures i.so_far i.lists i.keeps i.headed) (passed_on _ c.from_residual.ensures.1)

-- A turn that read a declaration.
pub loop-names-smaller : goal.loop-names-smaller
loop-names-smaller c =
    let x = c.args in
    let l = c.loop-names in
    let i = l.invariant.1 in
    let d = c.declaration_at in
    let t = reads_turn x.long x.s.now l.elements l.heads l.p i _ c.separators_end-i.ensures c.if-s-i.false d.new.elements d.new.heads _
    (c.in_ok-p.ensures i.so_far i.lists i.keeps i.headed) in
    omega (arith, t.1, t.2)

pub loop-names-preserved : goal.loop-names-preserved
loop-names-preserved c =
    let x = c.args in
    let l = c.loop-names in
    let i = l.invariant.1 in
    let d = c.declaration_at in
    let t = reads_turn x.long x.s.now l.elements l.heads l.p i _ c.separators_end-i.ensures c.if-s-i.false d.new.elements d.new.heads _
    (c.in_ok-p.ensures i.so_far i.lists i.keeps i.headed) in
    (c.loop-names.invariant.0, t.0)
