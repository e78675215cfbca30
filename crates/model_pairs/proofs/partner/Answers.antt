use Rattle.std.proofs.Common.{ℕ, Bool, ◌+◌, sym, ◌∙◌, arith}
use Rattle.same_names.specs.Keys.{unshared}
use Rattle.model_pairs.specs.Rows.{Tells}
use Rattle.model_pairs.specs.Seeks.{Seeks, seeks_start, seeks_on, seeks_past, seeks_found, seeks_none, apart, at_fault, not_fault}
use Rattle.model_pairs.proofs.partner.Goals as goal
use Rattle.model_pairs.proofs.partner.Goals.{After-branch-q-in-loop-q, else-near-q-via-then-near-q+else-is_fault, else-near-q-via-else-near-q}

pub returns-then-not-shares_key-clause-by_index_2 : goal.returns-then-not-shares_key-clause-by_index_2
returns-then-not-shares_key-clause-by_index_2 c F t =
    let x = c.args in
    let pre = c.requires in
    seeks_none _ _ _ _ _ _
    (seeks_on x.m.s.now x.m.names.now F x.m.n x.p (x.p + 1) (x.m.n + 1) (seeks_start _ _ _ _ _ pre.n_bound.2) (omega arith) (omega arith)
    (unshared x.m.s.now x.m.names.now x.keys.now x.m.n x.p pre.n_bound.1 pre.n_bound.2 pre.by_index (sym c.shares_key.ensures ∙ c.if-not-shares_key.true)))
    (omega arith)

-- The search begins at the first place with the name of `p`.
pub returns-in_err-q-clause-by_index_2 : goal.returns-in_err-q-clause-by_index_2
returns-in_err-q-clause-by_index_2 c F t =
    rw c.from_residual.ensures
    (seeks_none _ _ _ _ _ _ (seeks_on _ _ _ _ _ _ (c.args.m.n + 1) (seeks_start _ _ _ _ _ c.requires.n_bound.2) (omega arith) (omega arith) (λ x a b. c.in_err-q.ensures x a (omega arith))) (omega arith))

pub loop-q-init : goal.loop-q-init
loop-q-init c =
    let found = c.in_ok-q.ensures in
    (λ F t. seeks_on _ _ _ _ _ _ _ (seeks_start _ _ _ _ _ c.requires.n_bound.2) found.0 (omega arith) found.2, omega arith, found.1, found.3, c.requires.n_bound.1, c.requires.n_bound.0)

pub returns-then-is_fault-clause-by_index_2 : goal.returns-then-is_fault-clause-by_index_2
returns-then-is_fault-clause-by_index_2 c F t =
    let inv = c.loop-q.invariant in
    let told = c.is_fault.ensures in
    seeks_found _ _ _ _ _ _ (inv.0 F t) (omega arith)
    (at_fault _ _ _ _ _ _ F t _ _ inv.4 inv.1 inv.2 _ (c.beside-near.ensures _ (omega arith)) c.if-near-q.true _ told.0 told.1 inv.3 c.if-is_fault.true)

-- The place `q` is not at fault with `p`, and the search goes on behind it.
past : (c : After-branch-q-in-loop-q) (F : ℕ → ℕ → Bool) → Tells c.args.m.table.now c.args.m.n c.args.m.code c.args.m.and F → Seeks c.args.m.s.now c.args.m.names.now F c.args.m.n c.args.p (c.loop-q.q + 1)
past c F t =
    let inv = c.loop-q.invariant in
    let nearby = c.beside-near.ensures c.loop-q.q (omega arith) in
    seeks_past _ _ _ _ _ _ (inv.0 F t) inv.2
    (elim c.else-near-q.branch [
      | else-near-q-via-then-near-q+else-is_fault w ↦ not_fault _ _ _ _ _ _ F t _ _ inv.4 inv.1 inv.2 _ nearby w.if-near-q.true _ w.is_fault.ensures.0 w.is_fault.ensures.1 w.if-is_fault.false
      | else-near-q-via-else-near-q w ↦ apart _ _ _ _ _ _ F t _ _ inv.4 inv.1 inv.2 _ nearby w.if-near-q.false
    ])

pub returns-in_err-q-2-clause-by_index_2 : goal.returns-in_err-q-2-clause-by_index_2
returns-in_err-q-2-clause-by_index_2 c F t =
    let inv = c.loop-q.invariant in
    rw c.from_residual-in_err-q-2.ensures
    (seeks_none _ _ _ _ _ _ (seeks_on _ _ _ _ _ _ (c.args.m.n + 1) (past (goal.at.returns-in_err-q-2-clause-by_index_2 c).After-branch-q-in-loop-q F t) (omega arith) (omega arith) (λ x a b. c.in_err-q-2.ensures x a (omega arith))) (omega arith))

pub loop-q-preserved : goal.loop-q-preserved
loop-q-preserved c =
    let found = c.in_ok-q-2.ensures in
    let inv = c.loop-q.invariant in (
      λ F t. seeks_on _ _ _ _ _ _ _ (past (goal.at.loop-q-preserved c).After-branch-q-in-loop-q F t) found.0 (omega arith) found.2,
      omega arith,
      found.1,
      found.3,
      inv.4,
      inv.5,
    )
