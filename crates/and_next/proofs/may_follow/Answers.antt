-- `may_follow` meets its contract: the members that hold both places are asked.
use Prim.Native.Nat.{ℕ, ◌%◌}
use mathlib.Core.Path.{ap}
use native.Mathlib.Omega.{arith}
use Rattle.and_next.specs.Following.{follows_none, follows_large, follows_beside, follows_by, follows_short}
use Rattle.layout.specs.Sizes.{ENDING}
use Rattle.and_next.proofs.may_follow.Goals as goal

pub returns-then-members-lt-MEMBERS : goal.returns-then-members-lt-MEMBERS
returns-then-members-lt-MEMBERS c = follows_short _ _ _ _ _ _ (omega (arith, c.if-members-lt-MEMBERS.true))

pub returns-then-h-eq0 : goal.returns-then-h-eq0
returns-then-h-eq0 c = follows_none _ _ _ _ _ _ _ _ (ap (λ (x : ℕ). x % ENDING) c.holder-h.ensures.0) (ap (λ (x : ℕ). x % ENDING) c.holder-i.ensures.0) c.if-h-eq0.true

pub returns-then-h-gt-GRPGTCNT : goal.returns-then-h-gt-GRPGTCNT
returns-then-h-gt-GRPGTCNT c = follows_large _ _ _ _ _ _ _ _ (ap (λ (x : ℕ). x % ENDING) c.holder-h.ensures.0) (ap (λ (x : ℕ). x % ENDING) c.holder-i.ensures.0) (omega (arith, c.if-h-eq0.false)) c.if-h-gt-GRPGTCNT.true

pub returns-then-i-gt-GRPGTCNT : goal.returns-then-i-gt-GRPGTCNT
returns-then-i-gt-GRPGTCNT c = follows_beside _ _ _ _ _ _ _ _ (ap (λ (x : ℕ). x % ENDING) c.holder-h.ensures.0) (ap (λ (x : ℕ). x % ENDING) c.holder-i.ensures.0) (omega (arith, c.if-h-eq0.false)) c.if-i-gt-GRPGTCNT.true

pub returns : goal.returns
returns c = follows_by _ _ _ _ _ _ _ _ (ap (λ (x : ℕ). x % ENDING) c.holder-h.ensures.0) (ap (λ (x : ℕ). x % ENDING) c.holder-i.ensures.0) (omega (arith, c.if-h-eq0.false)) _ c.begun_at.ensures _ c.may_come.ensures
