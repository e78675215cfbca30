-- `passed` meets its contract. The invariant: the bytes that pass the test end at the same place from `i` as
-- from the start.
use Rattle.std.proofs.Common.{◌≡◌, ℕ, Bool, ◌+◌, drop}
use Rattle.rules.specs.Bytes.{span}
use Rattle.text.proofs.passed.Given as goal

abbrev pub invariant-loop-i : goal.invariant-loop-i
invariant-loop-i g l =
    (t : ℕ → Bool) → ((b : ℕ) (r : Bool) → goal.F-post g l.passes b r → r ≡ t b)
    → l.i + span t (drop l.i l.s) ≡ l.at + span t (drop l.at l.s)
