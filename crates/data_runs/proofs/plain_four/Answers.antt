-- `plain_four` meets its contract: each byte that is not special is passed.
use Rattle.std.proofs.Common.{ℕ, false, List, ◌≡◌, ◌+◌, ◌≤◌, length, refl, sym, ap, ◌∙◌, arith}
use Rattle.rules.specs.Bytes.{byte_at}
use Rattle.delimiters.specs.Classes.{special}
use Rattle.rules_laws.specs.Runs.{run_end}
use Rattle.data_runs.specs.Runs.{plain_turn}
use Rattle.data_runs.proofs.plain_four.Goals as goal

-- One, two, three and four bytes are passed.
module _ (s : List ℕ) (i : ℕ) (room : i + 4 ≤ length s) (p : special (byte_at s i) ≡ false) where
  one : run_end s (i + 1) ≡ run_end s i
  one = plain_turn s i (i + 1) _ refl (omega arith) p refl

  module _ (q : special (byte_at s (i + 1)) ≡ false) where
    two : run_end s (i + 2) ≡ run_end s i
    two = plain_turn s (i + 1) (i + 2) _ (omega arith) (omega arith) q one

    module _ (r : special (byte_at s (i + 2)) ≡ false) where
      three : run_end s (i + 3) ≡ run_end s i
      three = plain_turn s (i + 2) (i + 3) _ (omega arith) (omega arith) r two

      four : special (byte_at s (i + 3)) ≡ false → run_end s (i + 4) ≡ run_end s i
      four t = plain_turn s (i + 3) (i + 4) _ (omega arith) (omega arith) t three

pub returns-then-is_special : goal.returns-then-is_special
returns-then-is_special c =
    let e : c.args.i + 0 ≡ c.args.i = omega arith in
    (omega arith, ap (run_end c.args.s.now) e)

pub returns-then-is_special-2 : goal.returns-then-is_special-2
returns-then-is_special-2 c =
    (omega arith, one c.args.s.now c.args.i c.requires.1 (sym c.is_special.ensures ∙ c.if-is_special.false))

pub returns-then-is_special-3 : goal.returns-then-is_special-3
returns-then-is_special-3 c =
    let p = sym c.is_special.ensures ∙ c.if-is_special.false in (
      omega arith,
      two c.args.s.now c.args.i c.requires.1 p (sym c.is_special-2.ensures ∙ c.if-is_special-2.false),
    )

pub returns-then-is_special-4 : goal.returns-then-is_special-4
returns-then-is_special-4 c =
    let p = sym c.is_special.ensures ∙ c.if-is_special.false in
    let q = sym c.is_special-2.ensures ∙ c.if-is_special-2.false in (
      omega arith,
      three c.args.s.now c.args.i c.requires.1 p q (sym c.is_special-3.ensures ∙ c.if-is_special-3.false),
    )

pub returns : goal.returns
returns c =
    let p = sym c.is_special.ensures ∙ c.if-is_special.false in
    let q = sym c.is_special-2.ensures ∙ c.if-is_special-2.false in
    let r = sym c.is_special-3.ensures ∙ c.if-is_special-3.false in (
      omega arith,
      four c.args.s.now c.args.i c.requires.1 p q r (sym c.is_special-4.ensures ∙ c.if-is_special-4.false),
    )
