-- What a reader asks of a model, from the last place taken, 0 at the start, and the places taken in "&" groups: it is what the walks say, and what the rows and what has
-- begun say.
use Rattle.std.specs.Prelude.{ℕ, zero, suc, ◌≤◌, ◌≡◌, refl, Bool, true, ◌&&◌, not, cond, ◌↔◌, List, [], ◌∷◌, ◌++◌}
use Rattle.std.proofs.Common.{sym, ◌∙◌, ap, subst, arith}
use Rattle.std.proofs.Math.Bool.{and-true}
use Rattle.std.proofs.Math.Logic.Iff.{trans as iff_trans}
use Rattle.basic_laws.specs.Truth.{bool_cases}
use Rattle.model_sets.specs.Sets.{has, nullable, first, last, follow, required_first, next_in, complete_in, required_in}
use Rattle.rules.specs.Walk.{Group, Members, Begins, MayComeNext, Complete, Required}
use Rattle.and_laws.specs.Base.{Ends, ends_snoc}
use Rattle.and_laws.specs.Sets.{held, Plain, Good}
use Rattle.and_laws.specs.Left.{Agrees}
use Rattle.and_laws.specs.Decide.{fit, done, next_fold, complete_fold, next_start, complete_start}
use Rattle.and_laws.specs.Meant.{required_meant}
use Rattle.and_laws.specs.Req.{required_next}
use Rattle.and_laws.specs.Number.{number_required, number_required_start}
use Rattle.and_laws.specs.Rows.{may, fit_row, plain_may}
use Rattle.and_laws.specs.Levels.{around, blocks_in, lone_in, may_in, blocks_in_lem, lone_in_lem, may_in_lem}
use Rattle.and_laws.specs.Lacking.{blocks, lone, done_blocks, req_row, plain_blocks}

-- The questions: row 0 is the start, row u > 0 is after the place u; S has the places taken in "&" groups.

abbrev pub next_from : Group → ℕ → (ℕ → Bool) → ℕ → Bool
next_from g zero S p = first g p
next_from g (suc u) S p = fit g (suc u) S p

abbrev pub complete_from : Group → ℕ → (ℕ → Bool) → Bool
complete_from g zero S = nullable g
complete_from g (suc u) S = done g (suc u) S

abbrev pub required_from : Group → ℕ → (ℕ → Bool) → ℕ
required_from g zero S = required_first g
required_from g (suc u) S = required_next g (suc u) S

-- The place u is the last of s, and 0 if there is none.
abbrev pub IsLast : List ℕ → ℕ → Type 0
IsLast s zero = s ≡ []
IsLast s (suc u) = Ends s (suc u)

pub last_taken : (s : List ℕ) (p : ℕ) → 1 ≤ p → IsLast (s ++ p ∷ []) p
last_taken s zero l = absurd (omega arith)
last_taken s (suc p) l = ends_snoc s (suc p)

-- What the walks say.
module _ (g : Group) (good : Good g) (S : ℕ → Bool) where
  pub next_from_lem : (u : ℕ) (s : List ℕ) → IsLast s u → Agrees (held g) s S → Begins g s → (p : ℕ) → (next_from g u S p ≡ true) ↔ MayComeNext g s p
  next_from_lem zero s e agree begun p = subst (λ (l : List ℕ). (first g p ≡ true) ↔ MayComeNext g l p) (sym e) (next_start g p)
  next_from_lem (suc u) s e agree begun p = next_fold g good (suc u) S s e agree begun p

  pub complete_from_lem : (u : ℕ) (s : List ℕ) → IsLast s u → Agrees (held g) s S → Begins g s → (complete_from g u S ≡ true) ↔ Complete g s
  complete_from_lem zero s e agree begun = subst (λ (l : List ℕ). (nullable g ≡ true) ↔ Complete g l) (sym e) (complete_start g)
  complete_from_lem (suc u) s e agree begun = complete_fold g good (suc u) S s e agree begun

  pub required_from_lem : (u : ℕ) (s : List ℕ) → IsLast s u → Agrees (held g) s S → Begins g s → (p : ℕ) → (p ≡ 0 → ⊥) → (required_from g u S ≡ p) ↔ Required g s p
  required_from_lem zero s e agree begun p pos = subst (λ (l : List ℕ). (required_first g ≡ p) ↔ Required g l p) (sym e) (iff_trans (number_required_start g good p pos) (required_meant g [] p))
  required_from_lem (suc u) s e agree begun p pos = iff_trans (number_required g good (suc u) S s e agree begun p pos) (required_meant g s p)

-- The number u is 0, or a place of the group that was taken.
abbrev pub IsTaken : Group → ℕ → (ℕ → Bool) → Type 0
IsTaken g zero S = zero ≡ zero
IsTaken g (suc u) S = (has g (suc u) ≡ true) × (S (suc u) ≡ true)

-- The groups around u, none at the start.
abbrev pub groups_at : Group → ℕ → List Members
groups_at g zero = []
groups_at g (suc u) = around g (suc u)

-- What rows and what has begun say.
module _ (g : Group) (good : Good g) (S : ℕ → Bool) where
  -- Without "&" the rows say it all.
  pub plain_next : Plain g → (u : ℕ) → IsTaken g u S → (p : ℕ) → next_from g u S p ≡ next_in g u p
  plain_next n zero t p = refl
  plain_next n (suc u) (i, t) p = fit_row (suc u) S t p g good i ∙ ap (λ (z : Bool). follow g (suc u) p && z) (plain_may (suc u) S t p g n) ∙ and-true (follow g (suc u) p)

  pub plain_complete : Plain g → (u : ℕ) → IsTaken g u S → complete_from g u S ≡ complete_in g u
  plain_complete n zero t = refl
  plain_complete n (suc u) (i, t) = done_blocks g good (suc u) S i ∙ ap (λ (z : Bool). last g (suc u) && not z) (plain_blocks g n (suc u) S) ∙ and-true (last g (suc u))

  pub plain_required : Plain g → (u : ℕ) → IsTaken g u S → required_from g u S ≡ required_in g u
  plain_required n zero t = refl
  plain_required n (suc u) (i, t) = req_row g good (suc u) S i ∙ rw (plain_blocks g n (suc u) S)

  -- By the groups around the last place: a place may come next exactly if the row has it and the walk through them leaves it.
  pub next_around : (u : ℕ) → IsTaken g u S → (p : ℕ) → next_from g u S p ≡ next_in g u p && may_in (groups_at g u) u S p
  next_around zero t p = sym (and-true (first g p))
  next_around (suc u) (i, t) p =
      fit_row (suc u) S t p g good i ∙ bool_cases (follow g (suc u) p) (λ f. ap (λ (z : Bool). follow g (suc u) p && z) (may_in_lem (suc u) S p g good i f)) (λ f. rw f)

  -- Content is complete exactly if the row says so and the walk finds no group that blocks.
  pub complete_around : (u : ℕ) → IsTaken g u S → complete_from g u S ≡ complete_in g u && not (blocks_in (groups_at g u) u S)
  complete_around zero t = sym (and-true (nullable g))
  complete_around (suc u) (i, t) = done_blocks g good (suc u) S i ∙ ap (λ (z : Bool). last g (suc u) && not z) (blocks_in_lem g good (suc u) S i)

  -- The required place is the row's, or that of the group that the walk finds.
  pub required_around : (u : ℕ) → IsTaken g u S → required_from g u S ≡ cond (blocks_in (groups_at g u) u S) (lone_in (groups_at g u) S) (required_in g u)
  required_around zero t = refl
  required_around (suc u) (i, t) =
      req_row g good (suc u) S i
      ∙ bool_cases
      (blocks g (suc u) S)
      (λ b. rw (b, sym (blocks_in_lem g good (suc u) S i) ∙ b) (lone_in_lem g good (suc u) S i b))
      (λ b. rw (b, sym (blocks_in_lem g good (suc u) S i) ∙ b))
