-- The test that the search for a pair at fault makes on a model's tables.
use Rattle.std.specs.Prelude.{ℕ, zero, suc, ◌+◌, ◌*◌, ◌≤◌, ◌<◌, ◌≡◌, Bool, true, false, ◌&&◌, ◌||◌, Option, Some, None, List, get_or, eqb}
use Rattle.rules.specs.Judge.{same_place}
use Rattle.layout.specs.Sizes.{MODEL_ROW}
use Rattle.model_code.specs.Six.{Told}
use Rattle.model_names.specs.Places.{places_of}
use Rattle.model_pairs.specs.declared.Pair.{Pair}

-- A row has this number at a place that may come next.
abbrev pub is_next : ℕ → Bool
is_next x = eqb x 1

-- The place p may come next after u, or at the start where u is 0.
abbrev pub row_in : List ℕ → ℕ → ℕ → Bool
row_in table u p = is_next (get_or table (u * MODEL_ROW + p) 0)

-- Some row u ≤ n of `next` has both p and q.
abbrev pub clash_in : (ℕ → ℕ → Bool) → ℕ → ℕ → ℕ → Bool
clash_in next zero p q = next 0 p && next 0 q
clash_in next (suc n) p q = clash_in next n p q || (next (suc n) p && next (suc n) q)

-- A table with n places and so many numbers of code tells whether two places can both come next after one beginning: only where some row has both, and there always if the
-- model has no "&", else as a pass over the code tells.
pub record Tells (table : List ℕ) (n code : ℕ) (and : Bool) (F : ℕ → ℕ → Bool) : Type 0 where
  pub near : (p q : ℕ) → 1 ≤ p → p < q → q ≤ n → F p q ≡ true → clash_in (row_in table) n p q ≡ true
  pub plain : and ≡ false → (p q : ℕ) → 1 ≤ p → p < q → q ≤ n → clash_in (row_in table) n p q ≡ true → F p q ≡ true
  pub exact : and ≡ true → (p q : ℕ) → 1 ≤ p → p < q → q ≤ n → (r : Bool) → Told table p q code r → r ≡ F p q

-- The places p and q have the same name, and can both come next after one beginning.
unfoldable pub fault_in : List ℕ → List ℕ → (ℕ → ℕ → Bool) → ℕ → ℕ → ℕ → Bool
fault_in s names F n p q = same_place s (places_of names n) p q && F p q

-- The two numbers of a pair, both 0 if there is none.
abbrev pub numbers_of : Option Pair → ℕ × ℕ
numbers_of None = (0, 0)
numbers_of (Some r) = (r.first, r.second)
