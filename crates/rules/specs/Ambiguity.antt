-- What makes a content model ambiguous, and which pair of places is named (paper 01, "Walks" and demand 3).
use Rattle.std.specs.Prelude.{ℕ, ◌<◌, ◌≤◌, ◌≡◌, Bool, true, ◌⊎◌, List, [], ◌∷◌}
use Rattle.rules.specs.Walk.{Group, Begins, MayComeNext}

-- `same p q` says whether the places p and q have the same name.
module _ (same : ℕ → ℕ → Bool) where
  -- "Two sequences spell the same names if they are equally long and their first places have the same name,
  -- their second places, and so on."
  pub data SpellSame : List ℕ → List ℕ → Type 0 where
    none : SpellSame [] []
    next : {p q : ℕ} {s t : List ℕ} → same p q ≡ true → SpellSame s t → SpellSame (p ∷ s) (q ∷ t)

  -- Demand 3: two different sequences of places, of any length, each the beginning of a walk, spell the same names.
  abbrev pub Ambiguous : Group → Type 0
  Ambiguous g = (s : List ℕ) × (t : List ℕ) × Begins g s × Begins g t × SpellSame s t × (s ≡ t → ⊥)

  -- "A pair at fault is two different places of one model with the same name, the smaller number first, where some
  -- sequence, perhaps empty, begins a walk if the one is put after it, and begins a walk if the other is."
  abbrev pub PairAtFault : Group → ℕ → ℕ → Type 0
  PairAtFault g p q = (p < q) × (same p q ≡ true) × (s : List ℕ) × MayComeNext g s p × MayComeNext g s q

  -- "Of that model's pairs the one reported comes first: every other has a larger first place, or the same first and a
  -- larger second."
  abbrev pub FirstPair : Group → ℕ → ℕ → Type 0
  FirstPair g p q = PairAtFault g p q × ((a b : ℕ) → PairAtFault g a b → (p < a) ⊎ ((p ≡ a) × (q ≤ b)))
