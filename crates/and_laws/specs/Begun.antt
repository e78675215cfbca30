-- What a reader asks, from the places taken: the last of them and the set of them decide. Of a numbered model without "&" under "+" this is what the walks say.
use Rattle.std.specs.Prelude.{ℕ, zero, suc, ◌+◌, ◌≤◌, ◌≡◌, refl, Bool, true, ◌&&◌, ◌↔◌}
use Rattle.std.proofs.Common.{sym, ◌∙◌, ap, subst, inl, inr, arith}
use mathlib.Core.List.{List, [], ◌∷◌, ◌++◌, cons≢nil}
use Rattle.model_sets.specs.Sets.{size, Numbered, has, follow, next_in, complete_in, required_in}
use Rattle.rules.specs.Walk.{Group, Begins, last_from, last_or0, MayComeNext, Complete, Required}
use Rattle.and_laws.specs.Base.{mem, mem_left, mem_right, Ends, ends_mem}
use Rattle.and_laws.specs.Sets.{held, Plain, Good, walk_in, has_next}
use Rattle.and_laws.specs.Left.{Agrees}
use Rattle.and_laws.specs.Fold.{some_walk, begins_less}
use Rattle.and_laws.specs.Numbers.{Guarded, has_range, numbered_good}
use Rattle.and_laws.specs.Rows.{may, fit_row}
use Rattle.and_laws.specs.Levels.{around, may_in_lem, itself, around_has}
use Rattle.and_laws.specs.Taken.{next_from, complete_from, required_from, IsLast, IsTaken, next_from_lem, complete_from_lem, required_from_lem, plain_next, plain_complete, plain_required}

-- Beginnings are shown to be such by a walk that goes on from them.

pub begins_none : (g : Group) → Begins g []
begins_none g = some_walk g

-- The last place taken is found by going through them all.

pub last_from_snoc : (u : ℕ) (s : List ℕ) (p : ℕ) → last_from u (s ++ p ∷ []) ≡ p
last_from_snoc u [] p = refl
last_from_snoc u (q ∷ s) p = last_from_snoc q s p

pub last_or0_snoc : (s : List ℕ) (p : ℕ) → last_or0 (s ++ p ∷ []) ≡ p
last_or0_snoc s p = last_from_snoc 0 s p

ends_last : (p : ℕ) (s : List ℕ) → Ends (p ∷ s) (last_from p s)
ends_last p [] = inl (refl, refl)
ends_last p (q ∷ s) = inr (ends_last q s)

-- There is one last place only.
pub last_is : (s : List ℕ) (u : ℕ) → IsLast s u → last_or0 s ≡ u
last_is s zero e = ap last_or0 e
last_is [] (suc u) e = absurd e
last_is (p ∷ s) (suc u) e = ends_is p s (suc u) e
  where
    ends_is : (p : ℕ) (s : List ℕ) (u : ℕ) → Ends (p ∷ s) u → last_from p s ≡ u
    ends_is p [] u (inl (n, e)) = e
    ends_is p [] u (inr e) = absurd e
    ends_is p (q ∷ s) u (inl (n, e)) = absurd (cons≢nil n)
    ends_is p (q ∷ s) u (inr e) = ends_is q s u e

-- The places taken decide by the last of them and the set of them.

abbrev pub next_of : Group → List ℕ → ℕ → Bool
next_of g s p = next_from g (last_or0 s) (mem s) p

abbrev pub complete_of : Group → List ℕ → Bool
complete_of g s = complete_from g (last_or0 s) (mem s)

abbrev pub required_of : Group → List ℕ → ℕ
required_of g s = required_from g (last_or0 s) (mem s)

module _ (g : Group) (numbered : Numbered g 1) (guarded : Guarded g) where
  good : Good g
  good = numbered_good g 1 numbered guarded

  -- The last place of a beginning is in the group, and was taken.
  begins_last : (p : ℕ) (s : List ℕ) → Begins g (p ∷ s) → (has g (last_from p s) ≡ true) × (mem (p ∷ s) (last_from p s) ≡ true)
  begins_last p s (t, w) =
      let m = ends_mem (p ∷ s) (last_from p s) (ends_last p s) in
      (walk_in g ((p ∷ s) ++ t) w (last_from p s) (mem_left (p ∷ s) t (last_from p s) m), m)

  is_last : (s : List ℕ) → Begins g s → IsLast s (last_or0 s)
  is_last [] b = refl
  is_last (p ∷ s) b = go (last_from p s) (ends_last p s) (has_range g 1 numbered (last_from p s) (begins_last p s b).0).0
    where
      go : (u : ℕ) → Ends (p ∷ s) u → 1 ≤ u → IsLast (p ∷ s) u
      go zero e l = absurd (omega arith)
      go (suc u) e l = e

  pub is_taken : (s : List ℕ) → Begins g s → IsTaken g (last_or0 s) (mem s)
  is_taken [] b = refl
  is_taken (p ∷ s) b = go (last_from p s) (begins_last p s b)
    where
      go : (u : ℕ) → (has g u ≡ true) × (mem (p ∷ s) u ≡ true) → IsTaken g u (mem (p ∷ s))
      go zero x = refl
      go (suc u) x = x

  agrees : (s : List ℕ) → Agrees (held g) s (mem s)
  agrees s p i = (λ x. x, λ x. x)

  -- They decide what the walks say.
  pub next_of_lem : (s : List ℕ) → Begins g s → (p : ℕ) → (next_of g s p ≡ true) ↔ MayComeNext g s p
  next_of_lem s b p = next_from_lem g good (mem s) (last_or0 s) s (is_last s b) (agrees s) b p

  pub complete_of_lem : (s : List ℕ) → Begins g s → (complete_of g s ≡ true) ↔ Complete g s
  complete_of_lem s b = complete_from_lem g good (mem s) (last_or0 s) s (is_last s b) (agrees s) b

  pub required_of_lem : (s : List ℕ) → Begins g s → (p : ℕ) → 1 ≤ p → (required_of g s ≡ p) ↔ Required g s p
  required_of_lem s b p l = required_from_lem g good (mem s) (last_or0 s) s (is_last s b) (agrees s) b p (λ e. omega arith)

  -- What may come next is a place of the model.
  pub next_range : (s : List ℕ) (p : ℕ) → MayComeNext g s p → (1 ≤ p) × (p ≤ size g)
  next_range s p b = omega (arith, has_range g 1 numbered p (has_next g s p b))

  pub required_one : (s : List ℕ) (p : ℕ) → Required g s p → required_of g s ≡ p
  required_one s p r = (required_of_lem s (begins_less g s (p ∷ []) r.next) p (next_range s p r.next).0).1 r

  -- Without "&" the last place decides, by the rows alone.
  pub next_last : Plain g → (s : List ℕ) → Begins g s → (p : ℕ) → next_of g s p ≡ next_in g (last_or0 s) p
  next_last n s b p = plain_next g good (mem s) n (last_or0 s) (is_taken s b) p

  pub complete_last : Plain g → (s : List ℕ) → Begins g s → complete_of g s ≡ complete_in g (last_or0 s)
  complete_last n s b = plain_complete g good (mem s) n (last_or0 s) (is_taken s b)

  pub required_last : Plain g → (s : List ℕ) → Begins g s → required_of g s ≡ required_in g (last_or0 s)
  required_last n s b = plain_required g good (mem s) n (last_or0 s) (is_taken s b)

  -- A place that the row has after itself may come next after itself, whatever has begun: the group around it has it in one member.
  pub next_itself : (s : List ℕ) (p : ℕ) → MayComeNext g s p → follow g p p ≡ true → MayComeNext g (s ++ p ∷ []) p
  next_itself s p b f = (next_of_lem (s ++ p ∷ []) b p).0 (subst (λ (u : ℕ). next_from g u (mem (s ++ p ∷ [])) p ≡ true) (sym (last_or0_snoc s p)) (from_itself p (next_range s p b).0 (has_next g s p b) f (mem_right s (p ∷ []) p (ends_mem (p ∷ []) p (inl (refl, refl))))))
    where
      from_itself : (u : ℕ) → 1 ≤ u → has g u ≡ true → follow g u u ≡ true → mem (s ++ p ∷ []) u ≡ true → next_from g u (mem (s ++ p ∷ [])) u ≡ true
      from_itself zero l i f m = absurd (omega arith)
      from_itself (suc u) l i f m = fit_row (suc u) (mem (s ++ p ∷ [])) m (suc u) g good i ∙ ap (λ (z : Bool). z && may g (suc u) (mem (s ++ p ∷ [])) (suc u)) f ∙ may_in_lem (suc u) (mem (s ++ p ∷ [])) (suc u) g good i f ∙ itself (around g (suc u)) (suc u) (mem (s ++ p ∷ [])) (around_has g (suc u) i)
