-- Where the place that was taken last is taken again, everything is decided as before: the last of the places taken and the set of them decide.
use Prim.Native.Nat.{ℕ, ◌≤◌}
use Rattle.std.specs.Prelude.{◌≡◌, Bool, true, false, ◌&&◌, List, [], ◌∷◌, ◌++◌, eqb}
use Rattle.std.proofs.Math.Path.{refl, ap, ap₂}
use Rattle.std.proofs.Common.{sym, ◌∙◌, subst, eqb-true}
use Rattle.std.proofs.lemmas.Bool.{false≢true}
use Rattle.rules.specs.Walk.{last_or0}
use Rattle.rules.specs.TypeFile.{Content, empty, model, Element}
use Rattle.rules.specs.Elements.{content_of}
use Rattle.rules.specs.Decisions.{Token, has_name}
use Rattle.rules.specs.Settling.{Open, fitting}
use Rattle.basic_laws.specs.Truth.{or_cases, not_true, not_both, bool_cases}
use Rattle.model_sets.specs.Sets.{size}
use Rattle.and_laws.specs.Base.{mem, mem_left, mem_cases}
use Rattle.and_laws.specs.Taken.{next_from, complete_from, required_from, IsLast, last_taken}
use Rattle.and_laws.specs.Begun.{last_or0_snoc, last_is}
use Rattle.document_laws.specs.Decide.{search, fits_in, is_complete_in, required_for, decided}
use Rattle.turn_laws.specs.RunAtOnce.{took, Again}

-- A place that was taken is no new one.
mem_again : (s : List ℕ) (p q : ℕ) → mem s p ≡ true → mem (s ++ p ∷ []) q ≡ mem s q
mem_again s p q h = bool_cases (mem s q) (λ e. mem_left s (p ∷ []) q e ∙ sym e) (λ e. not_true (mem (s ++ p ∷ []) q) (λ i. mem_cases s (p ∷ []) q (not_both e) (λ y. not_both e (there y)) i) ∙ sym e)
  where
    there : mem (p ∷ []) q ≡ true → mem s q ≡ true
    there y = or_cases (eqb p q) false (λ x. subst (λ (r : ℕ). mem s r ≡ true) (eqb-true p q x) h) (λ x. absurd (false≢true x)) y

pub again_itself : (o : Open) → Again o o
again_itself o = record { element = refl; ends = λ u h. h; last = refl; same = refl }

-- The place is taken once more.
pub again_took : {o v : Open} → Again o v → (p : ℕ) → 1 ≤ p → last_or0 o.taken ≡ p → mem o.taken p ≡ true → Again o (took v p)
again_took {o} {v} a p l e m =
    let there : mem v.taken p ≡ true = ap (λ (S : ℕ → Bool). S p) a.same ∙ m in
    record {
      element = a.element;
      ends = λ u h. subst (IsLast (v.taken ++ p ∷ [])) (sym e ∙ last_is o.taken u h) (last_taken v.taken p l);
      last = last_or0_snoc v.taken p ∙ sym e;
      same = (λ i q. mem_again v.taken p q there i) ∙ a.same;
    }

-- What is decided

module _ {o v : Open} (a : Again o v) where
  pub again_fits : (s : List ℕ) (es : List Element) (t : Token) → fitting s es (decided s es) v t ≡ fitting s es (decided s es) o t
  unfolding fits_in
  again_fits s es t = ap (λ (k : ℕ). fits_in s es (content_of es k) v.taken t) a.element ∙ go (content_of es o.element)
    where
      go : (c : Content) → fits_in s es c v.taken t ≡ fits_in s es c o.taken t
      go empty = refl
      go (model g ps n) = ap₂ (λ (u : ℕ) (S : ℕ → Bool). search (λ p. has_name s es ps t p && next_from g u S p) (size g)) a.last a.same

  pub again_complete : (c : Content) → is_complete_in c v.taken ≡ is_complete_in c o.taken
  unfolding is_complete_in
  again_complete empty = refl
  again_complete (model g ps n) = ap₂ (complete_from g) a.last a.same

  pub again_required : (c : Content) → required_for c v.taken ≡ required_for c o.taken
  unfolding required_for
  again_required empty = refl
  again_required (model g ps n) = ap₂ (required_from g) a.last a.same
