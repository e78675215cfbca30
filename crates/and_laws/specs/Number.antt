-- The required place is the fold's number; how the set of places taken grows; without "&" the set does not count.
use Rattle.std.specs.Prelude.{ℕ, ◌≡◌, Bool, ◌↔◌, List, []}
use Rattle.std.proofs.Common.{sym, ◌∙◌}
use Rattle.basic_laws.specs.Truth.{and_left, and_right, and_both}
use Rattle.model_sets.specs.Sets.{has, first, required_first}
use Rattle.rules.specs.Walk.{Group, Begins}
use Rattle.and_laws.specs.Base.{Ends}
use Rattle.and_laws.specs.Sets.{held, Good, ends_has}
use Rattle.and_laws.specs.Left.{Agrees}
use Rattle.and_laws.specs.Decide.{fit, next_fold, next_start}
use Rattle.and_laws.specs.Required.{RequiredBy, same_begun, forced_fold, forced_start, none_begun}
use Rattle.and_laws.specs.Forced.{first_has, State}
use Rattle.and_laws.specs.Req.{required_next, sound0, complete0, sound, complete, some_first, first_other}

-- The set of places taken: nothing at the start, one place more at each step; without "&" any set will do.

-- The required place, for p that is not 0.
module _ (g : Group) (good : Good g) (u : ℕ) (S : ℕ → Bool) (s : List ℕ) (e : Ends s u) (agree : Agrees (held g) s S) (begun : Begins g s) (p : ℕ) (pos : p ≡ 0 → ⊥) where
  state : State g u S
  state = (s, begun.0, e, agree, begun.1)

  pub number_required : (required_next g u S ≡ p) ↔ RequiredBy g s p
  number_required = (there, back)
    where
      there : required_next g u S ≡ p → RequiredBy g s p
      there f =
          let (x, c) = sound p pos S g good u (ends_has g s u e begun) f in
          ((forced_fold g good u S s e agree begun p).0 (and_both x.0 x.1), λ h o n q i y. c h o (same_begun g good u S s e agree begun p h o ∙ n) q i ((next_fold g good u S s e agree begun q).1 y))

      back : RequiredBy g s p → required_next g u S ≡ p
      back (f, k) =
          let x = (forced_fold g good u S s e agree begun p).1 f in
          complete p pos S g good u (ends_has g s u e begun) state (and_left (fit g u S p) _ x, and_right (fit g u S p) _ x) (λ h o n q i y. (k h o (sym (same_begun g good u S s e agree begun p h o) ∙ n) q i ((next_fold g good u S s e agree begun q).0 y)))

module _ (g : Group) (good : Good g) (p : ℕ) (pos : p ≡ 0 → ⊥) where
  pub number_required_start : (required_first g ≡ p) ↔ RequiredBy g [] p
  number_required_start = (there, back)
    where
      there : required_first g ≡ p → RequiredBy g [] p
      there f =
          let (x, c) = sound0 p pos g good f in
          ((forced_start g p).0 (and_both x.0 x.1), λ h o n q i y. c h o)

      back : RequiredBy g [] p → required_first g ≡ p
      back (f, k) =
          let x = (forced_start g p).1 f in
          complete0 p pos g good (and_left (first g p) _ x, and_right (first g p) _ x) (λ h o.
          let (q, y) = some_first h in
          k h o (none_begun g p h) q (first_has h q y) ((next_start g q).0 (first_other p g good h q o (and_left (first g p) _ x) y)))
