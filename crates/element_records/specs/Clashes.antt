-- Laws of the first pair at fault: what the search for one says of a model, and what is pending after it.
use Rattle.std.specs.Prelude.{ℕ, Option, Some, None, true, ◌-◌, ◌≤◌, ◌<◌, ◌≡◌, Bool, false, List, [], ◌∷◌, ◌++◌}
use Rattle.std.proofs.Common.{arith}
use Rattle.std.specs.Option.{is_some}
use Rattle.rules.specs.Walk.{Group}
use Rattle.rules.specs.TypeFile.{Place, Content, empty, model, Element}
use Rattle.rules.specs.Judge.{Unambiguous, AllUnambiguous, PairStandsAt, FirstAmbiguous, here, later}
use Rattle.model_sets.specs.Search.{search_pair}
use Rattle.model_names.specs.Places.{place_in}
use Rattle.model_names.specs.Shared.{place_at_places_of}
use Rattle.and_laws.specs.Fold.{clash}
use Rattle.model_pairs.specs.Rows.{Tells, fault_in}
use Rattle.model_pairs.proofs.Finds.{Holds, tells, answer_none, answer_first}
use Rattle.element_content.specs.declared.Model.{Model}
use Rattle.element_content.specs.Kept.{KeepsModel, KeepsContent}
use Rattle.element_records.specs.declared.Clash.{Clash}
use Rattle.element_records.specs.Progress.{Pending, PendingWith}

-- No element so far is ambiguous, or one is, also with one more.

module _ (s : List ℕ) (x : Element) where
  all_more : (es : List Element) → AllUnambiguous s es → Unambiguous s x.content → AllUnambiguous s (es ++ x ∷ [])
  all_more [] a u = (u, tt)
  all_more (e ∷ es) a u = (a.0, all_more es a.1 u)

  first_more : {k p q : ℕ} {es : List Element} → FirstAmbiguous s k p q es → FirstAmbiguous s k p q (es ++ x ∷ [])
  first_more (here h) = here h
  first_more (later u f) = later u (first_more f)

  first_last : (k p q : ℕ) (es : List Element) → AllUnambiguous s es → PairStandsAt s x.content k p q → FirstAmbiguous s k p q (es ++ x ∷ [])
  first_last k p q [] a h = here h
  first_last k p q (e ∷ es) a h = later a.0 (first_last k p q es a.1 h)

module _ (s : List ℕ) (es : List Element) (x : Content) where
  -- A pair found before stays, whatever the next model is.
  pub pending_kept : (c : Option Clash) → true ≡ is_some c → Pending s c es → PendingWith s c es x
  pending_kept None z h e q = cc
  pending_kept (Some c) z h e q = first_more s e h

  -- Where none was, there is none if the next model is unambiguous.
  pub pending_clear : (c r : Option Clash) → false ≡ is_some c → r ≡ None → Pending s c es → Unambiguous s x → PendingWith s r es x
  pending_clear None r z n h u e q = rw n (all_more s e es h (rw q u))
  pending_clear (Some c) r z n h u e q = cc

  pub pending_first : (c : Option Clash) (d : Clash) → false ≡ is_some c → Pending s c es → PairStandsAt s x d.at d.first d.second → PendingWith s (Some d) es x
  pending_first None d z h f e q = first_last s e d.at d.first d.second es h (rw q f)
  pending_first (Some c) d z h f e q = cc

-- EMPTY is unambiguous.
pub content_empty : (s names table : List ℕ) (x : Content) → KeepsContent names table None x → Unambiguous s x
content_empty s names table empty k = tt
content_empty s names table (model g ps n) k = absurd k

-- What it says of a model, where no "&" of it is refused.
module _ (s names table : List ℕ) (m : Model) (none : m.repeated ≡ None) (p q : ℕ)
    (answered : (F : ℕ → ℕ → Bool) → Tells table m.places m.code m.and F → (p, q) ≡ search_pair (fault_in s names F m.places) m.places) where
  holds : (g : Group) (ps : List Place) → KeepsModel names table m g ps → Holds table g m.places m.code m.and
  holds g ps k =
      record {
        numbered = k.numbered;
        guarded = k.guarded none;
        sized = k.sized;
        few = k.places_in_lem;
        says = k.says;
        room = k.room;
        spelled = k.spelled;
        plain = k.plain;
      }

  found : (g : Group) (ps : List Place) → KeepsModel names table m g ps → (p, q) ≡ search_pair (fault_in s names (clash g) m.places) m.places
  found g ps k = answered (clash g) (tells table g m.places m.code m.and (holds g ps k))

  pub content_none : (x : Content) → p ≡ 0 → KeepsContent names table (Some m) x → Unambiguous s x
  content_none empty z k = absurd k
  content_none (model g ps t) z k =
      let w = k.2 in
      rw (← w.names_hold) (answer_none table g m.places m.code m.and (holds g ps w) s names p q answered z)

  pub content_pair : (x : Content) (at : ℕ) → (1 ≤ p) × (p < q) × (q ≤ m.places) → at ≡ (place_in names (q - 1)).at → KeepsContent names table (Some m) x → PairStandsAt s x at p q
  content_pair empty at h e k = absurd k
  content_pair (model g ps t) at h e k =
      let w = k.2 in
      rw (← w.names_hold) (
        answer_first table g m.places m.code m.and (holds g ps w) s names p q answered h.0,
        rw (place_at_places_of names m.places (q - 1) (omega arith)) e,
      )
