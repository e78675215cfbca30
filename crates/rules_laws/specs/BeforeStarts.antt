-- Attribute events before starts, event by event: `with_attributes` walked once.
use Rattle.std.specs.Prelude.{ℕ, ◌+◌, ◌-◌, ◌≡◌}
use Rattle.std.proofs.Math.Path.{refl, sym, ap}
use Rattle.std.proofs.Common.{◌∙◌, ap₂}
use mathlib.Core.List.{List, [], ◌∷◌, ◌++◌, append_assoc}
use Rattle.rules.specs.Reading.{got}
use Rattle.rules.specs.TypeFile.{Element}
use Rattle.rules.specs.Document.{Tag, start_tag_at}
use Rattle.rules.specs.Elements.{element_at}
use Rattle.rules.specs.Events.{Event, start_written, start_inferred, end_written, end_inferred, data_run, end_of_empty}
use Rattle.rules.specs.Given.{attribute_events, given_by, attributes_before, with_attributes}

module _ (long : ℕ) (s : List ℕ) (es : List Element) (d : List ℕ) where
  abbrev With : List Event → List Event
  With = with_attributes long s es d

  pub with_append : (a b : List Event) → With (a ++ b) ≡ With a ++ With b
  unfolding with_attributes
  with_append [] b = refl
  with_append (e ∷ a) b = ap (λ (ev : List Event). attributes_before long s es d e ++ e ∷ ev) (with_append a b) ∙ sym (append_assoc (attributes_before long s es d e) (e ∷ With a) (With b))

  -- Before this event none comes.
  alone : (e : Event) → attributes_before long s es d e ≡ [] → With (e ∷ []) ≡ e ∷ []
  unfolding with_attributes
  alone e h = ap (λ (ev : List Event). ev ++ e ∷ []) h

  with_end_inferred : (k at : ℕ) → With (end_inferred k at ∷ []) ≡ end_inferred k at ∷ []
  unfolding attributes_before
  with_end_inferred k at = alone (end_inferred k at) refl

  with_end_written : (k at after : ℕ) → With (end_written k at after ∷ []) ≡ end_written k at after ∷ []
  unfolding attributes_before
  with_end_written k at after = alone (end_written k at after) refl

  with_data_lem : (at size : ℕ) → With (data_run at size ∷ []) ≡ data_run at size ∷ []
  unfolding attributes_before
  with_data_lem at size = alone (data_run at size) refl

  with_end_of_empty : (k after : ℕ) → With (end_of_empty k after ∷ []) ≡ end_of_empty k after ∷ []
  unfolding attributes_before
  with_end_of_empty k after = alone (end_of_empty k after) refl

  -- A start that is inferred: all its attributes are defaulted.
  pub with_start_inferred : (k at p : ℕ) → With (start_inferred k at p ∷ []) ≡ attribute_events 1 s (element_at es (k - 1)).attributes d [] ++ start_inferred k at p ∷ []
  unfolding attributes_before with_attributes
  with_start_inferred k at p = refl

  -- A start that is written, by the tag that stands there.
  pub with_start_written : (k at after p : ℕ) {t : Tag} → start_tag_at long d (at + 1) ≡ got t → With (start_written k at after p ∷ []) ≡ attribute_events 1 s (element_at es (k - 1)).attributes d t.written ++ start_written k at after p ∷ []
  unfolding attributes_before with_attributes
  with_start_written k at after p e = ap (λ r. attribute_events 1 s (element_at es (k - 1)).attributes d (given_by r) ++ start_written k at after p ∷ []) e

-- Attribute events come before none of these.
pub record Plain (ev : List Event) : Type 0 where
  pub plain : (long : ℕ) (s : List ℕ) (es : List Element) (d : List ℕ) → with_attributes long s es d ev ≡ ev

pub plain_none : Plain []
unfolding with_attributes
plain_none = record { plain = λ c s es d. refl }

pub plain_then : {a b : List Event} → Plain a → Plain b → Plain (a ++ b)
plain_then {a} {b} p q = record { plain = λ c s es d. with_append c s es d a b ∙ ap₂ (λ (u v : List Event). u ++ v) (p.plain c s es d) (q.plain c s es d) }

pub plain_end_inferred : (k at : ℕ) → Plain (end_inferred k at ∷ [])
plain_end_inferred k at = record { plain = λ c s es d. with_end_inferred c s es d k at }

pub plain_end_written : (k at after : ℕ) → Plain (end_written k at after ∷ [])
plain_end_written k at after = record { plain = λ c s es d. with_end_written c s es d k at after }

pub plain_data : (at size : ℕ) → Plain (data_run at size ∷ [])
plain_data at size = record { plain = λ c s es d. with_data_lem c s es d at size }

pub plain_end_of_empty : (k after : ℕ) → Plain (end_of_empty k after ∷ [])
plain_end_of_empty k after = record { plain = λ c s es d. with_end_of_empty c s es d k after }
