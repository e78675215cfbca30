-- What the kept marks say of the places taken, over walks: "Keep "complete" instead of asking again .. At every moment both must equal what
-- 01's definition says of the places taken." (paper 02, request four)
use Rattle.std.specs.Prelude.{ℕ, zero, suc, ◌≡◌, List, [], ◌∷◌, get_or}
use Rattle.std.proofs.Common.{sym, ◌∙◌, subst, arith}
use Rattle.rules.specs.Settings.{Settings}
use Rattle.rules.specs.Walk.{Group}
use Rattle.rules.specs.TypeFile.{Place, model, Element}
use Rattle.rules.specs.Judge.{Accepts}
use Rattle.rules.specs.Elements.{content_of}
use Rattle.rules.specs.Settling.{State}
use Rattle.rules.specs.Acts.{MarksMean}
use Rattle.rules.specs.Settling as rules
use Rattle.rules_laws.specs.Groups.{GuardedIn}
use Rattle.and_laws.specs.Begun.{next_range}
use Rattle.document_laws.specs.Decide.{content_guarded, decided}
use Rattle.document_laws.specs.Numbers.{type_file_guarded}
use Rattle.document_laws.specs.OneReading.{accepted_decided}
use Rattle.type_laws.specs.Width.{type_file_width}
use Rattle.open_elements.specs.declared.Entry.{Entry}
use Rattle.open_elements.specs.declared.OpenElements.{OpenElements}
use Rattle.open_elements.specs.Stands as kept
use Rattle.open_elements.specs.Stands.{covered, Kept, AllKept, Stands}
use Rattle.basic_laws.specs.Numbers.{none_there}

-- The entry is that of the rules' open element o, and its marks say so. An EMPTY element has no model, and none is ever entered.
pub record Say (es : List Element) (x : Entry) (o : rules.Open) : Type 0 where
  pub element : x.element ≡ o.element
  pub marks : {g : Group} {ps : List Place} {n : ℕ} → content_of es o.element ≡ model g ps n → MarksMean x.complete x.required g o.taken

-- So do the first n entries, the last of them innermost, of the open elements from the innermost outwards.
abbrev pub AllSay : List Element → List Entry → ℕ → List rules.Open → Type 0
AllSay es a zero [] = Unit {0}
AllSay es a zero (o ∷ os) = ⊥
AllSay es a (suc n) [] = ⊥
AllSay es a (suc n) (o ∷ os) = Say es (get_or a n kept.none) o × AllSay es a n os

-- The marks of every open element say what the walks say of the rules' state z, which has all places taken.
pub record MarksSay (es : List Element) (o : OpenElements) (z : State) : Type 0 where
  pub current : Say es (covered o) z.current
  pub around : AllSay es o.around o.count z.around

module _ {c : Settings} (s : List ℕ) (es : List Element) (accepted : Accepts c s es) where
  say : {M begun : List ℕ} {level : ℕ} {x : Entry} {o : rules.Open} → Kept es M begun level x o → Say es x o
  say {x = x} {o = o} h = record { element = sym h.entered.number; marks = by_model }
    where
      by_model : {g : Group} {ps : List Place} {n : ℕ} → content_of es o.element ≡ model g ps n → MarksMean x.complete x.required g o.taken
      by_model {g} {ps} {n} e =
          let means = (accepted_decided s es accepted).walks o.element e o.taken (h.entered.begins (rw h.entered.number at e)) in
          let numbered = (type_file_width c.name_length s es accepted.elements o.element e).2 in
          let guarded = subst GuardedIn e (content_guarded es (type_file_guarded c.name_length s es accepted.elements accepted.unrepeated) o.element) in
          let is_complete : x.complete ≡ (decided s es).complete o.element o.taken = rw h.entered.number h.complete in
          let is_required : x.required ≡ (decided s es).required o.element o.taken = rw h.entered.number h.required in
          record {
            complete = (λ t. means.complete.0 (sym is_complete ∙ t), λ w. is_complete ∙ means.complete.1 w);
            required = λ p l. (
              λ t. let q : p ≡ (decided s es).required o.element o.taken = sym t ∙ is_required in rw q (means.required.some (rw q at l)),
              λ r. is_required ∙ means.required.only p r,
            );
            none = (
              λ t p r.
                  let q : p ≡ 0 = sym (means.required.only p r) ∙ sym is_required ∙ t in
                  omega (arith, next_range g numbered guarded o.taken p r.next),
              λ none. is_required ∙ none_there ((decided s es).required o.element o.taken) (λ l. none _ (means.required.some l)),
            );
          }

  all_say : (M begun : List ℕ) (a : List Entry) (n : ℕ) (os : List rules.Open) → AllKept es M begun a n os → AllSay es a n os
  all_say M begun a zero [] h = tt
  all_say M begun a zero (o ∷ os) h = absurd h
  all_say M begun a (suc n) [] h = absurd h
  all_say M begun a (suc n) (o ∷ os) h = (say h.0, all_say M begun a n os h.1)

  -- So it is wherever the open elements stand for a state of the rules.
  pub marks_say : {M begun : List ℕ} {o : OpenElements} {z : State} → Stands es M begun o z → MarksSay es o z
  marks_say {M} {begun} {o} {z} h = record { current = say h.current; around = all_say M begun o.around o.count z.around h.around }
