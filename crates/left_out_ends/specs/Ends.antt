-- Ends inferred from the current element outwards, in the rules: what one end comes to, and how an end tag and the document's end go on where no more is inferred.
use Rattle.std.specs.Prelude.{ℕ, ◌≤◌, ◌≡◌, Bool, true, false, eqb}
use Rattle.std.proofs.Math.Path.{refl}
use Rattle.std.proofs.Common.{ap, sym, ◌∙◌, arith, eq-eqb, ne_eqb, eqb-true}
use mathlib.Core.List.{List, [], ◌∷◌, ◌++◌}
use Rattle.std.proofs.lemmas.Bool.{eqb-false}
use Rattle.rules.specs.Reading.{Reading, refused, got, and_then}
use Rattle.rules.specs.TypeFile.{Element}
use Rattle.rules.specs.Elements.{end_o}
use Rattle.rules.specs.Decisions.{Decisions}
use Rattle.rules.specs.Events.{Event, end_inferred, end_written}
use Rattle.rules.specs.Settling.{Open, State, is_open, is_complete, end_left_out, close_from, end_element, end_from, end_document}
use Rattle.left_out_ends.specs.Until.{infer_ends}

-- One end

module _ (s : List ℕ) (es : List Element) (D : Decisions) (at : ℕ) (o : Open) where
  pub left_incomplete : is_complete s es D o ≡ false → end_left_out s es D at o ≡ refused 13 at
  unfolding end_left_out
  left_incomplete h = rw (h, end_left_out)

  pub left_required : is_complete s es D o ≡ true → end_o es o.element ≡ false → end_left_out s es D at o ≡ refused 14 at
  unfolding end_left_out
  left_required h n = rw (h, n, end_left_out)

  pub left_out : is_complete s es D o ≡ true → end_o es o.element ≡ true → end_left_out s es D at o ≡ got (end_inferred o.element at)
  unfolding end_left_out
  left_out h n = rw (h, n, end_left_out)

-- Inferring ends

then_then : {A B : Type 0} (r : Reading A) (f : A → Reading State) (g : A → Reading B) (k : State → Reading B) → ((a : A) → g a ≡ and_then (f a) k) → and_then r g ≡ and_then (and_then r f) k
then_then (refused n j) f g k h = refl
then_then (got a) f g k h = h a

module _ (s : List ℕ) (es : List Element) (D : Decisions) (x at : ℕ) where
  -- From a state of the rules.
  abbrev pub inferred_from : State → Reading State
  inferred_from z = infer_ends s es D x at z.around z.current z.events

  pub ends_here : (os : List Open) (o : Open) (ev : List Event) → o.element ≡ x → infer_ends s es D x at os o ev ≡ got (record { current = o; around = os; events = ev })
  unfolding infer_ends
  ends_here [] o ev e = refl
  ends_here (u ∷ os) o ev e = rw (eq-eqb o.element x e, infer_ends)

  pub ends_none : (o : Open) (ev : List Event) → infer_ends s es D x at [] o ev ≡ got (record { current = o; around = []; events = ev })
  unfolding infer_ends
  ends_none o ev = refl

  pub ends_past : (u : Open) (os : List Open) (o : Open) (ev : List Event) → (o.element ≡ x → ⊥)
      → infer_ends s es D x at (u ∷ os) o ev ≡ and_then (end_left_out s es D at o) λ e. infer_ends s es D x at os u (ev ++ e ∷ [])
  unfolding infer_ends
  ends_past u os o ev n = rw (ne_eqb o.element x n, infer_ends)

  module _ (after : ℕ) where
    abbrev pub close_on : State → Reading State
    close_on z = close_from s es D x at after z.around z.current z.events

    pub close_none : (o : Open) (ev : List Event) → close_from s es D x at after [] o ev ≡ refused 11 at
    unfolding close_from
    close_none o ev = refl

    close_past : (u : Open) (os : List Open) (o : Open) (ev : List Event) → (o.element ≡ x → ⊥)
        → close_from s es D x at after (u ∷ os) o ev ≡ and_then (end_left_out s es D at o) λ e. close_from s es D x at after os u (ev ++ e ∷ [])
    unfolding close_from
    close_past u os o ev n = rw (ne_eqb o.element x n, close_from)

    -- An end tag goes on where no more ends are inferred.
    pub close_ends_lem : (os : List Open) (o : Open) (ev : List Event) → close_from s es D x at after os o ev ≡ and_then (infer_ends s es D x at os o ev) close_on
    close_ends_lem [] o ev = rw (ends_none o ev)
    close_ends_lem (u ∷ os) o ev = by_test (eqb o.element x) refl (λ e. close_ends_lem os u (ev ++ e ∷ []))
      where
        by_test : (b : Bool) → eqb o.element x ≡ b → ((e : Event) → close_from s es D x at after os u (ev ++ e ∷ []) ≡ and_then (infer_ends s es D x at os u (ev ++ e ∷ [])) close_on)
            → close_from s es D x at after (u ∷ os) o ev ≡ and_then (infer_ends s es D x at (u ∷ os) o ev) close_on
        by_test true t ih = rw (ends_here (u ∷ os) o ev (eqb-true o.element x t))
        by_test false t ih =
            let n : o.element ≡ x → ⊥ = eqb-false o.element x t in
            close_past u os o ev n ∙ then_then (end_left_out s es D at o) _ _ close_on ih ∙ sym (ap (λ r. and_then r close_on) (ends_past u os o ev n))

-- Each of these elements but the outermost has a number: that is the document itself.
abbrev pub Numbered : Open → List Open → Type 0
Numbered o [] = Unit {0}
Numbered o (u ∷ os) = (1 ≤ o.element) × Numbered u os

module _ (s : List ℕ) (es : List Element) (D : Decisions) (at : ℕ) where
  abbrev pub end_on : State → Reading (List Event)
  end_on z = end_from s es D at z.around z.current z.events

  end_past : (u : Open) (os : List Open) (o : Open) (ev : List Event)
      → end_from s es D at (u ∷ os) o ev ≡ and_then (end_left_out s es D at o) λ e. end_from s es D at os u (ev ++ e ∷ [])
  unfolding end_from
  end_past u os o ev = refl

  -- So does the document's end: none is left open.
  pub end_ends : (os : List Open) (o : Open) (ev : List Event) → Numbered o os → end_from s es D at os o ev ≡ and_then (infer_ends s es D 0 at os o ev) end_on
  end_ends [] o ev h = rw (ends_none s es D 0 at o ev)
  end_ends (u ∷ os) o ev h =
      let n : o.element ≡ 0 → ⊥ = (λ z. omega (arith, h.0)) in
      end_past u os o ev
      ∙ then_then (end_left_out s es D at o) _ _ end_on (λ e. end_ends os u (ev ++ e ∷ []) h.1)
      ∙ sym (ap (λ r. and_then r end_on) (ends_past s es D 0 at u os o ev n))

-- An end tag

module _ (s : List ℕ) (es : List Element) (D : Decisions) (x at after : ℕ) where
  pub element_open : (z : State) → is_open x (z.current ∷ z.around) ≡ true → end_element s es D x at after z ≡ close_from s es D x at after z.around z.current z.events
  unfolding end_element
  element_open z h = rw (h, end_element)

  pub element_shut : (z : State) → is_open x (z.current ∷ z.around) ≡ false → end_element s es D x at after z ≡ refused 11 at
  unfolding end_element
  element_shut z h = rw (h, end_element)

  pub close_incomplete : (u : Open) (os : List Open) (o : Open) (ev : List Event) → o.element ≡ x → is_complete s es D o ≡ false
      → close_from s es D x at after (u ∷ os) o ev ≡ refused 13 at
  unfolding close_from
  close_incomplete u os o ev e h = rw (eq-eqb o.element x e, h, close_from)

  pub close_complete : (u : Open) (os : List Open) (o : Open) (ev : List Event) → o.element ≡ x → is_complete s es D o ≡ true
      → close_from s es D x at after (u ∷ os) o ev ≡ got (record { current = u; around = os; events = ev ++ end_written x at after ∷ [] })
  unfolding close_from
  close_complete u os o ev e h = rw (eq-eqb o.element x e, h, close_from)

-- The document's end

module _ (s : List ℕ) (es : List Element) (D : Decisions) (at : ℕ) where
  pub document_end : (z : State) → end_document s es D at z ≡ end_from s es D at z.around z.current z.events
  unfolding end_document
  document_end z = refl

  pub end_incomplete : (o : Open) (ev : List Event) → is_complete s es D o ≡ false → end_from s es D at [] o ev ≡ refused 18 at
  unfolding end_from
  end_incomplete o ev h = rw (h, end_from)

  pub end_complete : (o : Open) (ev : List Event) → is_complete s es D o ≡ true → end_from s es D at [] o ev ≡ got ev
  unfolding end_from
  end_complete o ev h = rw (h, end_from)
