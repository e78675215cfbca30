-- The events that are due: those of `records_settled`, where an end comes next. What an event more does to both is one law each, by the event.
use Rattle.std.specs.Prelude.{ℕ, ◌+◌, ◌-◌, Bool, ◌&&◌}
use Rattle.std.proofs.Math.Path.{◌≡◌, refl, sym, ap}
use Rattle.std.proofs.Common.{◌∙◌}
use Rattle.std.proofs.Math.Bool.{true, false}
use Rattle.std.proofs.lemmas.Bool.{false≢true}
use mathlib.Core.List.{List, [], ◌∷◌, ◌++◌, append_assoc}
use Rattle.std.proofs.Math.Dec.{eqb}
use Rattle.rules.specs.Settings.{Settings, is_second}
use Rattle.rules.specs.Bytes.{byte_at, RE}
use Rattle.rules.specs.Events.{Event, data_run}
use Rattle.rules.specs.Records.{is_end, due_run, cut, cut_before_ends, records_settled}

-- The events if an end came next, in edition 2: the last one is cut too.
unfoldable pub due_now : (d : List ℕ) → List Event → List Event
due_now d [] = []
due_now d (e ∷ []) = cut d e
due_now d (e ∷ f ∷ ev) = elim (is_end f) [ true ↦ cut d e | false ↦ e ∷ [] ] ++ due_now d (f ∷ ev)

-- The events if an end came next, in the edition of the settings c.
unfoldable pub due : Settings → (d : List ℕ) → List Event → List Event
due c d ev = elim (is_second c) [ true ↦ due_now d ev | false ↦ ev ]

-- This is what stands of the last event then.
unfoldable pub shown : Settings → (d : List ℕ) → Event → List Event
shown c d e = elim (is_second c) [ true ↦ cut d e | false ↦ e ∷ [] ]

-- What stands of ev before f.
unfoldable pub settled_to : Settings → (d : List ℕ) → (f : Event) → (ev : List Event) → List Event
settled_to c d f ev = elim (is_end f) [ true ↦ due c d ev | false ↦ records_settled c d ev ]

-- In edition 2

module _ (d : List ℕ) (f : Event) (b : List Event) where
  -- The event e before g.
  abbrev pub beside : (e g : Event) → List Event
  beside e g = elim (is_end g) [ true ↦ cut d e | false ↦ e ∷ [] ]

  abbrev pub before : List Event → List Event
  before a = elim (is_end f) [ true ↦ due_now d a | false ↦ cut_before_ends d a ]

  pub none_before : before [] ≡ []
  unfolding due_now cut_before_ends
  none_before = go (is_end f)
    where
      go : (t : Bool) → ◌≡◌ {A = List Event} (elim t [ true ↦ due_now d [] | false ↦ cut_before_ends d [] ]) []
      go true = refl
      go false = refl

  pub one_before : (e : Event) → before (e ∷ []) ≡ elim (is_end f) [ true ↦ cut d e | false ↦ e ∷ [] ]
  unfolding due_now cut_before_ends
  one_before e = go (is_end f)
    where
      go : (t : Bool) → ◌≡◌ {A = List Event} (elim t [ true ↦ due_now d (e ∷ []) | false ↦ cut_before_ends d (e ∷ []) ]) (elim t [ true ↦ cut d e | false ↦ e ∷ [] ])
      go true = refl
      go false = refl

  pub more_before : (e g : Event) (a : List Event) → before (e ∷ g ∷ a) ≡ elim (is_end g) [ true ↦ cut d e | false ↦ e ∷ [] ] ++ before (g ∷ a)
  unfolding due_now cut_before_ends
  more_before e g a = go (is_end f)
    where
      go : (t : Bool) → ◌≡◌ {A = List Event} (elim t [ true ↦ due_now d (e ∷ g ∷ a) | false ↦ cut_before_ends d (e ∷ g ∷ a) ]) (elim (is_end g) [ true ↦ cut d e | false ↦ e ∷ [] ] ++ elim t [ true ↦ due_now d (g ∷ a) | false ↦ cut_before_ends d (g ∷ a) ])
      go true = refl
      go false = refl

  cut_append : (a : List Event) → cut_before_ends d (a ++ f ∷ b) ≡ before a ++ cut_before_ends d (f ∷ b)
  unfolding cut_before_ends
  cut_append [] = ap (λ (x : List Event). x ++ cut_before_ends d (f ∷ b)) (sym none_before)
  cut_append (e ∷ []) = ap (λ (x : List Event). x ++ cut_before_ends d (f ∷ b)) (sym (one_before e))
  cut_append (e ∷ g ∷ a) =
      let x = beside e g in
      ap (λ (v : List Event). x ++ v) (cut_append (g ∷ a)) ∙ sym (append_assoc x (before (g ∷ a)) (cut_before_ends d (f ∷ b))) ∙ ap (λ (v : List Event). v ++ cut_before_ends d (f ∷ b)) (sym (more_before e g a))

  now_append : (a : List Event) → due_now d (a ++ f ∷ b) ≡ before a ++ due_now d (f ∷ b)
  unfolding due_now
  now_append [] = ap (λ (x : List Event). x ++ due_now d (f ∷ b)) (sym none_before)
  now_append (e ∷ []) = ap (λ (x : List Event). x ++ due_now d (f ∷ b)) (sym (one_before e))
  now_append (e ∷ g ∷ a) =
      let x = beside e g in
      ap (λ (v : List Event). x ++ v) (now_append (g ∷ a)) ∙ sym (append_assoc x (before (g ∷ a)) (due_now d (f ∷ b))) ∙ ap (λ (v : List Event). v ++ due_now d (f ∷ b)) (sym (more_before e g a))

-- In either edition

pub either_way : {A : Type 0} (t : Bool) (x : A) → elim t [ true ↦ x | false ↦ x ] ≡ x
either_way true x = refl
either_way false x = refl

module _ (c : Settings) (d : List ℕ) where
  pub due_none : due c d [] ≡ []
  unfolding due due_now
  due_none = either_way (is_second c) []

  pub due_one : (e : Event) → due c d (e ∷ []) ≡ shown c d e
  unfolding due due_now shown
  due_one e = refl

  pub settled_none : records_settled c d [] ≡ []
  unfolding records_settled cut_before_ends
  settled_none = either_way (is_second c) []

  pub settled_one : (e : Event) → records_settled c d (e ∷ []) ≡ e ∷ []
  unfolding records_settled cut_before_ends
  settled_one e = either_way (is_second c) (e ∷ [])

  -- The events before f, then f and those behind it.
  pub settled_append : (a : List Event) (f : Event) (b : List Event) → records_settled c d (a ++ f ∷ b) ≡ settled_to c d f a ++ records_settled c d (f ∷ b)
  unfolding records_settled settled_to due
  settled_append a f b = go (is_second c) (cut_append d f b a)
    where
      go : (t : Bool) → cut_before_ends d (a ++ f ∷ b) ≡ elim (is_end f) [ true ↦ due_now d a | false ↦ cut_before_ends d a ] ++ cut_before_ends d (f ∷ b)
          → ◌≡◌ {A = List Event} (elim t [ true ↦ cut_before_ends d (a ++ f ∷ b) | false ↦ a ++ f ∷ b ])
          (elim (is_end f) [ true ↦ elim t [ true ↦ due_now d a | false ↦ a ] | false ↦ elim t [ true ↦ cut_before_ends d a | false ↦ a ] ] ++ elim t [ true ↦ cut_before_ends d (f ∷ b) | false ↦ f ∷ b ])
      go true e = e
      go false e = ap (λ (x : List Event). x ++ f ∷ b) (sym (either_way (is_end f) a))

  pub due_append : (a : List Event) (f : Event) (b : List Event) → due c d (a ++ f ∷ b) ≡ settled_to c d f a ++ due c d (f ∷ b)
  unfolding records_settled settled_to due
  due_append a f b = go (is_second c) (now_append d f b a)
    where
      go : (t : Bool) → due_now d (a ++ f ∷ b) ≡ elim (is_end f) [ true ↦ due_now d a | false ↦ cut_before_ends d a ] ++ due_now d (f ∷ b)
          → ◌≡◌ {A = List Event} (elim t [ true ↦ due_now d (a ++ f ∷ b) | false ↦ a ++ f ∷ b ])
          (elim (is_end f) [ true ↦ elim t [ true ↦ due_now d a | false ↦ a ] | false ↦ elim t [ true ↦ cut_before_ends d a | false ↦ a ] ] ++ elim t [ true ↦ due_now d (f ∷ b) | false ↦ f ∷ b ])
      go true e = e
      go false e = ap (λ (x : List Event). x ++ f ∷ b) (sym (either_way (is_end f) a))

  -- Before an end what is due stands, before any other event what is settled.
  pub to_end : (f : Event) (a : List Event) → is_end f ≡ true → settled_to c d f a ≡ due c d a
  unfolding settled_to
  to_end f a h = rw (settled_to, h)

  pub to_other : (f : Event) (a : List Event) → is_end f ≡ false → settled_to c d f a ≡ records_settled c d a
  unfolding settled_to
  to_other f a h = rw (settled_to, h)

  -- An event that is no data is shown as it is.
  pub shown_other : (e : Event) → eqb e.kind 5 ≡ false → shown c d e ≡ e ∷ []
  unfolding shown cut
  shown_other e h = go (eqb e.kind 5) h (is_second c)
    where
      go : (k : Bool) → k ≡ false → (t : Bool) → ◌≡◌ {A = List Event} (elim t [ true ↦ elim (k && eqb (byte_at d (e.offset + e.size - 1)) RE) [ true ↦ due_run e.offset (e.size - 1) | false ↦ e ∷ [] ] | false ↦ e ∷ [] ]) (e ∷ [])
      go false h true = refl
      go false h false = refl
      go true h t = absurd (false≢true (sym h))

  -- A run of data is shown without its last byte where that is a byte 13, in edition 2.
  pub shown_run : (at n : ℕ) → (is_second c && eqb (byte_at d (at + n - 1)) RE) ≡ false → shown c d (data_run at n) ≡ data_run at n ∷ []
  unfolding shown cut
  shown_run at n h = go (is_second c) (eqb (byte_at d (at + n - 1)) RE) h
    where
      go : (t u : Bool) → (t && u) ≡ false → ◌≡◌ {A = List Event} (elim t [ true ↦ elim u [ true ↦ due_run at (n - 1) | false ↦ data_run at n ∷ [] ] | false ↦ data_run at n ∷ [] ]) (data_run at n ∷ [])
      go true false h = refl
      go false u h = refl
      go true true h = absurd (false≢true (sym h))

  pub shown_held : (at n : ℕ) → (is_second c && eqb (byte_at d (at + n - 1)) RE) ≡ true → shown c d (data_run at n) ≡ due_run at (n - 1)
  unfolding shown cut
  shown_held at n h = go (is_second c) (eqb (byte_at d (at + n - 1)) RE) h
    where
      go : (t u : Bool) → (t && u) ≡ true → ◌≡◌ {A = List Event} (elim t [ true ↦ elim u [ true ↦ due_run at (n - 1) | false ↦ data_run at n ∷ [] ] | false ↦ data_run at n ∷ [] ]) (due_run at (n - 1))
      go true true h = refl
      go true false h = absurd (false≢true h)
      go false u h = absurd (false≢true h)
