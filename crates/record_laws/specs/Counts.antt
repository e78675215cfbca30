-- How often a place of the document is data in events: with a data byte more, and where an end behind a run of data cuts its byte 13.
use Rattle.std.specs.Prelude.{ℕ, zero, suc, ◌+◌, ◌-◌, Bool, ◌&&◌, ◌⊎◌, eqb}
use native.Mathlib.Omega.{arith}
use Rattle.std.proofs.Common.{add-one, ◌∙◌, inl, inr, eqb-true}
use Rattle.std.proofs.Math.Path.{◌≡◌, refl, ap}
use Rattle.std.proofs.Math.Bool.{true, false}
use mathlib.Core.List.{List, [], ◌∷◌, ◌++◌}
use Rattle.rules.specs.Bytes.{byte_at, RE}
use Rattle.rules.specs.Events.{Event, data_run, with_data}
use Rattle.rules.specs.Records.{is_end, due_run, cut, cut_before_ends}
use Rattle.basic_laws.specs.Truth.{and_left, and_right}
use Rattle.record_laws.specs.Tracks.{Held, nothing, one, due}
use Rattle.record_laws.specs.Marks.{is_some}

-- 1 if p is q, else 0.
unfoldable pub same : (p q : ℕ) → ℕ
same p q = elim (eqb p q) [ true ↦ 1 | false ↦ 0 ]

-- How often p stands in a list.
abbrev pub count : ℕ → List ℕ → ℕ
count p [] = 0
count p (q ∷ qs) = same p q + count p qs

pub count_append : (p : ℕ) (x y : List ℕ) → count p (x ++ y) ≡ count p x + count p y
count_append p [] y = omega arith
count_append p (q ∷ x) y = let e : count p (x ++ y) ≡ count p x + count p y = count_append p x y in omega arith

-- How often p is a byte of the run of n bytes from o.
abbrev pub run_count : (p o n : ℕ) → ℕ
run_count p o zero = 0
run_count p o (suc n) = run_count p o n + same p (o + n)

-- How often p is a byte of a data event, and of data events.
abbrev pub event_count : ℕ → Event → ℕ
event_count p e = elim (eqb e.kind 5) [ true ↦ run_count p e.offset e.size | false ↦ 0 ]

abbrev pub data_count : ℕ → List Event → ℕ
data_count p [] = 0
data_count p (e ∷ ev) = event_count p e + data_count p ev

pub data_append : (p : ℕ) (x y : List Event) → data_count p (x ++ y) ≡ data_count p x + data_count p y
data_append p [] y = omega arith
data_append p (e ∷ x) y = let i : data_count p (x ++ y) ≡ data_count p x + data_count p y = data_append p x y in omega arith

pub no_data_lem : (p : ℕ) (e : Event) → eqb e.kind 5 ≡ false → event_count p e ≡ 0
no_data_lem p e t = rw (t, event_count)

run_more : (p o n : ℕ) → run_count p o (n + 1) ≡ run_count p o n + same p (o + n)
run_more p o n = rw add-one

run_one : (p at : ℕ) → run_count p at 1 ≡ same p at
run_one p at = let e : at + 0 ≡ at = omega arith in omega (arith, ap (same p) e)

-- A byte 13 that ends the last run

-- The event is a run of data that ends in a byte 13.
abbrev is_held : (d : List ℕ) → Event → Bool
is_held d e = eqb e.kind 5 && eqb (byte_at d (e.offset + e.size - 1)) RE

abbrev pub held_if : Bool → (o n : ℕ) → Held
held_if true o zero = nothing
held_if true o (suc n) = one (o + n)
held_if false o n = nothing

abbrev pub held_in : (d : List ℕ) → List Event → Held
held_in d [] = nothing
held_in d (e ∷ []) = held_if (is_held d e) e.offset e.size
held_in d (e ∷ f ∷ ev) = held_in d (f ∷ ev)

-- What is cut of an event is that byte.
due_count : (p o n : ℕ) → data_count p (due_run o n) ≡ run_count p o n
due_count p o zero = refl
due_count p o (suc n) = omega arith

event_run : (p : ℕ) (e : Event) → eqb e.kind 5 ≡ true → event_count p e ≡ run_count p e.offset e.size
event_run p e h = rw (h, event_count)

cut_by : (p : ℕ) (e : Event) (n : ℕ) (b : Bool) → eqb e.kind 5 ≡ true ⊎ (b ≡ false) → e.size ≡ n → data_count p (elim b as (λ _. List Event) [ true ↦ due_run e.offset (n - 1) | false ↦ e ∷ [] ]) + count p (due (held_if b e.offset n)) ≡ event_count p e
cut_by p e zero true (inl k) q = omega (arith, event_run p e k, ap (run_count p e.offset) q)
cut_by p e (suc n) true (inl k) q =
    let i : suc n - 1 ≡ n = omega arith in
    omega (arith, ap (λ (m : ℕ). data_count p (due_run e.offset m)) i, due_count p e.offset n, event_run p e k, ap (run_count p e.offset) q)
cut_by p e n true (inr k) q = absurd (let z : ◌≡◌ {A = ℕ} 0 1 = cc in omega arith)
cut_by p e n false k q = omega arith

-- Both, or the test of both fails.
pub and_parts : (a b : Bool) → (a ≡ true) ⊎ ((a && b) ≡ false)
and_parts true b = inl refl
and_parts false b = inr refl

cut_count : (p : ℕ) (d : List ℕ) (e : Event) → data_count p (cut d e) + count p (due (held_in d (e ∷ []))) ≡ event_count p e
unfolding cut
cut_count p d e = cut_by p e e.size (is_held d e) (and_parts (eqb e.kind 5) (eqb (byte_at d (e.offset + e.size - 1)) RE)) refl

-- One event more

module _ (p : ℕ) (d : List ℕ) where
  abbrev settled_count : List Event → ℕ
  settled_count ev = data_count p (cut_before_ends d ev)

  -- An event before others, whose first is an end or not.
  abbrev before : Bool → Event → List Event
  before b e = elim b [ true ↦ cut d e | false ↦ e ∷ [] ]

  pub plain_more : (ev : List Event) (f : Event) → is_end f ≡ false → settled_count (ev ++ f ∷ []) ≡ settled_count ev + event_count p f
  unfolding cut_before_ends
  plain_more [] f h = omega arith
  plain_more (e ∷ []) f h = ap (λ (b : Bool). data_count p (before b e ++ f ∷ [])) h ∙ omega arith
  plain_more (e ∷ g ∷ ev) f h = omega (arith, data_append p (before (is_end g) e) (cut_before_ends d (g ∷ (ev ++ f ∷ []))), data_append p (before (is_end g) e) (cut_before_ends d (g ∷ ev)), plain_more (g ∷ ev) f h)

  pub end_more : (ev : List Event) (f : Event) → is_end f ≡ true → settled_count (ev ++ f ∷ []) + count p (due (held_in d ev)) ≡ settled_count ev + event_count p f
  unfolding cut_before_ends
  end_more [] f h = omega arith
  end_more (e ∷ []) f h = omega (arith, ap (λ (b : Bool). data_count p (before b e ++ f ∷ [])) h, data_append p (cut d e) (f ∷ []), cut_count p d e)
  end_more (e ∷ g ∷ ev) f h = omega (arith, data_append p (before (is_end g) e) (cut_before_ends d (g ∷ (ev ++ f ∷ []))), data_append p (before (is_end g) e) (cut_before_ends d (g ∷ ev)), end_more (g ∷ ev) f h)

  -- A data byte more

  abbrev joins : ℕ → Event → Bool
  joins at e = eqb e.kind 5 && eqb (e.offset + e.size) at

  abbrev joined : ℕ → Event → Bool → List Event
  joined at e b = elim b [ true ↦ data_run e.offset (e.size + 1) ∷ [] | false ↦ e ∷ data_run at 1 ∷ [] ]

  run_event : (at : ℕ) (e : Event) → joins at e ≡ true → event_count p e ≡ run_count p e.offset e.size
  run_event at e h = event_run p e (and_left (eqb e.kind 5) (eqb (e.offset + e.size) at) h)

  run_ends : (at : ℕ) (e : Event) → joins at e ≡ true → e.offset + e.size ≡ at
  run_ends at e h = eqb-true (e.offset + e.size) at (and_right (eqb e.kind 5) (eqb (e.offset + e.size) at) h)

  joined_count : (at : ℕ) (e : Event) (b : Bool) → joins at e ≡ b → settled_count (joined at e b) ≡ event_count p e + 0 + same p at
  unfolding cut_before_ends
  joined_count at e true h = omega (arith, run_event at e h, run_more p e.offset e.size, ap (same p) (run_ends at e h))
  joined_count at e false h = omega (arith, run_one p at)

  -- Whether the first of several is an end.
  abbrev head_end : List Event → Bool
  head_end [] = false
  head_end (e ∷ ev) = is_end e

  cut_cons : (e : Event) (l : List Event) → is_some l ≡ true → cut_before_ends d (e ∷ l) ≡ before (head_end l) e ++ cut_before_ends d l
  unfolding cut_before_ends
  cut_cons e [] h = absurd (let z : ◌≡◌ {A = ℕ} 0 1 = cc in omega arith)
  cut_cons e (f ∷ l) h = refl

  joined_head : (at : ℕ) (e : Event) (b : Bool) → joins at e ≡ b → (is_some (joined at e b) ≡ true) × (head_end (joined at e b) ≡ is_end e)
  joined_head at e true h = (refl, let q : e.kind ≡ 5 = eqb-true e.kind 5 (and_left (eqb e.kind 5) (eqb (e.offset + e.size) at) h) in rw q refl)
  joined_head at e false h = (refl, refl)

  data_head : (at : ℕ) (e : Event) (ev : List Event) → (is_some (with_data at (e ∷ ev)) ≡ true) × (head_end (with_data at (e ∷ ev)) ≡ is_end e)
  unfolding with_data
  data_head at e [] = joined_head at e (joins at e) refl
  data_head at e (f ∷ ev) = (refl, refl)

  pub data_more : (at : ℕ) (ev : List Event) → settled_count (with_data at ev) ≡ settled_count ev + same p at
  unfolding with_data cut_before_ends
  data_more at [] = omega (arith, run_one p at)
  data_more at (e ∷ []) = joined_count at e (joins at e) refl
  data_more at (e ∷ f ∷ ev) =
      let (h, i) = data_head at f ev in
      omega (
        arith,
        ap (data_count p) (cut_cons e (with_data at (f ∷ ev)) h),
        ap (λ (b : Bool). data_count p (before b e ++ cut_before_ends d (with_data at (f ∷ ev)))) i,
        data_append p (before (is_end f) e) (cut_before_ends d (with_data at (f ∷ ev))),
        data_append p (before (is_end f) e) (cut_before_ends d (f ∷ ev)),
        data_more at (f ∷ ev),
      )

-- What is held

module _ (d : List ℕ) where
  -- No event but a data event holds a byte.
  pub held_other : (ev : List Event) (f : Event) → eqb f.kind 5 ≡ false → held_in d (ev ++ f ∷ []) ≡ nothing
  held_other [] f h = ap (λ (b : Bool). held_if (b && eqb (byte_at d (f.offset + f.size - 1)) RE) f.offset f.size) h
  held_other (e ∷ []) f h = held_other [] f h
  held_other (e ∷ g ∷ ev) f h = held_other (g ∷ ev) f h

  -- A data byte is held if it is a byte 13.
  abbrev held_at : Bool → ℕ → Held
  held_at b at = elim b [ true ↦ one at | false ↦ nothing ]

  held_by : (b : Bool) (o n at : ℕ) → o + n ≡ at → held_if b o (suc n) ≡ held_at b at
  held_by true o n at e = ap one e
  held_by false o n at e = refl

  held_run : (o n at : ℕ) → o + n ≡ at → held_in d (data_run o (n + 1) ∷ []) ≡ held_at (eqb (byte_at d at) RE) at
  held_run o n at e =
      let q : o + (n + 1) - 1 ≡ at = omega arith in
      let r : n + 1 ≡ suc n = omega arith in
      ap (λ (i : ℕ). held_if (eqb (byte_at d i) RE) o (n + 1)) q ∙ ap (held_if (eqb (byte_at d at) RE) o) r ∙ held_by (eqb (byte_at d at) RE) o n at e

  held_cons : (e : Event) (l : List Event) → is_some l ≡ true → held_in d (e ∷ l) ≡ held_in d l
  held_cons e [] h = absurd (let z : ◌≡◌ {A = ℕ} 0 1 = cc in omega arith)
  held_cons e (f ∷ l) h = refl

  held_joined : (at : ℕ) (e : Event) (b : Bool) → joins 0 d at e ≡ b → held_in d (joined 0 d at e b) ≡ held_at (eqb (byte_at d at) RE) at
  held_joined at e true h = held_run e.offset e.size at (run_ends 0 d at e h)
  held_joined at e false h = held_run at 0 at (omega arith)

  pub held_data : (at : ℕ) (ev : List Event) → held_in d (with_data at ev) ≡ held_at (eqb (byte_at d at) RE) at
  unfolding with_data
  held_data at [] = held_run at 0 at (omega arith)
  held_data at (e ∷ []) = held_joined at e (joins 0 d at e) refl
  held_data at (e ∷ f ∷ ev) = held_cons e (with_data at (f ∷ ev)) (data_head 0 d at f ev).0 ∙ held_data at (f ∷ ev)
