-- An event among those that are settled: a run of data that was cut, or one of the events themselves, behind what is settled up to it.
use Rattle.std.specs.Prelude.{ℕ, zero, suc, ◌+◌, ◌-◌, ◌≡◌, Bool, ◌&&◌}
use Rattle.std.proofs.Math.Path.{refl, subst}
use Rattle.std.proofs.Common.{sym, ◌∙◌, ap, ap₂, arith}
use Rattle.std.proofs.Math.Bool.{true, false}
use mathlib.Core.List.{List, [], ◌∷◌, ◌++◌, head-eq_of_cons-eq, tail-eq_of_cons-eq, append-nil}
use Rattle.std.proofs.Math.Dec.{eqb}
use Rattle.rules.specs.Settings.{Settings, is_second}
use Rattle.rules.specs.Bytes.{byte_at, RE}
use Rattle.rules.specs.Events.{Event, data_run}
use Rattle.rules.specs.Records.{is_end, due_run, cut, cut_before_ends, records_settled}
use Rattle.record_due.specs.Due.{due_now, due, settled_to, before, beside, none_before, one_before, more_before, either_way}

pub data Among (c : Settings) (d : List ℕ) (ev first : List Event) (e : Event) : Type 0 where
  cut_run : e.kind ≡ 5 → e.place ≡ 0 → Among c d ev first e
  stands : (a b : List Event) → ev ≡ a ++ e ∷ b → settled_to c d e a ≡ first → Among c d ev first e

nothing_there : (a : List Event) (e : Event) (b : List Event) → [] ≡ a ++ e ∷ b → ⊥
nothing_there [] e b i = let no : ◌≡◌ {A = ℕ} 0 1 = cc in omega arith
nothing_there (x ∷ a) e b i = let no : ◌≡◌ {A = ℕ} 0 1 = cc in omega arith

-- What becomes of an event before another.
data Left (x : Event) : List Event → Type 0 where
  gone : Left x []
  same : Left x (x ∷ [])
  shorter : (at n : ℕ) → Left x (data_run at n ∷ [])

module _ (d : List ℕ) where
  left_due : (x : Event) (at n : ℕ) → Left x (due_run at n)
  left_due x at zero = gone
  left_due x at (suc n) = shorter at (suc n)

  left_cut : (x : Event) → Left x (cut d x)
  unfolding cut
  left_cut x = go (eqb x.kind 5 && eqb (byte_at d (x.offset + x.size - 1)) RE)
    where
      go : (t : Bool) → Left x (elim t [ true ↦ due_run x.offset (x.size - 1) | false ↦ x ∷ [] ])
      go true = left_due x x.offset (x.size - 1)
      go false = same

  left_beside : (x g : Event) → Left x (elim (is_end g) [ true ↦ cut d x | false ↦ x ∷ [] ])
  left_beside x g = go (is_end g)
    where
      go : (t : Bool) → Left x (elim t [ true ↦ cut d x | false ↦ x ∷ [] ])
      go true = left_cut x
      go false = same

  -- These hold in edition 2.
  data Found (ev first : List Event) (e : Event) : Type 0 where
    found_run : e.kind ≡ 5 → e.place ≡ 0 → Found ev first e
    found : (a b : List Event) → ev ≡ a ++ e ∷ b → before d e b a ≡ first → Found ev first e

  -- One event more before them.
  before_more : (x g e : Event) (ev a b : List Event) → g ∷ ev ≡ a ++ e ∷ b → before d e b (x ∷ a) ≡ beside d e b x g ++ before d e b a
  before_more x g e ev [] b i =
      let z : g ≡ e = head-eq_of_cons-eq i in
      one_before d e b x ∙ ap (λ (f : Event). beside d e b x f) (sym z) ∙ sym (append-nil (beside d e b x g)) ∙ ap (λ (v : List Event). beside d e b x g ++ v) (sym (none_before d e b))
  before_more x g e ev (h ∷ a) b i =
      let z : g ≡ h = head-eq_of_cons-eq i in
      more_before d e b x h a ∙ ap (λ (f : Event). beside d e b x f ++ before d e b (h ∷ a)) (sym z)

  outward : (x g : Event) (ev left first : List Event) (e : Event) → elim (is_end g) [ true ↦ cut d x | false ↦ x ∷ [] ] ≡ left → Found (g ∷ ev) first e → Found (x ∷ g ∷ ev) (left ++ first) e
  outward x g ev left first e l (found_run k p) = found_run k p
  outward x g ev left first e l (found a b i j) = found (x ∷ a) b (ap (λ (v : List Event). x ∷ v) i) (before_more x g e ev a b i ∙ ap₂ (λ (u v : List Event). u ++ v) l j)

  in_second : (ev first : List Event) (e : Event) (last : List Event) → cut_before_ends d ev ≡ first ++ e ∷ last → Found ev first e
  unfolding cut_before_ends
  in_second [] first e last i = absurd (nothing_there first e last i)
  in_second (x ∷ []) [] e last i = found [] [] (ap (λ (f : Event). f ∷ []) (head-eq_of_cons-eq i)) (none_before d e [])
  in_second (x ∷ []) (y ∷ first) e last i = absurd (nothing_there first e last (tail-eq_of_cons-eq i))
  in_second (x ∷ g ∷ ev) first e last i = go _ refl (left_beside x g) first i (λ rest k. in_second (g ∷ ev) rest e last k)
    where
      go : (left : List Event) → elim (is_end g) [ true ↦ cut d x | false ↦ x ∷ [] ] ≡ left → Left x left → (first : List Event) → left ++ cut_before_ends d (g ∷ ev) ≡ first ++ e ∷ last
          → ((rest : List Event) → cut_before_ends d (g ∷ ev) ≡ rest ++ e ∷ last → Found (g ∷ ev) rest e) → Found (x ∷ g ∷ ev) first e
      go left l gone first i on = outward x g ev [] first e l (on first i)
      go left l same [] i on = found [] (g ∷ ev) (ap (λ (f : Event). f ∷ g ∷ ev) (head-eq_of_cons-eq i)) (none_before d e (g ∷ ev))
      go left l same (y ∷ first) i on =
          subst (λ (f : Event). Found (x ∷ g ∷ ev) (f ∷ first) e) (head-eq_of_cons-eq i) (outward x g ev (x ∷ []) first e l (on first (tail-eq_of_cons-eq i)))
      go left l (shorter at n) [] i on = let z : data_run at n ≡ e = head-eq_of_cons-eq i in found_run (ap (λ (f : Event). f.kind) (sym z)) (ap (λ (f : Event). f.place) (sym z))
      go left l (shorter at n) (y ∷ first) i on =
          subst (λ (f : Event). Found (x ∷ g ∷ ev) (f ∷ first) e) (head-eq_of_cons-eq i) (outward x g ev (data_run at n ∷ []) first e l (on first (tail-eq_of_cons-eq i)))

pub among : (c : Settings) (d : List ℕ) (ev first : List Event) (e : Event) (last : List Event) → records_settled c d ev ≡ first ++ e ∷ last → Among c d ev first e
unfolding records_settled settled_to due
among c d ev first e last i = go (is_second c) refl i
  where
    up_to : (t : Bool) (a : List Event) → List Event
    up_to t a = elim (is_end e) [ true ↦ elim t [ true ↦ due_now d a | false ↦ a ] | false ↦ elim t [ true ↦ cut_before_ends d a | false ↦ a ] ]

    by_found : is_second c ≡ true → Found d ev first e → Among c d ev first e
    by_found t (found_run k p) = cut_run k p
    by_found t (found a b j k) = stands a b j (ap (λ (u : Bool). up_to u a) t ∙ k)

    go : (t : Bool) → is_second c ≡ t → ◌≡◌ {A = List Event} (elim t [ true ↦ cut_before_ends d ev | false ↦ ev ]) (first ++ e ∷ last) → Among c d ev first e
    go true t i = by_found t (in_second d ev first e last i)
    go false t i = stands first last i (ap (λ (u : Bool). up_to u first) t ∙ either_way (is_end e) first)
